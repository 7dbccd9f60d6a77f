-- What `gather` keeps at each row: the book so far, joined with the rows still to come, is the book of all rows, and
-- the rows still to come decide whether all are in range and taken.
use mathlib.Core.Path.{◌≡◌, refl, sym, ap, ◌∙◌}
use mathlib.Core.Bool.{Bool, true, false, not, ◌&&◌, ◌||◌}
use mathlib.Core.List.{List, [], ◌∷◌, ◌++◌, map}
use mathlib.Core.Logic.{◌⊎◌, inl, inr}
use Prim.Native.Nat.{ℕ, ◌+◌, ◌-◌, ◌≤◌, ◌<◌}
use native.Mathlib.Omega.{arith}
use borrow.Author.Tests.{not-true}
use lib.IntN.{ℤ, pos}
use lib.ListN.{length, drop, get_or, get_or-append, length-append}
use lib.Seq.{drop-append_seam, drop-drop, get_or-drop}
use Rattle.std.proofs.Common.{length-drop}
use Rattle.paper.specs.declared.Row.{Row}
use Rattle.paper.specs.Lists.{every, some}
use Rattle.paper.specs.Numbers.{row_numbers}
use Rattle.paper.specs.Ranges.{LentRow, row_at, rows_of, whole_rows, valid_row, valid_rows, row_of}
use Rattle.paper_desk.specs.Evaluation.{roubles_of, day_rows, is_crossed_row, has_crossed_row, row_fits}
use Rattle.paper.proofs.Logic.{not_true_and_false, and_left, and_right, le_or_lt}
use Rattle.exact.specs.EveryLaws.{every_cons, every_in, every_out, every_nil}
use Rattle.exact.specs.LentLaws.{Place, place_first, place_next, place_room, left_here, left_end}
use Rattle.rows.specs.RowLaws.{rest_of, rest_first, same_row, whole_in_sevens, valid_row_in_range}
use Rattle.evaluation.specs.declared.Book.{Book}
use Rattle.std.specs.declared.result.Result.{Result}
use Rattle.std.specs.declared.result.Result.TheVariants.{Ok, Err}
use Rattle.evaluation.specs.declared.RowsRefused.{RowsRefused}
use Rattle.evaluation.specs.declared.RowsRefused.TheVariants.{OutOfRange, Crossed, Beyond}
use Rattle.evaluation.specs.Book.{added, book_of, is_taken, gathered_of, Gathers}
use Rattle.std.specs.Prelude.{is_ok}
use Rattle.evaluation.proofs.Prices.{roubles_are_fitting}
use Rattle.evaluation.proofs.Books.{joined, empty, joined_first, joined_next, joined_none, Filled, filled_first}
use Rattle.evaluation.proofs.Books.{filled_next}

-- the day's rows from a place on
unfoldable pub rows_left : List ℤ → ℕ → List Row
rows_left numbers at = map row_of (rest_of numbers at)

pub record Gathering (numbers : List ℤ) (at : ℕ) (b : Book) : Type 0 where
  pub place : Place row_numbers numbers at
  pub valid : every valid_row (rest_of numbers at) ≡ every valid_row (rows_of numbers)
  pub taken : every is_taken (rows_left numbers at) ≡ every is_taken (day_rows numbers)
  pub book : joined b (map roubles_of (rows_left numbers at)) ≡ book_of (map roubles_of (day_rows numbers))
  pub filled : Filled at b

left_first : (numbers : List ℤ) → rows_left numbers 0 ≡ day_rows numbers
unfolding rows_left day_rows
left_first numbers = ap (map row_of) (rest_first numbers)

pub gathering_first : (numbers : List ℤ) → Gathering numbers 0 empty
gathering_first numbers =
    record {
      place = place_first row_numbers numbers;
      valid = ap (every valid_row) (rest_first numbers);
      taken = ap (every is_taken) (left_first numbers);
      book = joined_first _ ∙ ap (λ (ws : List Row). book_of (map roubles_of ws)) (left_first numbers);
      filled = filled_first;
    }

-- ---- which of 6, 16 and 7 refuses

-- all rows are taken where none is crossed and all fit
taken_splits : (rows : List Row) → every is_taken rows ≡ (not (has_crossed_row rows) && every row_fits rows)
unfolding every some has_crossed_row
taken_splits [] = refl
taken_splits (row ∷ rows) = step (is_crossed_row row) (row_fits row) _ _ _ (taken_splits rows)
  where
    step : (c f cs fs rest : Bool) → rest ≡ (not cs && fs) → ((not c && f) && rest) ≡ (not (c || cs) && (f && fs))
    step true f cs fs rest e = refl
    step false true cs fs rest e = e
    step false false true fs rest e = refl
    step false false false fs rest e = refl

pub gathered_out : (numbers : List ℤ) → valid_rows numbers ≡ false → Err OutOfRange ≡ gathered_of numbers
unfolding gathered_of
gathered_out numbers v = rw v

pub gathered_crossed : (numbers : List ℤ) → valid_rows numbers ≡ true → has_crossed_row (day_rows numbers) ≡ true
    → Err Crossed ≡ gathered_of numbers
unfolding gathered_of
gathered_crossed numbers v c = rw (v, c)

pub gathered_beyond : (numbers : List ℤ) → valid_rows numbers ≡ true → has_crossed_row (day_rows numbers) ≡ false
    → every is_taken (day_rows numbers) ≡ false → Err Beyond ≡ gathered_of numbers
unfolding gathered_of
gathered_beyond numbers v c t =
    let no : every row_fits (day_rows numbers) ≡ false = rw c at (sym (taken_splits (day_rows numbers)) ∙ t) in
    rw (v, c, no)

-- what is no book has no bounds to keep
pub no_book_gathers : (numbers : List ℤ) (r : Result Book RowsRefused) → is_ok r ≡ false → r ≡ gathered_of numbers → Gathers numbers r
no_book_gathers numbers r n e =
    record { is = e; bound = record { bounded = λ b q. absurd (not_true_and_false (is_ok r) (ap is_ok q) n) } }

-- rows that are not whole are out of range
pub torn_rows_not_valid : (numbers : List ℤ) → whole_rows numbers ≡ false → valid_rows numbers ≡ false
unfolding valid_rows
torn_rows_not_valid numbers e = rw e

-- ---- a turn

module _ (numbers : List ℤ) (at : ℕ) (b : Book) (room : at + row_numbers ≤ length numbers)
    (g : Gathering numbers at b) where
  here : rest_of numbers at ≡ row_at numbers at ∷ rest_of numbers (at + row_numbers)
  here = left_here row_at row_numbers numbers at (omega arith) room

  left : rows_left numbers at ≡ row_of (row_at numbers at) ∷ rows_left numbers (at + row_numbers)
  unfolding rows_left row_of
  left = ap (map row_of) here

  -- a row that is out of range decides
  pub row_out_of_range_not_valid : whole_rows numbers ≡ true → valid_row (row_at numbers at) ≡ false
      → valid_rows numbers ≡ false
  unfolding valid_rows
  row_out_of_range_not_valid whole e =
      let no : every valid_row (rows_of numbers) ≡ false = sym g.valid ∙ every_out valid_row here e in
      rw (whole, no)

  module _ (row : Row) (is : row ≡ row_of (row_at numbers at)) where
    split : every is_taken (rows_left numbers at) ≡ (is_taken row && every is_taken (rows_left numbers (at + row_numbers)))
    split = rw is (every_cons is_taken left)

    -- one row more
    pub gathering_next : valid_row (row_at numbers at) ≡ true → is_taken row ≡ true
        → Gathering numbers (at + row_numbers) (added b (roubles_of row))
    unfolding roubles_of
    gathering_next v e =
        record {
          place = place_next row_numbers numbers at g.place room;
          valid = sym (every_in valid_row here v) ∙ g.valid;
          taken =
              sym (split ∙ ap (λ (t : Bool). t && every is_taken (rows_left numbers (at + row_numbers))) e) ∙ g.taken;
          book = rw is
              (sym (joined_next b (roubles_of (row_of (row_at numbers at)))
              (map roubles_of (rows_left numbers (at + row_numbers))))
              ∙ sym (ap (λ (ws : List Row). joined b (map roubles_of ws)) left)
              ∙ g.book);
          filled =
              filled_next at b (roubles_of row) g.filled
              (roubles_are_fitting row (rw is (valid_row_in_range (row_at numbers at) v))
              (and_right (not (is_crossed_row row)) (row_fits row) e));
        }

    -- a row that is not taken decides
    pub row_refused_not_all_taken : is_taken row ≡ false → every is_taken (day_rows numbers) ≡ false
    row_refused_not_all_taken e = sym g.taken ∙ split
        ∙ ap (λ (t : Bool). t && every is_taken (rows_left numbers (at + row_numbers))) e

-- ---- the walk over chunks of seven: what is left of the numbers begins at a place

pub record Walking (numbers ahead : List ℤ) (size : ℕ) (b : Book) : Type 0 where
  pub at : ℕ
  pub is : ahead ≡ drop at numbers
  pub seven : size ≡ row_numbers
  pub gathering : Gathering numbers at b

pub walking_first : (numbers rest : List ℤ) (size : ℕ) → rest ≡ numbers → size ≡ row_numbers
    → Walking numbers rest size empty
walking_first numbers rest size e n = record { at = 0; is = e; seven = n; gathering = gathering_first numbers }

left_length : (numbers ahead : List ℤ) (size : ℕ) (b : Book) (w : Walking numbers ahead size b)
    → length ahead ≡ length numbers - w.at
left_length numbers ahead size b w = ap length w.is ∙ length-drop w.at numbers

-- a chunk is the row at hand, and the rest begins behind it
module _ (numbers ahead : List ℤ) (size : ℕ) (b : Book) (w : Walking numbers ahead size b) (x rest : List ℤ)
    (e : ahead ≡ x ++ rest) (n : length x ≡ size) where
  pub chunk_room : w.at + row_numbers ≤ length numbers
  chunk_room = omega (arith, left_length numbers ahead size b w, ap length e ∙ length-append x rest, n, w.seven)

  pub chunk_row : row_at x 0 ≡ row_at numbers w.at
  chunk_row =
      same_row numbers x w.at
      (λ j h.
      sym (get_or-append x rest (pos 0) j (omega (arith, n, w.seven, h)))
      ∙ sym (ap (λ (l : List ℤ). get_or l j (pos 0)) e)
      ∙ ap (λ (l : List ℤ). get_or l j (pos 0)) w.is
      ∙ get_or-drop w.at numbers j (pos 0))

  pub walking_next : (s : ℕ) (c : Book) → s ≡ size → Gathering numbers (w.at + row_numbers) c → Walking numbers rest s c
  walking_next s c same g =
      record {
        at = w.at + row_numbers;
        is =
            sym (drop-append_seam x rest)
            ∙ ap (λ (k : ℕ). drop k (x ++ rest)) (n ∙ w.seven)
            ∙ ap (λ (l : List ℤ). drop row_numbers l) (sym e ∙ w.is)
            ∙ drop-drop row_numbers w.at numbers;
        seven = same ∙ w.seven;
        gathering = g;
      }

-- where no chunk is left the place is the end
pub walked : (numbers ahead : List ℤ) (size : ℕ) (b : Book) (w : Walking numbers ahead size b) → whole_rows numbers ≡ true
    → length ahead < size
    → length numbers ≤ w.at
walked numbers ahead size b w whole short = go (le_or_lt (length numbers) w.at)
  where
    go : (length numbers ≤ w.at) ⊎ (w.at < length numbers) → length numbers ≤ w.at
    go (inl l) = l
    go (inr l) =
        absurd
        (omega (
          arith,
          place_room row_numbers numbers w.at (whole_in_sevens numbers whole) w.gathering.place l,
          left_length numbers ahead size b w,
          w.seven,
          short,
        ))

-- at the end the book is that of all rows
pub walked_rows_gather : (numbers : List ℤ) (at : ℕ) (b : Book) → whole_rows numbers ≡ true → length numbers ≤ at
    → Gathering numbers at b
    → Gathers numbers (Ok b)
unfolding gathered_of valid_rows rows_left
walked_rows_gather numbers at b whole h g =
    let none = left_end row_at row_numbers numbers at (omega arith) h in
    let valid : every valid_row (rows_of numbers) ≡ true = sym g.valid ∙ every_nil valid_row none in
    let all : (not (has_crossed_row (day_rows numbers)) && every row_fits (day_rows numbers)) ≡ true =
    sym (taken_splits (day_rows numbers)) ∙ sym g.taken ∙ every_nil is_taken (ap (map row_of) none) in
    let uncrossed : has_crossed_row (day_rows numbers) ≡ false =
    not-true _ (and_left (not (has_crossed_row (day_rows numbers))) (every row_fits (day_rows numbers)) all) in
    let fit = and_right (not (has_crossed_row (day_rows numbers))) (every row_fits (day_rows numbers)) all in
    let same : b ≡ book_of (map roubles_of (day_rows numbers)) = sym (joined_none b)
    ∙ sym (ap (λ (ws : List LentRow). joined b (map roubles_of (map row_of ws))) none) ∙ g.book in
    record {
      is = rw (whole, valid, uncrossed, fit) (ap Ok same);
      bound = record { bounded = λ c q. let e : b ≡ c = cc in rw e at g.filled.bounded };
    }
