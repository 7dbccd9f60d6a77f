-- One turn of the loop that goes from line to line, as laws over lists and numbers: what holds at the start, what a turn
-- adds and what holds at the end.
use mathlib.Core.Path.{◌≡◌, refl, sym, ap, ap₂, ◌∙◌}
use mathlib.Core.Bool.{true, false}
use mathlib.Core.List.{List, [], ◌∷◌, ◌++◌, append_assoc, append-nil}
use Prim.Native.Nat.{ℕ, zero, suc, ◌+◌, ◌-◌, ◌*◌, ◌≤◌, ◌<◌}
use native.Mathlib.Omega.{arith}
use lib.Dec.{eqb}
use lib.IntN.{ℤ, pos}
use lib.ListN.{length, drop, get_or, set, replicate, length-replicate, length-append, length-drop}
use lib.ListN.{drop_of_length-le}
use lib.Seq.{sets, sets-eq, drop-cons, take_at, drop-append-add}
use borrow.Author.Tests.{eqb-true}
use Rattle.paper.specs.declared.Verdict.TheVariants.{Done}
use Rattle.paper.specs.Numbers.{row_numbers, all_numbers_most}
use Rattle.paper.specs.Ranges.{unsigned}
use Rattle.text_bytes.specs.Bytes.{line_feed, is_line_feed, pieces}
use Rattle.text_bytes.proofs.Spelling.{impossible}
use Rattle.text_bytes.proofs.Pieces.{pieces_none, pieces_more, Parted, all, more, parted, pieces_some}
use Rattle.exchange_protocol.specs.Exchange.{Ended, line_numbers, rows_most, text_most, in_one, accepted, refused, Says}
use Rattle.exchange_protocol.specs.Scan.{front, none, line, WrittenLine}
use Rattle.exchange_protocol.proofs.Lines.{ended_reads, line_back, row_has_seven}
use Rattle.exchange_protocol.proofs.Walk.{Sofar, none_yet, own_row, other_row, ends_no_row, ends_seventeenth}
use Rattle.exchange_protocol.proofs.Walk.{ends_unended}
use Rattle.exchange_protocol.proofs.Walk.{ends_good}

-- ---- line after line

pub some_left : (n : ℕ) → false ≡ eqb n 0 → 0 < n
some_left zero e = impossible cc
some_left (suc n) e = omega arith

feed_only : (b : ℕ) → is_line_feed b ≡ true → b ≡ line_feed
unfolding is_line_feed
feed_only b e = eqb-true b line_feed e

feed_is : is_line_feed line_feed ≡ true
unfolding is_line_feed
feed_is = refl

module _ (id : ℕ) (t : List ℕ) where
  abbrev ls : List (List ℕ)
  ls = pieces is_line_feed t

  module _ (u v p : List ℕ) (k : ℕ) (rows : List (List ℤ)) (s : Sofar id ls (pieces is_line_feed u) k rows)
      (is : pieces is_line_feed u ≡ p ∷ pieces is_line_feed v) where
    behind : {A : Type 0} → ((q : List ℕ) (ps : List (List ℕ)) → pieces is_line_feed v ≡ q ∷ ps → A) → A
    behind {A} f = go (pieces is_line_feed v) refl
      where
        go : (ps : List (List ℕ)) → pieces is_line_feed v ≡ ps → A
        go [] e = pieces_some is_line_feed v e
        go (q ∷ ps) e = f q ps e

    opened : (q : List ℕ) (ps : List (List ℕ)) → pieces is_line_feed v ≡ q ∷ ps → Sofar id ls (p ∷ q ∷ ps) k rows
    opened q ps e = rw (is, e) at s

    own_step : {row : List ℤ} → Ended p id row → length rows < rows_most
        → Sofar id ls (pieces is_line_feed v) (suc k) (rows ++ row ∷ [])
    own_step e h = behind (λ q ps i. rw i (own_row id ls p q ps k rows (opened q ps i) e h))

    other_step : {i : ℕ} {row : List ℤ} → Ended p i row → (i ≡ id → ⊥) → Sofar id ls (pieces is_line_feed v) (suc k) rows
    other_step e n = behind (λ q ps i. rw i (other_row id ls p q ps k rows (opened q ps i) e n))

    full_step : length t ≤ text_most → {row : List ℤ} → Ended p id row → rows_most ≤ length rows
        → Says id t (refused (suc k))
    full_step f e h = behind (λ q ps i. ends_seventeenth id t f k rows p q ps (opened q ps i) e h)

    bad_step : length t ≤ text_most → ((i : ℕ) (row : List ℤ) → Ended p i row → ⊥) → Says id t (refused (suc k))
    bad_step f n = behind (λ q ps i. ends_no_row id t f k rows p q ps (opened q ps i) n)

-- how the loop stands: `number` is the next line's, and the array has the rows and zeros
pub record Reads (id : ℕ) (t : List ℕ) (array : List ℤ) (rest : List ℕ) (number count : ℕ) : Type 0 where
  pub rows : List (List ℤ)
  pub k : ℕ
  pub fits : length t ≤ text_most
  pub few_lines : k + length rest ≤ length t
  pub next : number ≡ suc k
  pub counts : count ≡ length rows
  pub sevens : length (in_one rows) ≡ row_numbers * length rows
  pub holds : array ≡ in_one rows ++ replicate (all_numbers_most - row_numbers * length rows) (pos 0)
  pub sofar : Sofar id (pieces is_line_feed t) (pieces is_line_feed rest) k rows

pub reads_none : (id : ℕ) (t : List ℕ) → length t ≤ text_most
    → Reads id t (replicate all_numbers_most (pos 0)) t 1 0
unfolding in_one
reads_none id t h =
    record {
      rows = [];
      k = 0;
      fits = h;
      few_lines = omega arith;
      next = refl;
      counts = refl;
      sevens = refl;
      holds = refl;
      sofar = none_yet id (pieces is_line_feed t) (pieces is_line_feed t) refl;
    }

in_one_more : (rows : List (List ℤ)) (row : List ℤ) → in_one (rows ++ row ∷ []) ≡ in_one rows ++ row
unfolding in_one
in_one_more [] row = append-nil row
in_one_more (r ∷ rows) row = ap (λ (x : List ℤ). r ++ x) (in_one_more rows row) ∙ sym (append_assoc r (in_one rows) row)

drop_zeros : (n m : ℕ) → drop n (replicate (n + m) (pos 0)) ≡ replicate m (pos 0)
drop_zeros zero m = let e : 0 + m ≡ m = omega arith in rw e
drop_zeros (suc n) m = let e : suc n + m ≡ suc (n + m) = omega arith in rw e (drop_zeros n m)

-- a row stored behind those that are there
stored : (a row : List ℤ) (n m : ℕ) → length a ≡ n → length row ≡ row_numbers
    → sets (a ++ replicate (row_numbers + m) (pos 0)) n row ≡ (a ++ row) ++ replicate m (pos 0)
stored a row n m h l =
    let z : List ℤ = replicate (row_numbers + m) (pos 0) in
    let o : n + length row ≤ length (a ++ z) =
    rw (length-append a z, length-replicate (row_numbers + m) (pos 0)) (omega arith) in
    let i : n + length row ≡ length a + row_numbers = omega arith in
    let d : drop (n + length row) (a ++ z) ≡ replicate m (pos 0) =
    ap (λ (x : ℕ). drop x (a ++ z)) i ∙ drop-append-add a z row_numbers ∙ drop_zeros row_numbers m in
    sets-eq row (a ++ z) n o
    ∙ ap₂ (λ (x y : List ℤ). (x ++ row) ++ y) (take_at a z n h) d

module _ (id : ℕ) (t : List ℕ) (array : List ℤ) (rest : List ℕ) (number count : ℕ) (s : Reads id t array rest number count)
  where
    pub reads_all : length rest ≡ 0 → Says id t (record { verdict = Done; line = 0; count = count; rows = array })
    unfolding accepted pieces
    reads_all h =
        let e : pieces is_line_feed rest ≡ [] ∷ [] = rw (empty_is rest h) in
        rw (s.counts, s.holds)
        (ends_good id t s.fits s.k s.rows [] (rw e at s.sofar) refl)
      where
        empty_is : (u : List ℕ) → length u ≡ 0 → u ≡ []
        empty_is [] e = refl
        empty_is (b ∷ u) e = absurd (omega arith)

    pub number_fits : number ≤ text_most + 1
    number_fits = omega (arith, s.next, s.few_lines, s.fits)

    pub reads_bad : 0 < length rest → none ≡ line rest → Says id t (refused number)
    reads_bad h none_here = rw s.next (go rest refl (parted is_line_feed rest))
      where
        go : (v : List ℕ) → rest ≡ v → Parted is_line_feed v → Says id t (refused (suc s.k))
        go v e (all f) =
            let o : 0 < length v = rw (← e) h in
            ends_unended id t s.fits s.k s.rows v (rw (e, pieces_none is_line_feed f) at s.sofar) o
        go _ e (more {p} {b} v f g) =
            let i : b ≡ line_feed = feed_only b g in
            let j : rest ≡ p ++ line_feed ∷ v = e ∙ ap (λ (x : ℕ). p ++ x ∷ v) i in
            bad_step id t rest v p s.k s.rows s.sofar
            (ap (pieces is_line_feed) e ∙ pieces_more is_line_feed v f g) s.fits
            (λ n row x. no_line p v j n row x)
          where
            no_line : (p v : List ℕ) → rest ≡ p ++ line_feed ∷ v → (n : ℕ) (row : List ℤ) → Ended p n row → ⊥
            no_line p v j n row x =
                let y : none ≡ front (pos n ∷ row) v = none_here ∙ ap line j ∙ ended_reads v x in
                impossible cc

    module _ (ys : List ℤ) (behind : List ℕ) (l : front ys behind ≡ line rest) where
      found : WrittenLine rest ys behind
      found = line_back rest ys behind (sym l)

      pub further : length behind < length rest
      further = omega (arith, ap length found.is ∙ length-append found.p (line_feed ∷ behind))

      piece : pieces is_line_feed rest ≡ found.p ∷ pieces is_line_feed behind
      piece = ap (pieces is_line_feed) found.is ∙ pieces_more is_line_feed behind found.unbroken feed_is

      id_is : unsigned (get_or ys 0 (pos 0)) ≡ found.id
      unfolding unsigned
      id_is = ap (λ (x : List ℤ). unsigned (get_or x 0 (pos 0))) found.numbers

      pub reads_other : (unsigned (get_or ys 0 (pos 0)) ≡ id → ⊥) → Reads id t array behind (number + 1) count
      reads_other n =
          record {
            rows = s.rows;
            k = suc s.k;
            fits = s.fits;
            few_lines = omega (arith, s.few_lines, further);
            next = omega (arith, s.next);
            counts = s.counts;
            sevens = s.sevens;
            holds = s.holds;
            sofar =
                other_step id t rest behind found.p s.k s.rows s.sofar piece
                found.ended
                (λ e. n (id_is ∙ e));
          }

      module _ (own : unsigned (get_or ys 0 (pos 0)) ≡ id) where
        ended : Ended found.p id found.row
        ended = rw (sym id_is ∙ own) at found.ended

        pub reads_seventeenth : rows_most ≤ count → Says id t (refused number)
        reads_seventeenth g =
            rw s.next
            (full_step id t rest behind found.p s.k s.rows s.sofar piece s.fits ended
            (omega (arith, s.counts)))

        pub reads_own : count < rows_most → (after : List ℤ) → after ≡ sets array (row_numbers * count) (drop 1 ys)
            → Reads id t after behind (number + 1) (count + 1)
        reads_own g after e =
            let c : count ≡ length s.rows = s.counts in
            let m : length (s.rows ++ found.row ∷ []) ≡ length s.rows + 1 =
            length-append s.rows (found.row ∷ []) in
            let w : length found.row ≡ row_numbers = row_has_seven ended in
            let i : drop 1 ys ≡ found.row = ap (λ (x : List ℤ). drop 1 x) found.numbers in
            let j : in_one (s.rows ++ found.row ∷ []) ≡ in_one s.rows ++ found.row =
            in_one_more s.rows found.row in
            let n : ℕ = all_numbers_most - row_numbers * (length s.rows + 1) in
            let o : all_numbers_most - row_numbers * length s.rows ≡ row_numbers + n = omega arith in
            let a : length (in_one s.rows) ≡ row_numbers * count = s.sevens
            ∙ ap (λ (x : ℕ). row_numbers * x) (sym c) in
            record {
              rows = s.rows ++ found.row ∷ [];
              k = suc s.k;
              fits = s.fits;
              few_lines = omega (arith, s.few_lines, further);
              next = omega (arith, s.next);
              counts = omega (arith, c, m);
              sevens = ap length j ∙ length-append (in_one s.rows) found.row ∙ omega (arith, s.sevens, w, m);
              holds =
                  e ∙ ap (λ (x : List ℤ). sets x (row_numbers * count) (drop 1 ys))
                  (s.holds ∙ ap (λ (x : ℕ). in_one s.rows ++ replicate x (pos 0)) o)
                  ∙ ap (λ (x : List ℤ). sets (in_one s.rows ++ replicate (row_numbers + n) (pos 0))
                  (row_numbers * count) x) i
                  ∙ stored (in_one s.rows) found.row (row_numbers * count) n a w
                  ∙ ap₂ (λ (x : List ℤ) (y : ℕ). x ++ replicate (all_numbers_most - row_numbers * y) (pos 0)) (sym j)
                  (sym m);
              sofar =
                  own_step id t rest behind found.p s.k s.rows s.sofar piece ended
                  (omega (arith, c));
            }
