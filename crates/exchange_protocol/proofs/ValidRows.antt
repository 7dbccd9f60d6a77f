-- The rows that a text gives are a day's rows: an evaluation takes them as they stand.
use mathlib.Core.Path.{◌≡◌, refl, ap, ◌∙◌}
use mathlib.Core.Bool.{true}
use mathlib.Core.List.{List, [], ◌++◌, append_assoc}
use Prim.Native.Nat.{ℕ, ◌+◌, ◌-◌, ◌*◌, ◌/◌, ◌%◌, ◌≤◌, ◌<◌}
use native.Mathlib.Omega.{arith}
use lib.Arith.{digits_div, digits_mod}
use lib.IntN.{ℤ, pos}
use lib.ListN.{length, take, get_or, replicate, length-append, get_or-append}
use lib.Seq.{get_or-append-add, take_at}
use borrow.Author.Tests.{le-leb}
use Rattle.paper.specs.Lists.{every}
use Rattle.paper.specs.Numbers.{row_numbers, all_numbers_most}
use Rattle.paper.specs.Ranges.{parts_from, row_at, rows_of, whole_rows, valid_row, valid_rows}
use Rattle.exchange_protocol.specs.declared.Reading.{Reading}
use Rattle.exchange_protocol.specs.Exchange.{Ended, by_lf, by_cr_lf, rows_most, RowsOf, no_line, its_own}
use Rattle.exchange_protocol.specs.Exchange.{another's}
use Rattle.exchange_protocol.specs.Exchange.{in_one, accepted, refused, Says, too_long, bad_at_lem, good}
use Rattle.exchange_protocol.proofs.Lines.{row_has_seven}
use Rattle.exchange_protocol.proofs.Texts.{says_few, rows_sevens}

ended_valid : {p : List ℕ} {id : ℕ} {row : List ℤ} → Ended p id row → valid_row (row_at row 0) ≡ true
ended_valid (by_lf a) = a.valid
ended_valid (by_cr_lf a) = a.valid

-- a row in the midst of others
module _ (a row rest : List ℤ) (long : length row ≡ row_numbers) where
  at_place : (i : ℕ) → i < row_numbers → get_or (a ++ (row ++ rest)) (length a + i) (pos 0) ≡ get_or row i (pos 0)
  at_place i h = get_or-append-add a (row ++ rest) i (pos 0) ∙ get_or-append row rest (pos 0) i (omega arith)

  row_at_lem : row_at (a ++ (row ++ rest)) (length a) ≡ row_at row 0
  unfolding row_at
  row_at_lem =
      let e : length a ≡ length a + 0 = omega arith in
      let f : get_or (a ++ (row ++ rest)) (length a) (pos 0) ≡ get_or row 0 (pos 0) =
      ap (λ (n : ℕ). get_or (a ++ (row ++ rest)) n (pos 0)) e ∙ at_place 0 (omega arith) in
      rw (
        f,
        at_place 1 (omega arith),
        at_place 2 (omega arith),
        at_place 3 (omega arith),
        at_place 4 (omega arith),
        at_place 5 (omega arith),
        at_place 6 (omega arith),
      )

every_valid : {id : ℕ} {ls : List (List ℕ)} {rows : List (List ℤ)} (a : List ℤ) → RowsOf id ls rows
    → every valid_row (parts_from row_at row_numbers (a ++ in_one rows) (length a) (length rows)) ≡ true
unfolding every parts_from in_one
every_valid a no_line = refl
every_valid a (its_own {row = row} {rows} e r) =
    let s : length (a ++ row) ≡ length a + row_numbers = length-append a row
    ∙ ap (λ (n : ℕ). length a + n) (row_has_seven e) in
    let b : List ℤ = in_one rows in
    let i : every valid_row (parts_from row_at row_numbers (a ++ (row ++ b)) (length a + row_numbers) (length rows)) ≡ true =
    rw (← s, ← append_assoc a row b) (every_valid (a ++ row) r) in
    rw (row_at_lem a row b (row_has_seven e), ended_valid e) i
every_valid a (another's e n r) = every_valid a r

rows_valid : {id : ℕ} {ls : List (List ℕ)} {rows : List (List ℤ)} → RowsOf id ls rows → length rows ≤ rows_most
    → valid_rows (in_one rows) ≡ true
unfolding valid_rows whole_rows rows_of
rows_valid {rows = rows} r h =
    let l : length (in_one rows) ≡ length rows * row_numbers + 0 = rows_sevens r ∙ omega arith in
    let o : 0 < row_numbers = omega arith in
    let m : (length rows * row_numbers + 0) % row_numbers ≡ 0 = digits_mod (length rows) o in
    let d : (length rows * row_numbers + 0) / row_numbers ≡ length rows = digits_div (length rows) o in
    let b : length rows * row_numbers + 0 ≤ all_numbers_most = omega arith in
    rw (l, m, d, le-leb (length rows * row_numbers + 0) all_numbers_most b) (every_valid [] r)

-- THE ROWS THAT A TEXT GIVES ARE A DAY'S ROWS (a refusal's are none)
pub says_valid : {id : ℕ} {t : List ℕ} {r : Reading} → Says id t r
    → valid_rows (take (row_numbers * r.count) r.rows) ≡ true
unfolding accepted refused valid_rows whole_rows rows_of parts_from every
says_valid (too_long h) = refl
says_valid (bad_at_lem h b f) = refl
says_valid {id} {t} (good {rows = rows} h f r) =
    ap valid_rows
    (take_at (in_one rows) (replicate (all_numbers_most - row_numbers * length rows) (pos 0)) (row_numbers * length rows)
    (rows_sevens r))
    ∙ rows_valid r few
  where
    few : length rows ≤ rows_most
    few = says_few {id = id} {t = t} (good h f r)
