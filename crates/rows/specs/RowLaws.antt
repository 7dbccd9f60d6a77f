-- Laws of the day's rows: those from a place on, and what a row in range gives.
use Rattle.std.specs.Prelude.{◌≡◌, true, false, List, ℕ, ◌%◌, ◌≤◌, leb, eqb, ℤ, pos, length, get_or, ◌+◌, ◌<◌}
use Rattle.std.proofs.Common.{arith, leb-true, eqb-true}
use Rattle.std.specs.List.{IsSubsliceAt}
use Rattle.std.specs.Int.Signed.{mag, lt_z}
use Rattle.std.proofs.Math.Nat.{add-zero}
use Rattle.paper.specs.declared.Row.{Row}
use Rattle.paper.specs.Lists.{every}
use Rattle.paper.specs.Numbers.{row_numbers, all_numbers_most, row_term_most, central_most, repo_most, price_most, volume_most}
use Rattle.paper.specs.Ranges.{LentRow, row_at, rows_of, whole_rows, valid_rows, valid_row, row_of}
use Rattle.paper.proofs.Logic.{and_left, and_right}
use Rattle.exact.specs.LentLaws.{parts_left, left_first}
use Rattle.exact.specs.SignedLaws.{unsigned_le, within_not_below_zero, repo_within_most}

-- ---- the rows from a place on

abbrev pub rest_of : (numbers : List ℤ) → (at : ℕ) → List LentRow
rest_of numbers at = parts_left row_at row_numbers numbers at

pub rest_first : (numbers : List ℤ) → rest_of numbers 0 ≡ rows_of numbers
unfolding rows_of
rest_first numbers = left_first row_at row_numbers numbers

-- seven numbers that stand at a place are the row there, and so is a chunk of seven
pub same_row : (numbers x : List ℤ) (at : ℕ)
    → ((j : ℕ) → j < row_numbers → get_or x j (pos 0) ≡ get_or numbers (at + j) (pos 0))
    → row_at x 0 ≡ row_at numbers at
unfolding row_at
same_row numbers x at e =
    let first = rw add-zero at (e 0 (omega arith)) in
    rw (
      first,
      e 1 (omega arith),
      e 2 (omega arith),
      e 3 (omega arith),
      e 4 (omega arith),
      e 5 (omega arith),
      e 6 (omega arith),
    )

pub chunk_is_row : (numbers x : List ℤ) (at : ℕ) → IsSubsliceAt row_numbers numbers at x → row_at x 0 ≡ row_at numbers at
chunk_is_row numbers x at e = same_row numbers x at (λ j h. e.2 j (pos 0) h)

-- ---- what numbers that are not refused give

pub whole_in_sevens : (numbers : List ℤ) → whole_rows numbers ≡ true → length numbers % row_numbers ≡ 0
unfolding whole_rows
whole_in_sevens numbers e =
    eqb-true (length numbers % row_numbers) 0
    (and_left (eqb (length numbers % row_numbers) 0) (leb (length numbers) all_numbers_most) e)

pub whole_within_most : (numbers : List ℤ) → whole_rows numbers ≡ true → length numbers ≤ all_numbers_most
unfolding whole_rows
whole_within_most numbers e = leb-true (length numbers) all_numbers_most
    (and_right (eqb (length numbers % row_numbers) 0) (leb (length numbers) all_numbers_most) e)

pub valid_whole : (numbers : List ℤ) → valid_rows numbers ≡ true → whole_rows numbers ≡ true
unfolding valid_rows
valid_whole numbers e = and_left (whole_rows numbers) (every valid_row (rows_of numbers)) e

pub valid_every : (numbers : List ℤ) → valid_rows numbers ≡ true → every valid_row (rows_of numbers) ≡ true
unfolding valid_rows
valid_every numbers e = and_right (whole_rows numbers) (every valid_row (rows_of numbers)) e

-- ---- what a row in range gives

-- the ends of a row's ranges, as far as arithmetic asks for them
pub record InRange (row : Row) : Type 0 where
  pub t : row.t ≤ row_term_most
  pub central : row.central ≤ central_most
  pub repo : mag row.repo ≤ mag repo_most
  pub close : row.close ≤ price_most
  pub bid : row.bid ≤ price_most
  pub ask : row.ask ≤ price_most
  pub volume : row.volume ≤ volume_most

pub valid_row_in_range : (row : LentRow) → valid_row row ≡ true → InRange (row_of row)
unfolding valid_row row_of
valid_row_in_range row e =
    record {
      t = unsigned_le 0 row_term_most row.t (omega arith) (search (e, and_left, and_right) depth 40);
      central = unsigned_le 1 central_most row.central (omega arith) (search (e, and_left, and_right) depth 40);
      repo = repo_within_most row.repo (search (e, and_left, and_right) depth 40);
      close = unsigned_le 0 price_most row.close (omega arith) (search (e, and_left, and_right) depth 40);
      bid = unsigned_le 0 price_most row.bid (omega arith) (search (e, and_left, and_right) depth 40);
      ask = unsigned_le 0 price_most row.ask (omega arith) (search (e, and_left, and_right) depth 40);
      volume = unsigned_le 0 volume_most row.volume (omega arith) (search (e, and_left, and_right) depth 40);
    }

-- none of its numbers but the repo rate is below zero
pub record Natural (row : LentRow) : Type 0 where
  pub t : lt_z row.t (pos 0) ≡ false
  pub central : lt_z row.central (pos 0) ≡ false
  pub close : lt_z row.close (pos 0) ≡ false
  pub bid : lt_z row.bid (pos 0) ≡ false
  pub ask : lt_z row.ask (pos 0) ≡ false
  pub volume : lt_z row.volume (pos 0) ≡ false

pub valid_not_below_zero : (row : LentRow) → valid_row row ≡ true → Natural row
unfolding valid_row
valid_not_below_zero row e =
    record {
      t = within_not_below_zero 0 (pos row_term_most) row.t (search (e, and_left, and_right) depth 40);
      central = within_not_below_zero 1 (pos central_most) row.central (search (e, and_left, and_right) depth 40);
      close = within_not_below_zero 0 (pos price_most) row.close (search (e, and_left, and_right) depth 40);
      bid = within_not_below_zero 0 (pos price_most) row.bid (search (e, and_left, and_right) depth 40);
      ask = within_not_below_zero 0 (pos price_most) row.ask (search (e, and_left, and_right) depth 40);
      volume = within_not_below_zero 0 (pos volume_most) row.volume (search (e, and_left, and_right) depth 40);
    }
