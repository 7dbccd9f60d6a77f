-- The walk for the first row at fault: what it keeps at a place, and what each turn makes of that.
use mathlib.Core.Path.{◌≡◌, refl, sym, ap, ◌∙◌}
use mathlib.Core.Bool.{true, false, ◌&&◌}
use mathlib.Core.List.{List, ◌∷◌}
use Prim.Native.Nat.{ℕ, suc, ◌+◌, ◌*◌, ◌≤◌}
use native.Mathlib.Numerals.{add-one}
use native.Mathlib.Omega.{arith}
use lib.IntN.{ℤ}
use lib.ListN.{length}
use Rattle.paper.specs.Lists.{pick, every}
use Rattle.paper.specs.Numbers.{row_numbers}
use Rattle.paper.specs.Ranges.{LentRow, row_at, rows_of}
use Rattle.paper.specs.Verdicts.{first_named}
use Rattle.paper.proofs.Logic.{and_left, and_right}
use Rattle.exact.specs.EveryLaws.{every_cons}
use Rattle.exact.specs.LentLaws.{Place, place_first, place_next, left_here, left_end}
use Rattle.rows.specs.RowLaws.{rest_of, rest_first}
use Rattle.std.specs.declared.option.Option.{Option}
use Rattle.std.specs.declared.option.Option.TheVariants.{None, Some}
use Rattle.paper_reasons.specs.declared.Fault.{Fault}
use Rattle.paper_reasons.specs.declared.Fault.TheVariants as fault
use Rattle.paper_reasons.specs.Faults.{rows_at_fault, first_row}
use Rattle.record_reasons.specs.declared.faults.RowFault.{RowFault}
use Rattle.record_reasons.specs.RowFaults.{at_fault, judgeable, row_fault}

-- the first at fault of rows that are counted from a number on
abbrev first_from : RowFault → ℕ → List LentRow → Option Fault
first_from which number rows = first_named None (rows_at_fault number (at_fault which) rows)

-- at a place: the row there has its number, the rows that are left decide for all, and each of them may be judged
pub record Seeking (which : RowFault) (numbers : List ℤ) (at number : ℕ) : Type 0 where
  pub place : Place row_numbers numbers at
  pub counts : number * row_numbers ≡ at + row_numbers
  pub names : first_from which number (rest_of numbers at) ≡ row_fault which (rows_of numbers)
  pub judged : every (judgeable which) (rest_of numbers at) ≡ true

pub seeking_first : (which : RowFault) (numbers : List ℤ) → every (judgeable which) (rows_of numbers) ≡ true
    → Seeking which numbers 0 1
seeking_first which numbers v =
    record {
      place = place_first row_numbers numbers;
      counts = refl;
      names = ap (first_from which first_row) (rest_first numbers);
      judged = ap (every (judgeable which)) (rest_first numbers) ∙ v;
    }

module _ (which : RowFault) (numbers : List ℤ) (at number : ℕ) (s : Seeking which numbers at number)
    (h : at + row_numbers ≤ length numbers) where
  rows_left : rest_of numbers at ≡ row_at numbers at ∷ rest_of numbers (at + row_numbers)
  rows_left = left_here row_at row_numbers numbers at (omega arith) h

  all_judged : (judgeable which (row_at numbers at) && every (judgeable which) (rest_of numbers (at + row_numbers))) ≡ true
  all_judged = sym (every_cons (judgeable which) rows_left) ∙ s.judged

  pub seeking_row : judgeable which (row_at numbers at) ≡ true
  seeking_row = and_left (judgeable which (row_at numbers at)) _ all_judged

  -- the row at hand, or those behind it
  turn : pick (at_fault which (row_at numbers at)) (Some (fault.Row number))
      (first_from which (suc number) (rest_of numbers (at + row_numbers))) ≡ row_fault which (rows_of numbers)
  unfolding rows_at_fault
  turn = sym (ap (first_from which number) rows_left) ∙ s.names

  pub seeking_found : at_fault which (row_at numbers at) ≡ true → Some (fault.Row number) ≡ row_fault which (rows_of numbers)
  seeking_found e = rw e at turn

  pub seeking_next : at_fault which (row_at numbers at) ≡ false → Seeking which numbers (at + row_numbers) (number + 1)
  seeking_next e =
      record {
        place = place_next row_numbers numbers at s.place h;
        counts = omega (arith, s.counts);
        names = rw (add-one number) (rw e at turn);
        judged = and_right (judgeable which (row_at numbers at)) _ all_judged;
      }

pub seeking_end : (which : RowFault) (numbers : List ℤ) (at number : ℕ) → Seeking which numbers at number
    → length numbers ≤ at → None ≡ row_fault which (rows_of numbers)
unfolding rows_at_fault
seeking_end which numbers at number s h =
    sym (ap (first_from which number) (left_end row_at row_numbers numbers at (omega arith) h)) ∙ s.names
