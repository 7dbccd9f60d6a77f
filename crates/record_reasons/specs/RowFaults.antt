-- The first row, else term, at fault, as the code looks for it: one walk over the rows as they are lent.
use Rattle.std.specs.Prelude.{◌≡◌, Bool, true, not, List, ℤ, get_or}
use Rattle.paper.specs.declared.Day.{Day}
use Rattle.paper.specs.declared.Limits.{Limits}
use Rattle.paper.specs.declared.Verdict.{Verdict}
use Rattle.paper.specs.declared.Verdict.TheVariants as verdict
use Rattle.paper.specs.Lists.{pick}
use Rattle.paper.specs.Ranges.{LentRow, rows_of, row_of, whole_rows, valid_row, valid_rows, no_limits}
use Rattle.paper_desk.specs.Evaluation.{is_crossed_row, row_fits}
use Rattle.paper_desk.specs.Limits.{crossed}
use Rattle.paper.specs.Verdicts.{first_named}
use Rattle.std.specs.declared.option.Option.{Option}
use Rattle.std.specs.declared.option.Option.TheVariants.{None, Some}
use Rattle.paper_reasons.specs.declared.Fault.{Fault}
use Rattle.paper_reasons.specs.declared.Fault.TheVariants as fault
use Rattle.paper_reasons.specs.Faults.{rows_at_fault, first_row, out_of_range, is_same}
use Rattle.record_reasons.specs.declared.faults.RowFault.{RowFault}
use Rattle.record_reasons.specs.declared.faults.RowFault.TheVariants.{OutOfRange, Crossed, Beyond}

-- whether a row as it is lent is at fault
abbrev pub at_fault : RowFault → LentRow → Bool
at_fault OutOfRange = λ row. not (valid_row row)
at_fault Crossed = λ row. is_crossed_row (row_of row)
at_fault Beyond = λ row. not (row_fits (row_of row))

-- what a row has to be before it is judged: only one in range is turned into roubles
abbrev pub judgeable : RowFault → LentRow → Bool
judgeable OutOfRange = λ row. true
judgeable Crossed = λ row. true
judgeable Beyond = valid_row

-- the first row at fault
abbrev pub row_fault : RowFault → List LentRow → Option Fault
row_fault which rows = first_named None (rows_at_fault first_row (at_fault which) rows)

-- 6 of a row, where the numbers are whole rows
abbrev pub whole_fault : List ℤ → Option Fault
whole_fault rows = pick (whole_rows rows) (row_fault OutOfRange (rows_of rows)) None

-- the first of three terms
abbrev pub term_fault : (first second third : Bool) → Option Fault
term_fault first second third =
    pick first (Some (fault.Term 0)) (pick second (Some (fault.Term 1)) (pick third (Some (fault.Term 2)) None))

-- what is at fault in a refusal, of the bands that were made
unfoldable pub fault_with : Verdict → Day → (rows : List ℤ) → (bands : List Limits) → Option Fault
fault_with v d rows bands =
    pick (is_same v verdict.OutOfRange) (first_named None (out_of_range d rows))
    (pick (is_same v verdict.RowCrossed) (row_fault Crossed (rows_of rows))
    (pick (is_same v verdict.PriceOutOfRange) (row_fault Beyond (rows_of rows))
    (pick (is_same v verdict.BandCrossed) (term_fault (crossed (get_or bands 0 no_limits)) (crossed (get_or bands 1 no_limits))
    (crossed (get_or bands 2 no_limits)))
    None)))

-- what 16 and 7 say of the rows: neither is given unless 6 is not
pub record Refused (v : Verdict) (rows : List ℤ) : Type 0 where
  pub crossed : is_same v verdict.RowCrossed ≡ true → valid_rows rows ≡ true
  pub beyond : is_same v verdict.PriceOutOfRange ≡ true → valid_rows rows ≡ true
