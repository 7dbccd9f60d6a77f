-- `fault_of` meets its contract: each arm is the definition's, at its number: 6, 16, 7 and 9.
use mathlib.Core.Path.{refl}
use Rattle.rows.specs.RowLaws.{whole_in_sevens, valid_whole, valid_every}
use Rattle.paper_reasons.specs.Faults.{is_same}
use Rattle.record_reasons.specs.RowFaults.{fault_with}
use Rattle.record_reasons.proofs.AtFault.{every_true, none_at_fault}
use Rattle.record_reasons.proofs.faults.fault_of.Goals as goal

pub returns-in-OutOfRange : goal.returns-in-OutOfRange
unfolding fault_with is_same
returns-in-OutOfRange c = rw c.in-OutOfRange.is c.out_of_range.ensures

pub first_row-requires : goal.first_row-requires
unfolding is_same
first_row-requires c =
    let valid = c.requires.crossed (rw c.in-RowCrossed.is refl) in
    record { row_numbers_len = whole_in_sevens _ (valid_whole _ valid); rows_value = every_true _ }

pub returns-in-RowCrossed : goal.returns-in-RowCrossed
unfolding fault_with is_same
returns-in-RowCrossed c = rw c.in-RowCrossed.is c.first_row.ensures

pub first_row-requires-in-PriceOutOfRange : goal.first_row-requires-in-PriceOutOfRange
unfolding is_same
first_row-requires-in-PriceOutOfRange c =
    let valid = c.requires.beyond (rw c.in-PriceOutOfRange.is refl) in
    record { row_numbers_len = whole_in_sevens _ (valid_whole _ valid); rows_value = valid_every _ valid }

pub returns-in-PriceOutOfRange : goal.returns-in-PriceOutOfRange
unfolding fault_with is_same
returns-in-PriceOutOfRange c = rw c.in-PriceOutOfRange.is c.first_row-in-PriceOutOfRange.ensures

pub returns-in-BandCrossed : goal.returns-in-BandCrossed
unfolding fault_with is_same
returns-in-BandCrossed c =
    rw (
      c.in-BandCrossed.is,
      c.first_term.ensures,
      c.is_crossed-in-BandCrossed-2.ensures,
      c.is_crossed-in-BandCrossed.ensures,
      c.is_crossed.ensures,
    )

pub returns-in_default : goal.returns-in_default
returns-in_default c =
    none_at_fault _ _ _ _ c.in_default.not-OutOfRange c.in_default.not-RowCrossed c.in_default.not-PriceOutOfRange
    c.in_default.not-BandCrossed
