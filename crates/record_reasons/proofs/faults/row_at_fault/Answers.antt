-- `row_at_fault` meets its contract: each test of the code is the one of its name.
use Rattle.paper_desk.specs.Evaluation.{row_fits}
use mathlib.Core.Path.{ap, ◌∙◌}
use mathlib.Core.Bool.{not}
use Rattle.rows.specs.RowLaws.{valid_row_in_range}
use borrow.Author.Rules.{rules}
use Rattle.record_reasons.proofs.faults.row_at_fault.Goals as goal

pub row_at-requires : goal.row_at-requires
row_at-requires c = record { row_numbers_in_bounds = search rules; at_value = rw c.in-Beyond.is at c.requires.at_value }

pub fits-requires : goal.fits-requires
fits-requires c =
    rw c.row_at.ensures (valid_row_in_range _ (rw c.in-Beyond.is at c.requires.at_value))

pub returns-in-OutOfRange : goal.returns-in-OutOfRange
returns-in-OutOfRange c = rw c.in-OutOfRange.is (ap not c.row_valid.ensures)

pub returns-in-Crossed : goal.returns-in-Crossed
returns-in-Crossed c = rw c.in-Crossed.is c.row_crossed.ensures

pub returns-in-Beyond : goal.returns-in-Beyond
returns-in-Beyond c =
    rw c.in-Beyond.is (ap not (c.fits.ensures ∙ ap row_fits c.row_at.ensures))
