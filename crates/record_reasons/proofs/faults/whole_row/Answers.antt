-- `whole_row` meets its contract: only whole rows are looked at.
use Rattle.rows.specs.RowLaws.{whole_in_sevens}
use Rattle.record_answers.proofs.Tests.{tested_true, tested_false}
use Rattle.record_reasons.proofs.AtFault.{every_true}
use mathlib.Core.Path.{ap}
use mathlib.Core.Bool.{not}
use Rattle.record_reasons.proofs.faults.whole_row.Goals as goal

pub returns-then-not-whole_rows : goal.returns-then-not-whole_rows
returns-then-not-whole_rows c = rw (tested_false _ c.whole_rows.ensures (ap not c.if-not-whole_rows.true))

pub first_row-requires : goal.first_row-requires
first_row-requires c =
    record { row_numbers_len = whole_in_sevens _ (tested_true _ c.whole_rows.ensures (ap not c.if-not-whole_rows.false)); rows_value = every_true _ }

pub returns : goal.returns
returns c =
    rw (tested_true _ c.whole_rows.ensures (ap not c.if-not-whole_rows.false)) c.first_row.ensures
