-- `inputs::valid_statics` meets its contract: the definition is the ranges and the orders, then the multiples. Where
-- the first two fail the whole is no; where they pass the step is not 0 and they drop out.
use mathlib.Core.Path.{◌≡◌, ◌∙◌}
use mathlib.Core.Bool.{true, ◌&&◌}
use borrow.Author.Rules.{rules}
use Rattle.paper.specs.Ranges.{statics_table, numbers_of, in_table, is_in_order, valid_statics}
use Rattle.paper.proofs.Logic.{and_left}
use Rattle.paper.proofs.StaticsFacts.{row_facts}
use Rattle.inputs.proofs.Tests.{two_tests_same}
use Rattle.inputs.proofs.Table.{tests_are_the_table}
use Rattle.inputs.proofs.statics.valid_statics.Goals as goal
use Rattle.inputs.proofs.statics.valid_statics.Goals.{After-in_table, Then-in_table-in_order}

table : (c : After-in_table) → c.in_table.result ≡ in_table statics_table (numbers_of c.before.args.st)
table c = c.in_table.ensures ∙ tests_are_the_table c.before.args.st

passed : (c : Then-in_table-in_order)
    → (in_table statics_table (numbers_of c.before.before.before.args.st)
    && is_in_order c.before.before.before.args.st) ≡ true
passed c = two_tests_same (table c.before.before) c.before.in_order.ensures c.if-in_table-in_order.true

pub multiples_of_step-requires : goal.multiples_of_step-requires
multiples_of_step-requires c =
    let st = c.args.st in
    (row_facts statics_table (numbers_of st) (and_left _ (is_in_order st) (passed (goal.at.multiples_of_step-requires c).Then-in_table-in_order)) 1 (search rules)).least

pub returns-then-in_table-in_order : goal.returns-then-in_table-in_order
unfolding valid_statics
returns-then-in_table-in_order c = c.multiples_of_step.ensures ∙ rw (passed (goal.at.returns-then-in_table-in_order c).Then-in_table-in_order)

pub returns : goal.returns
unfolding valid_statics
returns c = rw (two_tests_same (table (goal.at.returns c).After-in_table) c.in_order.ensures c.if-in_table-in_order.false)
