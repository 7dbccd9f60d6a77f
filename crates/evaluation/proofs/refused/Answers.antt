-- `evaluation::refused` meets its contract: the first of 6 and 16 that applies, and 7 where neither does, since a row
-- that is not taken and not crossed does not fit.
use mathlib.Core.Path.{◌≡◌, refl, sym, ◌∙◌}
use mathlib.Core.Bool.{true}
use borrow.Author.Tests.{not-true, not-false}
use Rattle.paper.specs.Ranges.{valid_rows}
use Rattle.rows.specs.RowLaws.{whole_in_sevens, valid_whole}
use Rattle.evaluation.proofs.Gathering.{no_book_gathers, gathered_out, gathered_crossed, gathered_beyond}
use mathlib.Core.Path.{ap}
use mathlib.Core.Bool.{not}
use Rattle.evaluation.proofs.refused.Goals as goal
use Rattle.evaluation.proofs.refused.Goals.{Else-not-rows_valid}

valid : (c : Else-not-rows_valid) → valid_rows c.before.before.args.rows.now ≡ true
valid c = sym c.before.rows_valid.ensures ∙ not-false _ (ap not c.if-not-rows_valid.false)

pub returns-then-not-rows_valid : goal.returns-then-not-rows_valid
returns-then-not-rows_valid c = no_book_gathers _ _ refl (gathered_out _
    (sym c.rows_valid.ensures ∙ not-true _ (ap not c.if-not-rows_valid.true)))

pub has_crossed_row-requires : goal.has_crossed_row-requires
has_crossed_row-requires c = whole_in_sevens _ (valid_whole _ (valid (goal.at.has_crossed_row-requires c).Else-not-rows_valid))

pub returns-then-has_crossed_row : goal.returns-then-has_crossed_row
returns-then-has_crossed_row c =
    no_book_gathers _ _ refl
    (gathered_crossed _ (valid (goal.at.returns-then-has_crossed_row c).Else-not-rows_valid) (sym c.has_crossed_row.ensures ∙ c.if-has_crossed_row.true))

pub returns : goal.returns
returns c =
    no_book_gathers _ _ refl
    (gathered_beyond _ (valid (goal.at.returns c).Else-not-rows_valid) (sym c.has_crossed_row.ensures ∙ c.if-has_crossed_row.false) c.requires)
