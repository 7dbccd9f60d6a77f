-- `tentative::tentative_rate_of` meets its contract: the branch of the code is the definition's.
use mathlib.Core.Path.{◌∙◌, sym}
use Rattle.paper_desk.specs.Rates.{tentative_rate_of}
use Rattle.paper.proofs.Logic.{pick_true, pick_false}
use Rattle.rates.proofs.tentative.tentative_rate_of.Goals as goal

pub returns-then-replaced : goal.returns-then-replaced
unfolding tentative_rate_of
returns-then-replaced c = c.tentative_rate_by_move.ensures ∙ sym (pick_true _ _ _ c.if-replaced.true)

pub returns-else-replaced : goal.returns-else-replaced
unfolding tentative_rate_of
returns-else-replaced c = c.tentative_rate.ensures ∙ sym (pick_false _ _ _ c.if-replaced.false)
