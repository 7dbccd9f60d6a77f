-- `record_evaluation::worked` meets its contract: 1 comes first, and the rest is that of `worked_behind`.
use mathlib.Core.Path.{◌∙◌}
use Rattle.record_answers.proofs.Tests.{tested_true, tested_false}
use Rattle.record_evaluation.proofs.Judging.{day_unknown}
use mathlib.Core.Path.{ap}
use mathlib.Core.Bool.{not}
use Rattle.record_evaluation.proofs.worked.Goals as goal

pub returns-then-not-is_known : goal.returns-then-not-is_known
returns-then-not-is_known c = c.unmade.ensures
    ∙ day_unknown _ _ _ (tested_false _ c.is_known.ensures (ap not c.if-not-is_known.true))

pub worked_behind-requires : goal.worked_behind-requires
worked_behind-requires c = tested_true _ c.is_known.ensures (ap not c.if-not-is_known.false)

pub returns : goal.returns
returns c = c.worked_behind.ensures
