-- `record_evaluation::evaluated` meets its contract: what the day comes to is a refusal, or stored and answered.
use mathlib.Core.Path.{ap, ◌∙◌}
use Rattle.record_answers.proofs.Tests.{tested_true, tested_false}
use Rattle.record_evaluation.proofs.Judging.{day_refused, day_stored}
use mathlib.Core.Bool.{not}
use Rattle.record_evaluation.proofs.evaluated.Goals as goal

pub returns-then-not-is_done : goal.returns-then-not-is_done
returns-then-not-is_done c =
    let refused = tested_false _ (rw c.worked_behind-w.ensures at c.is_done.ensures)
    (ap not c.if-not-is_done.true) in
    c.refused.ensures ∙ rw c.worked_behind-w.ensures (day_refused _ _ _ refused)

pub returns : goal.returns
returns c =
    let done = tested_true _ (rw c.worked_behind-w.ensures at c.is_done.ensures) (ap not c.if-not-is_done.false) in
    c.written.ensures
    ∙ day_stored _ _ _ done (rw c.worked_behind-w.ensures at c.evaluated-rec.ensures)
