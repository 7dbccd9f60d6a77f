-- `record_reasons::why` meets its contract: of a refusal the number and the fault are said, of an evaluation that is
-- accepted the reasons.
use mathlib.Core.Path.{◌≡◌}
use mathlib.Core.Bool.{true}
use Rattle.paper.specs.Verdicts.{is_done}
use Rattle.record_evaluation.specs.Workings.{worked_of}
use Rattle.record_answers.proofs.Tests.{tested_true, tested_false}
use Rattle.record_reasons.proofs.Answering.{rows_refused, why_refused, was_accepted, why_accepted}
use mathlib.Core.Path.{ap}
use mathlib.Core.Bool.{not}
use Rattle.record_reasons.proofs.why.Goals as goal
use Rattle.record_reasons.proofs.why.Goals.{After-fault_of-fault, After-worked-w, Else-not-is_done}

-- what the evaluation comes to, once its fault is known
abbrev worked : After-fault_of-fault → After-worked-w
worked c = c.before.before.before.before

-- no number applies
done : (c : Else-not-is_done)
    → let a = (worked c.before.before).before.before.args in
    is_done (worked_of a.s a.d a.rows.now).verdict ≡ true
done c =
    tested_true _ (rw (worked c.before.before).worked-w.ensures at c.before.is_done.ensures) (ap not c.if-not-is_done.false)

pub fault_of-fault-requires : goal.fault_of-fault-requires
fault_of-fault-requires c = rw c.worked-w.ensures (rows_refused _ _ _)

pub returns-then-not-is_done : goal.returns-then-not-is_done
returns-then-not-is_done c =
    let refused = tested_false _ (rw c.worked-w.ensures at c.is_done.ensures) (ap not c.if-not-is_done.true) in
    rw (c.worked-w.ensures, c.no_reasons-reasons.ensures)
    (why_refused _ _ _ _ refused (rw c.worked-w.ensures at c.fault_of-fault.ensures))

pub reasons_of-reasons-requires : goal.reasons_of-reasons-requires
reasons_of-reasons-requires c = rw (worked (goal.at.reasons_of-reasons-requires c).After-fault_of-fault).worked-w.ensures (was_accepted _ _ _ (done (goal.at.reasons_of-reasons-requires c).Else-not-is_done))

pub returns : goal.returns
returns c =
    let w = worked (goal.at.returns c).After-fault_of-fault in
    rw w.worked-w.ensures
    (why_accepted _ _ _ (done (goal.at.returns c).Else-not-is_done) _ _ (rw w.worked-w.ensures at c.fault_of-fault.ensures)
    (rw w.worked-w.ensures at c.reasons_of-reasons.ensures))
