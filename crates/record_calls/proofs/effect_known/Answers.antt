-- `record_calls::effect_known` meets its contract: 1 comes first, and behind it the rule of each arm has the effect of the
-- ask that the arm matched.
use mathlib.Core.Path.{◌≡◌, ◌∙◌}
use mathlib.Core.Bool.{true}
use Rattle.paper_desk.specs.Desk.{ask_of}
use Rattle.record_answers.specs.Effects.{is_known}
use Rattle.record_answers.proofs.Tests.{tested_true, tested_false}
use Rattle.record_answers.proofs.Judging.{unknown_refused}
use mathlib.Core.Path.{ap}
use mathlib.Core.Bool.{not}
use Rattle.record_calls.proofs.effect_known.Goals as goal
use Rattle.record_calls.proofs.effect_known.Goals.{Else-not-passes_1}

known : (c : Else-not-passes_1) → is_known c.before.before.args.s ≡ true
known c = tested_true _ c.before.passes_1.ensures (ap not c.if-not-passes_1.false)

pub passes_1-requires : goal.passes_1-requires
passes_1-requires c = c.requires

pub returns-then-not-passes_1 : goal.returns-then-not-passes_1
returns-then-not-passes_1 c = c.refused.ensures
    ∙ unknown_refused _ _ (tested_false _ c.passes_1.ensures (ap not c.if-not-passes_1.true))

pub evaluated-requires : goal.evaluated-requires
evaluated-requires c = known (goal.at.evaluated-requires c).Else-not-passes_1

pub quoted-requires : goal.quoted-requires
quoted-requires c = known (goal.at.quoted-requires c).Else-not-passes_1

pub moved-requires : goal.moved-requires
moved-requires c = known (goal.at.moved-requires c).Else-not-passes_1

pub read-requires : goal.read-requires
read-requires c = known (goal.at.read-requires c).Else-not-passes_1

pub opened-requires : goal.opened-requires
opened-requires c = known (goal.at.opened-requires c).Else-not-passes_1

pub received-requires : goal.received-requires
received-requires c = known (goal.at.received-requires c).Else-not-passes_1

pub notified-requires : goal.notified-requires
notified-requires c = known (goal.at.notified-requires c).Else-not-passes_1

pub returns-in-Evaluate : goal.returns-in-Evaluate
unfolding ask_of
returns-in-Evaluate c =
    rw (c.evaluated.ensures, c.day_of.ensures, c.in-Evaluate.is)

pub returns-in-Quote : goal.returns-in-Quote
unfolding ask_of
returns-in-Quote c = rw (c.quoted.ensures, c.in-Quote.is)

pub returns-in-Move : goal.returns-in-Move
unfolding ask_of
returns-in-Move c = rw (c.moved.ensures, c.in-Move.is)

pub returns-in-Read : goal.returns-in-Read
unfolding ask_of
returns-in-Read c = rw (c.read.ensures, c.in-Read.is)

pub returns-in-Open : goal.returns-in-Open
unfolding ask_of
returns-in-Open c = rw (c.opened.ensures, c.in-Open.is)

pub returns-in-Receive : goal.returns-in-Receive
unfolding ask_of
returns-in-Receive c = rw (c.received.ensures, c.in-Receive.is)

pub returns-in-Notify : goal.returns-in-Notify
unfolding ask_of
returns-in-Notify c = rw (c.notified.ensures, c.in-Notify.is)
