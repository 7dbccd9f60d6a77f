-- `record_calls::admission::admitted_at` meets its contract: each return is the first check that applies, in the order 4, 2,
-- 3, or none.
use mathlib.Core.Path.{◌≡◌, sym, ◌∙◌}
use mathlib.Core.Bool.{true, false, ◌&&◌}
use Rattle.paper.specs.Ranges.{valid_slots, valid_admission}
use Rattle.paper.proofs.Logic.{and_right}
use Rattle.record_answers.specs.Effects.{holds}
use Rattle.record_answers.proofs.Tests.{tested_true, tested_false}
use Rattle.record_calls.proofs.Judging.{admission_out, admission_again, admission_full, admission_accepted}
use mathlib.Core.Path.{ap}
use mathlib.Core.Bool.{not}
use Rattle.record_calls.proofs.admission.admitted_at.Goals as goal
use Rattle.record_calls.proofs.admission.admitted_at.Goals.{After-valid_admission, Else-holds, Else-not-valid_slots-valid_admission, Start}

-- both tests of 4 are the definition's
tested : (c : After-valid_admission) → let a = c.before.before.args in
    (c.before.valid_slots.result && c.valid_admission.result) ≡ (valid_slots a.s.count && valid_admission a.a)
tested c = rw (c.before.valid_slots.ensures, c.valid_admission.ensures)

valid : (c : Else-not-valid_slots-valid_admission) → let a = c.before.before.before.args in
    (valid_slots a.s.count && valid_admission a.a) ≡ true
valid c = tested_true _ (tested c.before) (ap not c.if-not-valid_slots-valid_admission.false)

-- the start, seen from where the id is new
abbrev new-from : Else-holds → Start
new-from c = c.before.before.before.before.before

new : (c : Else-holds) → holds (new-from c).args.s ≡ false
new c = sym c.before.holds.ensures ∙ c.if-holds.false

pub returns-then-not-valid_slots-valid_admission : goal.returns-then-not-valid_slots-valid_admission
returns-then-not-valid_slots-valid_admission c = c.refused.ensures
    ∙ admission_out _ _ _ (tested_false _ (tested (goal.at.returns-then-not-valid_slots-valid_admission c).After-valid_admission) (ap not c.if-not-valid_slots-valid_admission.true))

pub returns-then-holds : goal.returns-then-holds
returns-then-holds c =
    c.refused-then-holds.ensures ∙ admission_again _ _ _ (valid (goal.at.returns-then-holds c).Else-not-valid_slots-valid_admission) (sym c.holds.ensures ∙ c.if-holds.true)

pub returns-then-not-holds : goal.returns-then-not-holds
returns-then-not-holds c =
    let test = tested_false _ c.holds-2.ensures (ap not c.if-not-holds.true) in
    c.refused-then-not-holds.ensures ∙ admission_full _ _ _ (valid (goal.at.returns-then-not-holds c).Else-not-valid_slots-valid_admission) (new (goal.at.returns-then-not-holds c).Else-holds) test

pub admitted-rec-requires : goal.admitted-rec-requires
admitted-rec-requires c =
    let s = new-from (goal.at.admitted-rec-requires c).Else-holds in
    record {
      valid = and_right (valid_slots s.args.s.count) (valid_admission s.args.a) (valid (goal.at.admitted-rec-requires c).Else-not-valid_slots-valid_admission);
      later = s.requires.0;
      earlier = s.requires.1;
    }

pub returns : goal.returns
returns c =
    let test = tested_true _ c.holds-2.ensures (ap not c.if-not-holds.false) in
    rw c.admitted-rec.ensures
    (admission_accepted _ _ _ (valid (goal.at.returns c).Else-not-valid_slots-valid_admission) (new (goal.at.returns c).Else-holds) test)
