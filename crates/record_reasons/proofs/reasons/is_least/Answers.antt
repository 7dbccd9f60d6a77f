-- `reasons::is_least` meets its contract: a comparison a step below a rate that covers the requirement tells whether it
-- is the least.
use Rattle.paper.specs.declared.Statics.{Statics}
use Rattle.paper.specs.declared.Rate.{Rate}
use Rattle.paper.specs.Numbers.{rate_most}
use Rattle.paper.specs.Ranges.{valid_statics}
use Rattle.paper_desk.specs.Rates.{covers, level_rate}
use Rattle.record_answers.proofs.Tests.{tested_true, tested_false}
use mathlib.Core.Path.{◌≡◌, sym, ap, ◌∙◌}
use mathlib.Core.Bool.{true, false, not}
use Prim.Native.Nat.{ℕ, ◌-◌, ◌≤◌, ◌<◌}
use native.Mathlib.Omega.{arith}
use Rattle.rates_level.proofs.Statics.{valid_are_rate_statics}
use Rattle.rates_level.proofs.Reach.{level_rate_within_most}
use Rattle.paper_reasons.proofs.Levels.{rate_at_least_a_step, uncovered_not_required, zero_required, a_step_below}
use Rattle.record_reasons.proofs.reasons.is_least.Goals as goal
use Rattle.record_reasons.proofs.reasons.is_least.Goals.{Else-not-covers, Else-rate-eq0}

-- the rate is in range
rate_high : (st : Statics) (level m tentative : ℕ) (rate : Rate) → valid_statics st ≡ true
    → rate.bp ≡ level_rate st tentative m level → rate.bp ≤ rate_most
rate_high st level m tentative rate v is =
    let given = valid_are_rate_statics st v in
    omega (arith, is, level_rate_within_most st level m tentative given, given.most_high)

-- where the first test is passed the rate covers the requirement
rate_covered : (c : Else-not-covers)
    → let a = c.before.before.args in
    covers a.st a.tentative a.m a.level (level_rate a.st a.tentative a.m a.level) ≡ true
rate_covered c =
    let s = c.before.before in
    let a = s.args in
    let test : covers a.st a.tentative a.m a.level a.rate.bp ≡ true =
    tested_true _ c.before.covers.ensures (ap not c.if-not-covers.false) in
    rw s.requires.bp_value at test

-- and where the second is not, it is a step at least
positive : (c : Else-rate-eq0)
    → let a = c.before.before.before.before.args in
    0 < level_rate a.st a.tentative a.m a.level
positive c =
    let s = c.before.before.before.before in
    omega (arith, s.requires.bp_value, c.if-rate-eq0.false)

-- a step below is a rate
below_high : (c : Else-rate-eq0) → let a = c.before.before.before.before.args in a.rate.bp - a.st.h ≤ rate_most
below_high c =
    let s = c.before.before.before.before in
    omega (arith, rate_high _ _ _ _ _ s.requires.st_value s.requires.bp_value)

pub covers-requires : goal.covers-requires
covers-requires c = record {
  rate_statics = valid_are_rate_statics _ c.requires.st_value;
  m_le_ahead_most = (
    c.requires.m_le_ahead_most.0,
    c.requires.m_le_ahead_most.1,
    rate_high _ _ _ _ _ c.requires.st_value
        c.requires.bp_value,
  );
}

pub returns-then-not-covers : goal.returns-then-not-covers
returns-then-not-covers c =
    let a = c.args in
    let test : covers a.st a.tentative a.m a.level a.rate.bp ≡ false =
    tested_false _ c.covers.ensures (ap not c.if-not-covers.true) in
    rw c.requires.bp_value (sym (uncovered_not_required _ _ _ _ c.requires.st_value (rw c.requires.bp_value at test)))

pub returns-then-rate-eq0 : goal.returns-then-rate-eq0
returns-then-rate-eq0 c =
    rw c.requires.bp_value (sym (zero_required _ _ _ _ c.requires.st_value (rate_covered (goal.at.returns-then-rate-eq0 c).Else-not-covers)
    (sym c.requires.bp_value ∙ c.if-rate-eq0.true)))

pub overflow_sub-rate : goal.overflow_sub-rate
overflow_sub-rate c =
    let a = c.args in
    let step : a.st.h ≤ a.rate.bp = rw c.requires.bp_value (rate_at_least_a_step _ _ _ _ c.requires.st_value (positive (goal.at.overflow_sub-rate c).Else-rate-eq0)) in
    step

pub of-below-requires : goal.of-below-requires
of-below-requires c = below_high (goal.at.of-below-requires c).Else-rate-eq0

pub covers-requires-2 : goal.covers-requires-2
covers-requires-2 c =
    rw c.of-below.ensures (record { rate_statics = valid_are_rate_statics _ c.requires.st_value; m_le_ahead_most = (c.requires.m_le_ahead_most.0, c.requires.m_le_ahead_most.1, below_high (goal.at.covers-requires-2 c).Else-rate-eq0) })

pub returns : goal.returns
returns c =
    let a = c.args in
    let test : c.covers-2.result ≡ covers a.st a.tentative a.m a.level (a.rate.bp - a.st.h) =
    rw c.of-below.ensures at c.covers-2.ensures in
    ap not (rw c.requires.bp_value at test) ∙ rw c.requires.bp_value
    (sym (a_step_below _ _ _ _ c.requires.st_value (rate_covered (goal.at.returns c).Else-not-covers) (positive (goal.at.returns c).Else-rate-eq0)))
