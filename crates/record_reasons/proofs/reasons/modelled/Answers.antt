-- `reasons::modelled` meets its contract: the figures that decided are those at P, so each reason is that of the
-- definition.
use Prim.Native.Nat.{◌≤◌}
use native.Mathlib.Omega.{arith}
use Rattle.rates_level.specs.RateStatics.{tentative_bound}
use Rattle.record_reasons.specs.Reasoned.{deciding_at}
use Rattle.record_reasons.proofs.Reasoning.{figures_in_ranges, step_high, levels_may_be_asked}
use Rattle.record_reasons.proofs.Reasoning.{rates_are_level_rates, modelled_is}
use Rattle.record_reasons.proofs.reasons.modelled.Goals as goal
use Rattle.record_reasons.proofs.reasons.modelled.Goals.{After-deciding-f, After-tentative_reason, Start}

-- what was given, of the stage that has the figures
abbrev start : After-deciding-f → Start
start c = c.before.before.before.before.before

-- and of the one that has the tentative rate's reason
abbrev start-before : After-tentative_reason → Start
start-before c = start c.before.before.before.before

-- t is in the tentative rate's range
t_high : (c : After-deciding-f) → c.deciding-f.result.t ≤ tentative_bound
unfolding deciding_at
t_high c = let s = start c in rw c.deciding-f.ensures (step_high _ _ _ s.requires.accepted s.requires.ewma_value)

pub tentative_reason-requires : goal.tentative_reason-requires
tentative_reason-requires c =
    let s = start (goal.at.tentative_reason-requires c).After-deciding-f in
    let given = figures_in_ranges _ _ _ s.requires.accepted s.requires.ewma_value in
    omega (arith, t_high (goal.at.tentative_reason-requires c).After-deciding-f, given, given.statics)

pub level_reason-requires : goal.level_reason-requires
level_reason-requires c =
    let s = start-before (goal.at.level_reason-requires c).After-tentative_reason in
    let asked = levels_may_be_asked _ _ _ s.requires.accepted s.requires.ewma_value in
    record { st_value = asked.0; m_le_ahead_most = asked.1; bp_value = rates_are_level_rates _ _ _ s.requires.accepted s.requires.ewma_value 0 }

pub level_reason-requires-2 : goal.level_reason-requires-2
level_reason-requires-2 c =
    let s = start-before (goal.at.level_reason-requires-2 c).After-tentative_reason in
    let asked = levels_may_be_asked _ _ _ s.requires.accepted s.requires.ewma_value in
    record { st_value = asked.0; m_le_ahead_most = asked.1; bp_value = rates_are_level_rates _ _ _ s.requires.accepted s.requires.ewma_value 1 }

pub level_reason-requires-3 : goal.level_reason-requires-3
level_reason-requires-3 c =
    let s = start-before (goal.at.level_reason-requires-3 c).After-tentative_reason in
    let asked = levels_may_be_asked _ _ _ s.requires.accepted s.requires.ewma_value in
    record { st_value = asked.0; m_le_ahead_most = asked.1; bp_value = rates_are_level_rates _ _ _ s.requires.accepted s.requires.ewma_value 2 }

pub returns : goal.returns
returns c =
    let s = start (goal.at.returns c).After-deciding-f in
    modelled_is _ _ _ s.requires.accepted s.requires.ewma_value _ _ _ _ _ _ _ _ c.deciding-f.ensures
    c.weight_reason.ensures c.replacement_reason.ensures c.tentative_reason.ensures
    c.level_reason.ensures c.level_reason-2.ensures c.level_reason-3.ensures
