-- `modelled` meets its contract: each figure is made of those before it, and what is made stays in the ranges of the
-- next rule.
use Prim.Native.Nat.{◌≤◌}
use native.Mathlib.Omega.{arith}
use Rattle.paper.specs.Numbers.{volatility_most}
use Rattle.paper_desk.specs.Rates.{modelled, Weighing}
use Rattle.paper_desk.proofs.Bounds.{volatility_high}
use Rattle.paper_desk.proofs.TentativeRange.{valid_tentative_within_top, tentative_rate_in}
use Rattle.rates_level.specs.RateStatics.{tentative_bound}
use Rattle.rates_level.proofs.Statics.{within_tentative_bound}
use Rattle.rates.proofs.Statics.{rates_weighing}
use Rattle.rates.proofs.modelled.Goals as goal
use Rattle.rates.proofs.modelled.Goals.{After-choose-carried, After-model_of-model, After-tentative_rate_of-t}

-- the weights and the multiplier are in range
weighs : (c : After-model_of-model) → Weighing c.model_of-model.result
weighs c = rw c.model_of-model.ensures (rates_weighing _ c.before.requires.figure_ranges.statics)

-- new s is a volatility
s_high : (c : After-choose-carried) → c.choose-carried.result.s ≤ volatility_most
s_high c =
    let m = c.before.before in
    let given = m.before.requires.figure_ranges in
    rw c.choose-carried.ensures (volatility_high _ _ _ _ _ _ (weighs m) given.volatility m.before.requires.r_le_volatility_most)

-- t is in the tentative rate's range
t_high : (c : After-tentative_rate_of-t) → c.tentative_rate_of-t.result ≤ tentative_bound
t_high c =
    let start = c.before.before.before.before in
    let st = start.requires.figure_ranges.statics in
    let in_range_lem = tentative_rate_in _ _ _ _ st.step_low st.multiplier_high start.requires.r_le_volatility_most (s_high
    c.before) in
    rw c.tentative_rate_of-t.ensures (within_tentative_bound st (valid_tentative_within_top _ _ in_range_lem))

pub overflow_mul-s1 : goal.overflow_mul-s1
overflow_mul-s1 c = omega (arith, c.requires.figure_ranges.last_rate)

pub choose-carried-requires : goal.choose-carried-requires
choose-carried-requires c = record { weighing = weighs (goal.at.choose-carried-requires c).After-model_of-model; r_le_volatility_most = (c.requires.r_le_volatility_most, c.requires.figure_ranges.volatility) }

pub tentative_rate_of-t-requires : goal.tentative_rate_of-t-requires
tentative_rate_of-t-requires c =
    record { rate_statics = c.requires.figure_ranges.statics; r_le_volatility_most = (c.requires.r_le_volatility_most, s_high (goal.at.tentative_rate_of-t-requires c).After-choose-carried) }

pub rated-requires : goal.rated-requires
rated-requires c =
    let given = c.requires.figure_ranges in
    record {
      statics = given.statics;
      ahead = given.ahead;
      t_high = t_high (goal.at.rated-requires c).After-tentative_rate_of-t;
      tentative = given.tentative;
      age = given.age;
    }

pub returns : goal.returns
unfolding modelled
returns c =
    rw (
      c.rated.ensures,
      c.tentative_rate_of-t.ensures,
      c.choose-carried.ensures,
      c.model_of-model.ensures,
    )
