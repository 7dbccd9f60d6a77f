-- What the rate rules ask of the figures that they are given: no more than "Units and ranges" allows.
use Rattle.std.specs.Prelude.{ℕ, ◌≤◌}
use Rattle.paper.specs.declared.Rate.{Rate}
use Rattle.paper.specs.declared.Statics.{Statics}
use Rattle.paper.specs.declared.Tentative.{Tentative}
use Rattle.paper.specs.Numbers.{rate_most, volatility_most, age_most, ahead_most}
use Rattle.rates_level.specs.RateStatics.{RateStatics, tentative_bound}

-- the figures that t is held against, and the days ahead
pub record RatedRanges (st : Statics) (m t : ℕ) (old : Tentative) : Type 0 where
  pub statics : RateStatics st
  pub ahead : m ≤ ahead_most
  pub t_high : t ≤ tentative_bound
  pub tentative : old.bp ≤ tentative_bound
  pub age : old.age ≤ age_most

-- the figures of a security whose volatility is given, and the days ahead
pub record VolatilityRanges (st : Statics) (m s : ℕ) (old : Tentative) : Type 0 where
  pub statics : RateStatics st
  pub ahead : m ≤ ahead_most
  pub volatility : s ≤ volatility_most
  pub tentative : old.bp ≤ tentative_bound
  pub age : old.age ≤ age_most

-- the figures that an evaluation carries on, and the days ahead
pub record FigureRanges (st : Statics) (m : ℕ) (s1 : Rate) (s : ℕ) (old : Tentative) : Type 0 where
  pub statics : RateStatics st
  pub ahead : m ≤ ahead_most
  pub last_rate : s1.bp ≤ rate_most
  pub volatility : s ≤ volatility_most
  pub tentative : old.bp ≤ tentative_bound
  pub age : old.age ≤ age_most
