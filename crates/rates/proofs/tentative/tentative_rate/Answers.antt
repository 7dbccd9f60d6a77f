-- `tentative::tentative_rate` meets its contract: q·s is at most 1,000 times the greatest volatility.
use native.Mathlib.Nat.{mul-le-mul}
use native.Mathlib.Omega.{arith}
use Rattle.paper_desk.specs.Rates.{tentative_rate}
use Rattle.rates.proofs.tentative.tentative_rate.Goals as goal

pub overflow_mul-st : goal.overflow_mul-st
overflow_mul-st c = omega (arith, mul-le-mul c.requires.rate_statics.multiplier_high c.requires.s_le_volatility_most)

pub least_step-requires : goal.least_step-requires
least_step-requires c =
    omega (arith, c.requires.rate_statics, mul-le-mul c.requires.rate_statics.multiplier_high c.requires.s_le_volatility_most)

pub returns : goal.returns
unfolding tentative_rate
returns c = c.least_step.ensures
