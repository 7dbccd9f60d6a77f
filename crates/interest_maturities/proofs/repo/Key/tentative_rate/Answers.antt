-- `tentative_rate` meets its contract: q·σ is at most 1,000 times the greatest volatility.
use native.Mathlib.Nat.{mul-le-mul}
use native.Mathlib.Omega.{arith}
use Rattle.interest_maturities.proofs.repo.Key.tentative_rate.Goals as goal

pub overflow_mul-self : goal.overflow_mul-self
overflow_mul-self c = omega (arith, mul-le-mul c.args.self.interest_range.multiplier c.requires)

pub least_step-requires : goal.least_step-requires
least_step-requires c =
    omega (arith, c.args.self.interest_range, mul-le-mul c.args.self.interest_range.multiplier c.requires)
