-- `interest_maturities::forward::Pair::risen` meets its contract: its products fit, and what is taken off is no more than the base's
-- part.
use native.Mathlib.Omega.{arith}
use Rattle.interest_maturities.proofs.Limits.{Rises, rises_in_range, risen_is}
use Rattle.interest_maturities.proofs.forward.Pair.risen.Goals as goal
use Rattle.interest_maturities.proofs.forward.Pair.risen.Goals.{Start}

rises_known : (c : Start) → Rises c.args.self.i c.args.self.m c.args.self.n
rises_known c = rises_in_range _ _ _ c.args.self.pair_range c.args.self.point_range c.args.self.point_range_2

pub overflow_mul-result : goal.overflow_mul-result
overflow_mul-result c = omega (arith, rises_known (goal.at.overflow_mul-result c).Start)

pub overflow_add-result : goal.overflow_add-result
overflow_add-result c = omega (arith, rises_known (goal.at.overflow_add-result c).Start)

pub overflow_mul-result-3 : goal.overflow_mul-result-3
overflow_mul-result-3 c = omega (arith, rises_known (goal.at.overflow_mul-result-3 c).Start)

pub overflow_sub-result-3 : goal.overflow_sub-result-3
overflow_sub-result-3 c =
    omega (arith, rises_known (goal.at.overflow_sub-result-3 c).Start, c.args.self.pair_range.order)

pub returns : goal.returns
returns c =
    risen_is _ _ _ c.args.self.pair_range c.args.self.point_range c.args.self.point_range_2
