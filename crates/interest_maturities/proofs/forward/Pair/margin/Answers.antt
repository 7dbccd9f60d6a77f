-- `interest_maturities::forward::Pair::margin` meets its contract: the ranges keep the product within 64 bits.
use mathlib.Core.Path.{refl}
use Prim.Native.Nat.{◌-◌, ◌*◌, ◌≤◌}
use native.Mathlib.Nat.{mul-le-mul_left}
use native.Mathlib.Omega.{arith}
use Rattle.paper.specs.Numbers.{one_in_hundredths}
use Rattle.interest_maturities.specs.Points.{figure_most}
use Rattle.interest_maturities.specs.Pair.{margin_of}
use Rattle.interest_maturities.proofs.forward.Pair.margin.Goals as goal
use Rattle.interest_maturities.proofs.forward.Pair.margin.Goals.{Start}

-- the product is at most that of the greatest figure
margin_high : (c : Start) → margin_of c.args.self.i c.args.estimate ≤ margin_of c.args.self.i figure_most
margin_high c = mul-le-mul_left (one_in_hundredths * (c.args.self.i.yn - c.args.self.i.ym)) c.requires

pub overflow_mul-result-2 : goal.overflow_mul-result-2
overflow_mul-result-2 c = omega (arith, margin_high (goal.at.overflow_mul-result-2 c).Start, c.args.self.pair_range.given.yn)

pub returns : goal.returns
returns c = record { is = refl; high = margin_high (goal.at.returns c).Start }
