-- `interest_maturities::forward::linear` meets its contract: the sum's two products fit, and the rest is `half_up`'s.
use Prim.Native.Nat.{◌-◌, ◌*◌, ◌≤◌}
use native.Mathlib.Omega.{arith}
use Rattle.paper.specs.Numbers.{maturity_most}
use Rattle.interest_maturities.specs.Points.{figure_most, linear}
use Rattle.interest_maturities.proofs.Lines.{line_parts_within}
use Rattle.interest_maturities.proofs.forward.linear.Goals as goal
use Rattle.interest_maturities.proofs.forward.linear.Goals.{Start}

parts_fit : (c : Start)
    → (c.args.f * (c.args.u - c.args.y) ≤ figure_most * maturity_most)
    × (c.args.g * (c.args.y - c.args.t) ≤ figure_most * maturity_most)
parts_fit c = line_parts_within c.args.t c.args.f c.args.u c.args.g c.args.y c.requires

pub overflow_mul-f : goal.overflow_mul-f
overflow_mul-f c = omega (arith, parts_fit (goal.at.overflow_mul-f c).Start)

pub overflow_mul-g : goal.overflow_mul-g
overflow_mul-g c = omega (arith, parts_fit (goal.at.overflow_mul-g c).Start)

pub overflow_add-f : goal.overflow_add-f
overflow_add-f c = omega (arith, parts_fit (goal.at.overflow_add-f c).Start)

pub returns : goal.returns
unfolding linear
returns c = c.half_up.ensures
