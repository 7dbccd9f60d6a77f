-- `limits::unmoved_limit` meets its contract: the term's year is at most the greatest one, whose product with
-- P·(x_pr ± S_1) leaves room for a step of the grid.
use mathlib.Core.Path.{◌≡◌}
use Prim.Native.Nat.{◌*◌, ◌≤◌}
use native.Mathlib.Nat.{mul-le-mul_left}
use native.Mathlib.Omega.{arith}
use mir.Facts.{to_z-of_z}
use Rattle.paper.specs.Numbers.{year_in_day_bp}
use Rattle.paper.specs.Roundings.{grown}
use Rattle.exact.specs.SignedLaws.{grown_near_base}
use Rattle.exact.specs.Wide.{year_most}
use Rattle.limits.proofs.unmoved_limit.Goals as goal
use Rattle.limits.proofs.unmoved_limit.Goals.{After-grow}

-- the days' factor, and the product with it
days : (c : After-grow)
    → c.grow.result ≡ grown year_in_day_bp c.before.before.args.k c.before.before.args.repo
days c = rw (to_z-of_z c.before.before.ranges.repo) at c.grow.ensures

product_high : (c : After-grow)
    → c.before.before.args.unmoved * c.grow.result ≤ c.before.before.args.unmoved * year_most
product_high c =
    let s = c.before.before in
    let year = (grown_near_base year_in_day_bp s.args.k s.args.repo s.requires.k_le_term_days_most.0 s.requires.k_le_term_days_most.1).0 in
    mul-le-mul_left s.args.unmoved (rw (days c) year)

pub overflow_mul-unmoved : goal.overflow_mul-unmoved
overflow_mul-unmoved c = omega (arith, product_high (goal.at.overflow_mul-unmoved c).After-grow, c.requires.unmoved_inputs.whole)

pub rounded_to-requires : goal.rounded_to-requires
rounded_to-requires c = omega (arith, product_high (goal.at.rounded_to-requires c).After-grow, c.requires.unmoved_inputs)

pub returns : goal.returns
returns c = rw (c.rounded_to.ensures, c.inward.ensures, days (goal.at.returns c).After-grow)
