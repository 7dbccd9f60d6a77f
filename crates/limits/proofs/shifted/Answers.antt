-- `limits::shifted` meets its contract, by the cases of the definition; the product fits by the ranges.
use native.Mathlib.Omega.{arith}
use Rattle.paper.specs.declared.Side.TheVariants.{Upper, Lower}
use Rattle.paper_desk.specs.Limits.{shifted}
use Rattle.limits.specs.LimitLaws.{shifted_high}
use Rattle.limits.proofs.shifted.Goals as goal

pub overflow_mul-result : goal.overflow_mul-result
unfolding shifted
overflow_mul-result c =
    omega (arith, shifted_high Upper c.args.p c.args.rate c.requires)

pub overflow_mul-result-in-Lower : goal.overflow_mul-result-in-Lower
unfolding shifted
overflow_mul-result-in-Lower c =
    omega (arith, shifted_high Lower c.args.p c.args.rate c.requires)

pub returns-in-Upper : goal.returns-in-Upper
unfolding shifted
returns-in-Upper c = rw c.in-Upper.is

pub returns-in-Lower : goal.returns-in-Lower
unfolding shifted
returns-in-Lower c = rw c.in-Lower.is
