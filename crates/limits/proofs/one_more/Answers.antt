-- `limits::one_more` meets its contract, by the cases of the definition.
use native.Mathlib.Omega.{arith}
use Rattle.paper_desk.specs.Limits.{one_more}
use Rattle.limits.proofs.one_more.Goals as goal

pub overflow_add-result : goal.overflow_add-result
overflow_add-result c = omega (arith, rw c.in-Upper.is at c.requires)

pub overflow_add-result-in-Lower : goal.overflow_add-result-in-Lower
overflow_add-result-in-Lower c = omega (arith, rw c.in-Lower.is at c.requires)

pub returns-in-Upper : goal.returns-in-Upper
unfolding one_more
returns-in-Upper c = rw c.in-Upper.is

pub returns-in-Lower : goal.returns-in-Lower
unfolding one_more
returns-in-Lower c = rw c.in-Lower.is
