-- `limits::unmoved_spread` meets its contract, by the cases of the definition.
use native.Mathlib.Omega.{arith}
use Rattle.limits.specs.LimitRanges.{valid_limit_statics}
use Rattle.limits.proofs.unmoved_spread.Goals as goal

pub overflow_mul-middle : goal.overflow_mul-middle
overflow_mul-middle c = omega (arith, valid_limit_statics _ c.requires.st_value)

pub overflow_add-result : goal.overflow_add-result
overflow_add-result c = omega (arith, valid_limit_statics _ c.requires.st_value)

pub returns-in-Upper : goal.returns-in-Upper
returns-in-Upper c = rw c.in-Upper.is

pub returns-in-Lower : goal.returns-in-Lower
returns-in-Lower c = rw c.in-Lower.is c.saturating_sub.ensures
