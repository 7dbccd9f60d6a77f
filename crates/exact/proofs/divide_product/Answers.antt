-- `divide_product` meets its contract: it is the long division of `Long.antt`.
use native.Mathlib.Omega.{arith}
use Rattle.exact.proofs.Long.{Long, long_division_is}
use Rattle.exact.proofs.divide_product.Goals as goal
use Rattle.exact.proofs.divide_product.Goals.{Start}

long_division_known : (c : Start) → Long c.args.x c.args.n c.args.e
long_division_known c = long_division_is _ _ _ c.requires

pub overflow_mul-high : goal.overflow_mul-high
overflow_mul-high c = omega (arith, long_division_known (goal.at.overflow_mul-high c).Start)

pub overflow_mul-low : goal.overflow_mul-low
overflow_mul-low c = omega (arith, long_division_known (goal.at.overflow_mul-low c).Start)

pub overflow_mul-low-2 : goal.overflow_mul-low-2
overflow_mul-low-2 c = omega (arith, long_division_known (goal.at.overflow_mul-low-2 c).Start)

pub overflow_add-low : goal.overflow_add-low
overflow_add-low c = omega (arith, long_division_known (goal.at.overflow_add-low c).Start)

pub overflow_mul-result : goal.overflow_mul-result
overflow_mul-result c = omega (arith, long_division_known (goal.at.overflow_mul-result c).Start)

pub overflow_mul-result-2 : goal.overflow_mul-result-2
overflow_mul-result-2 c = omega (arith, long_division_known (goal.at.overflow_mul-result-2 c).Start)

pub overflow_add-result : goal.overflow_add-result
overflow_add-result c = omega (arith, long_division_known (goal.at.overflow_add-result c).Start)

pub overflow_add-result-2 : goal.overflow_add-result-2
overflow_add-result-2 c = omega (arith, long_division_known (goal.at.overflow_add-result-2 c).Start)

pub returns : goal.returns
returns c = ((long_division_known (goal.at.returns c).Start).is_quot, (long_division_known (goal.at.returns c).Start).is_rest)
