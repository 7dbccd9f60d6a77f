-- `evaluation::add` meets its contract: the four figures are the definition's, and the bounds of a book with room keep
-- the sums in 64 bits.
use Prim.Native.Nat.{◌*◌, ◌≤◌}
use native.Mathlib.Nat.{mul-le-mul}
use native.Mathlib.Omega.{arith}
use Rattle.evaluation.specs.Book.{added}
use Rattle.evaluation.proofs.add.Goals as goal
use Rattle.evaluation.proofs.add.Goals.{Start}

product : (c : Start) → c.args.r.weight * c.args.r.close ≤ 100000000 * 10000000000
product c = mul-le-mul c.requires.weight c.requires.close

pub overflow_mul-result : goal.overflow_mul-result
overflow_mul-result c = omega (arith, product (goal.at.overflow_mul-result c).Start)

pub overflow_add-result-2 : goal.overflow_add-result-2
overflow_add-result-2 c = omega (arith, product (goal.at.overflow_add-result-2 c).Start, c.requires)

pub returns : goal.returns
unfolding added
returns c = rw (c.lesser_ask.ensures, c.max.ensures)
