-- `evaluation::once` meets its contract: the product, with half of the days, fits 64 bits.
use Prim.Native.Nat.{◌*◌, ◌≤◌}
use native.Mathlib.Nat.{mul-le-mul}
use native.Mathlib.Omega.{arith}
use Rattle.paper.specs.Numbers.{price_most}
use Rattle.evaluation.specs.Evaluation.{once_central_most, year_days}
use Rattle.evaluation.proofs.once.Goals as goal
use Rattle.evaluation.proofs.once.Goals.{Start}

product : (c : Start) → c.args.price * c.args.factor ≤ price_most * (once_central_most * year_days)
product c = mul-le-mul c.requires.price c.requires.factor

pub overflow_mul-price : goal.overflow_mul-price
overflow_mul-price c = omega (arith, product (goal.at.overflow_mul-price c).Start)

pub half_up_once-requires : goal.half_up_once-requires
half_up_once-requires c = (omega arith, omega (arith, product (goal.at.half_up_once-requires c).Start))

pub returns : goal.returns
returns c = c.half_up_once.ensures
