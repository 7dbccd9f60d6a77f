-- `evaluation::row_price` meets its contract: a missing price stays missing, and the divisor of any other is the
-- paper's.
use Prim.Native.Nat.{◌*◌, ◌≤◌}
use native.Mathlib.Nat.{mul-le-mul}
use native.Mathlib.Omega.{arith}
use Rattle.paper.specs.Numbers.{price_most, central_most}
use Rattle.paper_desk.specs.Evaluation.{row_price}
use Rattle.evaluation.proofs.Prices.{days_in_range, price_of_none_is_none}
use Rattle.evaluation.proofs.row_price.Goals as goal
use Rattle.evaluation.proofs.row_price.Goals.{Start}

product : (c : Start) → c.args.price * c.args.row.central ≤ price_most * central_most
product c = mul-le-mul c.requires.price_le_price_most c.requires.in_range.central

pub returns-then-price-eq0 : goal.returns-then-price-eq0
returns-then-price-eq0 c = rw c.if-price-eq0.true (price_of_none_is_none _ c.requires.in_range)

pub overflow_mul-price : goal.overflow_mul-price
overflow_mul-price c = omega (arith, product (goal.at.overflow_mul-price c).Start)

pub discounted-requires : goal.discounted-requires
discounted-requires c =
    rw c.days_of.ensures
    (let range = days_in_range c.args.row c.requires.in_range in
    record { product = product (goal.at.discounted-requires c).Start; low = range.0; high = range.1 })

pub returns : goal.returns
unfolding row_price
returns c = rw c.days_of.ensures at c.discounted.ensures
