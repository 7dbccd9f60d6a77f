-- `evaluation::by_one_quotient` meets its contract: each figure is the paper's, and so small a central rate leaves room
-- in 64 bits for every product.
use Prim.Native.Nat.{◌*◌, ◌≤◌}
use native.Mathlib.Nat.{mul-le-mul}
use native.Mathlib.Omega.{arith}
use Rattle.paper.specs.Numbers.{central_most, volume_most}
use Rattle.paper_desk.specs.Evaluation.{roubles_of, row_weight}
use Rattle.evaluation.proofs.Prices.{once_is_row_price, once_in_range}
use Rattle.evaluation.proofs.by_one_quotient.Goals as goal
use Rattle.evaluation.proofs.by_one_quotient.Goals.{Start}

weighed : (s : Start) → s.args.row.volume * s.args.row.central ≤ volume_most * central_most
weighed s = mul-le-mul s.requires.in_range.volume s.requires.in_range.central

pub overflow_mul-row : goal.overflow_mul-row
overflow_mul-row c = omega (arith, weighed (goal.at.overflow_mul-row c).Start)

pub half_up_once-requires : goal.half_up_once-requires
half_up_once-requires c = (omega arith, omega (arith, weighed (goal.at.half_up_once-requires c).Start))

pub once-requires : goal.once-requires
once-requires c =
    once_in_range _ c.requires.in_range _ c.days_of-days.ensures c.requires.central_le_once_central_most _ c.requires.in_range.close

pub once-requires-2 : goal.once-requires-2
once-requires-2 c =
    once_in_range _ c.requires.in_range _ c.days_of-days.ensures c.requires.central_le_once_central_most _ c.requires.in_range.bid

pub once-requires-3 : goal.once-requires-3
once-requires-3 c =
    once_in_range _ c.requires.in_range _ c.days_of-days.ensures c.requires.central_le_once_central_most _ c.requires.in_range.ask

pub returns : goal.returns
unfolding roubles_of row_weight
returns c =
    let price = once_is_row_price c.args.row c.requires.in_range c.days_of-days.result c.days_of-days.ensures in
    rw (
      c.once-3.ensures,
      c.once-2.ensures,
      c.once.ensures,
      c.half_up_once.ensures,
      price c.args.row.close,
      price c.args.row.bid,
      price c.args.row.ask,
    )
