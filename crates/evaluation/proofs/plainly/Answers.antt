-- `evaluation::plainly` meets its contract: each figure is the paper's, and a volume times a central rate fits 64
-- bits.
use native.Mathlib.Nat.{mul-le-mul}
use native.Mathlib.Omega.{arith}
use Rattle.paper_desk.specs.Evaluation.{roubles_of, row_weight}
use Rattle.evaluation.proofs.plainly.Goals as goal

pub overflow_mul-row : goal.overflow_mul-row
overflow_mul-row c = omega (arith, mul-le-mul c.requires.volume c.requires.central)

pub returns : goal.returns
unfolding roubles_of row_weight
returns c =
    rw (
      c.row_price-3.ensures,
      c.row_price-2.ensures,
      c.row_price.ensures,
      c.half_up.ensures,
    )
