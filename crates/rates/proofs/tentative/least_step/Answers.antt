-- `tentative::least_step` meets its contract: the closed form of the least multiple.
use native.Mathlib.Nat.{mul-pos}
use native.Mathlib.Omega.{arith}
use Rattle.paper_desk.proofs.Bounds.{up_is_step, up_within_a_step}
use Rattle.rates.proofs.tentative.least_step.Goals as goal

pub up-requires : goal.up-requires
up-requires c = mul-pos c.requires.1 c.requires.0

pub overflow_mul-result : goal.overflow_mul-result
overflow_mul-result c =
    rw c.up.ensures
    (omega (
      arith,
      up_within_a_step c.args.h c.args.factor c.args.n c.requires.0
          c.requires.1,
    ))

pub returns : goal.returns
returns c = rw c.up.ensures (up_is_step _ _ _ c.requires.0 c.requires.1)
