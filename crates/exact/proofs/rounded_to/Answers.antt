-- `rounded_to` meets its contract: n/(d·g) is rounded, and the steps are counted out.
use Prim.Native.Nat.{◌*◌}
use native.Mathlib.Nat.{mul-pos, le-mul_of_pos_right}
use native.Mathlib.Omega.{arith}
use Rattle.paper.specs.Roundings.{rounded}
use Rattle.exact.proofs.Quotients.{rounded_below_next_step}
use Rattle.exact.proofs.rounded_to.Goals as goal

pub rounded-requires : goal.rounded-requires
rounded-requires c = mul-pos c.requires.1 c.requires.0

pub overflow_mul-result : goal.overflow_mul-result
overflow_mul-result c =
    let g = c.args.g in
    let n = c.args.n in
    let d = c.args.d in
    let more = le-mul_of_pos_right (rounded c.args.way n (d * g) * g) c.requires.1 in
    rw c.rounded.ensures (omega (arith, rounded_below_next_step c.args.way g n d c.requires.0 c.requires.1))

pub returns : goal.returns
returns c = rw c.rounded.ensures
