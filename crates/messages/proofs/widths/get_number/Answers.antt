use Prim.Native.Nat.{◌+◌, ◌-◌, ◌<◌}
use native.Mathlib.Omega.{arith}
use Rattle.paper_messages.specs.Bytes.{in_byte}
use Rattle.messages.proofs.ByteTurns.{getting_none, getting_fits, getting_more, getting_all}
use Rattle.messages.proofs.widths.get_number.Goals as goal

pub loop-i-init : goal.loop-i-init
loop-i-init c = getting_none _ _ _

pub overflow_mul-number : goal.overflow_mul-number
overflow_mul-number c =
    omega (
      arith,
      getting_fits _ _ _ _ _ c.requires.1 c.loop-i.invariant c.loop-i-test.true,
    )

pub overflow_add-number : goal.overflow_add-number
overflow_add-number c =
    omega (
      arith,
      c.from.ensures,
      c.shared_slice_known-in-loop-i-1.given (c.args.at + (c.loop-i.i - 1)),
      getting_fits _ _ _ _ _ c.requires.1 c.loop-i.invariant c.loop-i-test.true,
    )

pub loop-i-preserved : goal.loop-i-preserved
loop-i-preserved c =
    let small : c.from.result < in_byte =
    omega (arith, c.from.ensures, c.shared_slice_known-in-loop-i-1.given (c.args.at + (c.loop-i.i - 1))) in
    rw c.from.ensures
    (getting_more _ _ _ _ _ c.requires.0 c.loop-i.invariant c.loop-i-test.true (rw c.from.ensures at small))

pub returns : goal.returns
returns c = getting_all _ _ _ _ _ c.loop-i.invariant c.loop-i-test.false
