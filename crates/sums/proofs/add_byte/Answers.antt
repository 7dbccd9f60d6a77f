-- `sums::add_byte` meets its contract: the bits of a byte come in at once (`byte_steps`).
use mathlib.Core.Path.{◌∙◌, ap}
use Prim.Native.Nat.{◌/◌}
use native.Mathlib.Omega.{arith}
use lib.Bits.{bit_xor, mask_lt}
use Rattle.sums.proofs.Division.{byte_steps}
use Rattle.sums.proofs.add_byte.Goals as goal

pub overflow_cast-remainder : goal.overflow_cast-remainder
overflow_cast-remainder c = record { fits = mask_lt (bit_xor c.args.remainder c.args.byte) 8 }

pub returns : goal.returns
returns c =
    ap (bit_xor (c.args.remainder / 256)) c.eight_steps.ensures
    ∙ byte_steps c.args.remainder c.args.byte (omega arith)
