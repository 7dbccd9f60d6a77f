-- `text_call::float_of` meets its contract: bits that are no number are a NaN, and 0 / 0 is one.
use mathlib.Core.Path.{◌≡◌, ap, ◌∙◌}
use lib.Ieee.{binary64, of_bits}
use mir.Facts.{to_z-of_z}
use Rattle.text_protocol.specs.Calls.{float_of}
use Rattle.text_call.proofs.Bits.{nan_above, no_nan_up_to, zero_by_zero}
use Rattle.text_call.proofs.float_of.Goals as goal
use Rattle.text_call.proofs.float_of.Goals.{After-bits_of-bits}

bits_are : (c : After-bits_of-bits) → of_bits binary64 c.bits_of-bits.result ≡ float_of c.before.args.z
unfolding float_of
bits_are c = ap (of_bits binary64) (rw (to_z-of_z c.before.ranges.z) at c.bits_of-bits.ensures)

pub returns-then-bits-gt-INFINITY_BITS : goal.returns-then-bits-gt-INFINITY_BITS
returns-then-bits-gt-INFINITY_BITS c = zero_by_zero ∙ nan_above _ c.if-bits-gt-INFINITY_BITS.true ∙ bits_are (goal.at.returns-then-bits-gt-INFINITY_BITS c).After-bits_of-bits

pub float_from_bits-result : goal.float_from_bits-result
float_from_bits-result c = rw (no_nan_up_to c.bits_of-bits.result c.if-bits-gt-INFINITY_BITS.false) tt

pub returns : goal.returns
returns c = bits_are (goal.at.returns c).After-bits_of-bits
