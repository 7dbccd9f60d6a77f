-- `text_call::bits_of` meets its contract: by the sign.
use mathlib.Core.Path.{◌≡◌, sym, ap, ◌∙◌}
use Prim.Native.Nat.{◌-◌}
use lib.Signed.{mag}
use mir.Facts.{to_z-of_z}
use Rattle.text_protocol.specs.Calls.{all_ones}
use Rattle.text_call.proofs.Bits.{bits_below, bits_above}
use Rattle.text_call.proofs.bits_of.Goals as goal
use Rattle.text_call.proofs.bits_of.Goals.{After-magnitude-size}

size_is : (c : After-magnitude-size) → c.magnitude-size.result ≡ mag c.before.args.z
size_is c = rw (to_z-of_z c.before.ranges.z) at c.magnitude-size.ensures

pub returns-then-z-lt0 : goal.returns-then-z-lt0
returns-then-z-lt0 c =
    let f = c.ranges.z in
    ap (λ n. all_ones - n) (size_is (goal.at.returns-then-z-lt0 c).After-magnitude-size) ∙ sym (bits_below _ (rw (to_z-of_z f) at c.if-z-lt0.true))

pub returns : goal.returns
returns c =
    let f = c.ranges.z in
    size_is (goal.at.returns c).After-magnitude-size ∙ sym (bits_above _ (rw (to_z-of_z f) at c.if-z-lt0.false))
