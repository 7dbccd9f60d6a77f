-- `unsigned` meets its contract: by the sign, the number that no range holds, or the magnitude.
use mathlib.Core.Path.{◌≡◌, sym, ◌∙◌}
use lib.Signed.{mag}
use mir.Facts.{to_z-of_z}
use Rattle.exact.proofs.Sign.{unsigned_below, unsigned_above}
use Rattle.exact.proofs.unsigned.Goals as goal

pub returns-then-x-lt0 : goal.returns-then-x-lt0
returns-then-x-lt0 c = sym (unsigned_below _ (rw (to_z-of_z c.ranges.x) at c.if-x-lt0.true))

pub returns-else-x-lt0 : goal.returns-else-x-lt0
returns-else-x-lt0 c =
    let f = c.ranges.x in
    let is : c.magnitude.result ≡ mag c.args.x = rw (to_z-of_z f) at c.magnitude.ensures in
    is ∙ sym (unsigned_above _ (rw (to_z-of_z f) at c.if-x-lt0.false))
