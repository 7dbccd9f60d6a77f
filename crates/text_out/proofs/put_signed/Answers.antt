-- `text_out::put_signed` meets its contract: a minus where x is below 0, and its size in decimal.
use mathlib.Core.Path.{◌≡◌}
use native.Mathlib.Omega.{arith}
use lib.Signed.{mag}
use mir.Facts.{to_z-of_z}
use Rattle.text_out.proofs.Sign.{below_wrote, above_wrote}
use Rattle.text_out.proofs.put_signed.Goals as goal

pub overflow_add-magnitude : goal.overflow_add-magnitude
overflow_add-magnitude c =
    let f = c.ranges.x in
    let e : c.magnitude.result ≡ mag c.args.x = rw (to_z-of_z f) at c.magnitude.ensures in
    omega (arith, f.sfits)

pub returns-then-x-lt0 : goal.returns-then-x-lt0
returns-then-x-lt0 c =
    let f = c.ranges.x in
    below_wrote c.args.x _ (rw (to_z-of_z f) at c.magnitude.ensures)
    (rw (to_z-of_z f) at c.if-x-lt0.true) c.put_byte-n.ensures c.put_number.ensures

pub returns : goal.returns
returns c =
    let f = c.ranges.x in
    above_wrote c.args.x _ (rw (to_z-of_z f) at c.magnitude-2.ensures)
    (rw (to_z-of_z f) at c.if-x-lt0.false) c.put_number-2.ensures
