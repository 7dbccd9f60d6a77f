-- `complement` meets its contract: by the sign.
use mathlib.Core.Path.{◌≡◌}
use native.Mathlib.Omega.{arith}
use lib.Signed.{mag}
use mir.Facts.{to_z-of_z}
use Rattle.messages.proofs.Halves.{rest_is_complement, mag_is_complement}
use Rattle.messages.proofs.widths.complement.Goals as goal
use Rattle.messages.proofs.widths.complement.Goals.{After-magnitude-size}

-- the size is the magnitude of the value, as its bits are read back
sized : (c : After-magnitude-size) → c.magnitude-size.result ≡ mag c.before.args.value
sized c = rw (to_z-of_z c.before.ranges.value) at c.magnitude-size.ensures

pub overflow_sub-result : goal.overflow_sub-result
overflow_sub-result c = let m = sized (goal.at.overflow_sub-result c).After-magnitude-size in omega (arith, m, c.greatest.ensures)

pub returns-then-value-lt0 : goal.returns-then-value-lt0
returns-then-value-lt0 c =
    rw (sized (goal.at.returns-then-value-lt0 c).After-magnitude-size, c.greatest.ensures)
    (rest_is_complement _ _ (rw (to_z-of_z c.ranges.value) at c.if-value-lt0.true))

pub returns : goal.returns
returns c =
    rw (sized (goal.at.returns c).After-magnitude-size) (mag_is_complement _ _ (rw (to_z-of_z c.ranges.value) at c.if-value-lt0.false))
