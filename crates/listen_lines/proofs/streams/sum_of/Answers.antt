-- `sum_of` meets its contract: by the sign.
use mathlib.Core.Path.{◌≡◌}
use lib.Signed.{mag}
use mir.Facts.{to_z-of_z}
use Rattle.listen_lines.proofs.StreamParts.{sum_below, sum_past, sum_above}
use Rattle.listen_lines.proofs.streams.sum_of.Goals as goal
use Rattle.listen_lines.proofs.streams.sum_of.Goals.{After-magnitude-size}

-- the size is the magnitude of the value, as its bits are read back
sized : (c : After-magnitude-size) → c.magnitude-size.result ≡ mag c.before.args.value
sized c = rw (to_z-of_z c.before.ranges.value) at c.magnitude-size.ensures

pub returns-then-size-lt-SUMS : goal.returns-then-size-lt-SUMS
returns-then-size-lt-SUMS c =
    sum_below c.args.value _ (sized (goal.at.returns-then-size-lt-SUMS c).After-magnitude-size)
    (rw (to_z-of_z c.ranges.value) at c.if-value-lt0.true) c.if-size-lt-SUMS.true

pub returns-else-size-lt-SUMS : goal.returns-else-size-lt-SUMS
returns-else-size-lt-SUMS c =
    sum_past c.args.value _ (sized (goal.at.returns-else-size-lt-SUMS c).After-magnitude-size)
    (rw (to_z-of_z c.ranges.value) at c.if-value-lt0.true) c.if-size-lt-SUMS.false

pub returns : goal.returns
returns c =
    sum_above c.args.value _ (sized (goal.at.returns c).After-magnitude-size)
    (rw (to_z-of_z c.ranges.value) at c.if-value-lt0.false)
