-- `within_at` meets its contract: it is `is_within`, of the two ends and of the number at i as their bits are read
-- back.
use mir.Syntax.{w64}
use mir.Facts.{to_z-of_z}
use Rattle.exact.proofs.within_at.Goals as goal

pub returns : goal.returns
returns c =
    rw (
      to_z-of_z c.ranges.low,
      to_z-of_z c.ranges.high,
      to_z-of_z {w = w64} (record { sfits = c.is_within-arg-1.given }),
    ) at c.is_within.ensures
