-- `limits::band_limit` meets its contract: the limit by the farthest of its side.
use mir.Facts.{to_z-of_z}
use Rattle.limits.proofs.band_limit.Goals as goal

pub returns : goal.returns
returns c = rw (c.limit_within.ensures, to_z-of_z c.ranges.repo)
