-- `is_within` meets its contract: the code's two tests are the definition's, once each local's bits are read back.
use mir.Facts.{to_z-of_z}
use Rattle.exact.proofs.is_within.Goals as goal

pub returns-then-low-x : goal.returns-then-low-x
returns-then-low-x c =
    let f = c.ranges in
    rw (to_z-of_z f.x, to_z-of_z f.high, (rw (to_z-of_z f.x, to_z-of_z f.low) at c.if-low-x.true))

pub returns-else-low-x : goal.returns-else-low-x
returns-else-low-x c =
    let f = c.ranges in
    rw (to_z-of_z f.x, to_z-of_z f.low, (rw (to_z-of_z f.x, to_z-of_z f.low) at c.if-low-x.false))
