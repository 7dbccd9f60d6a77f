-- `magnitude` meets its contract: by the sign, -1 - x or x is a natural number that fits, and it is the size.
use lib.IntN.{negsuc, ◌-ℤ◌}
use mir.Facts.{to_z-of_z}
use Rattle.exact.proofs.Sign.{Arm, below_zero_takes_its_arm, not_below_zero_takes_its_arm}
use Rattle.exact.proofs.magnitude.Goals as goal
use Rattle.exact.proofs.magnitude.Goals.{Else-x-lt0, Then-x-lt0}

below_takes_its_arm : (c : Then-x-lt0) → Arm (negsuc 0 -ℤ c.before.args.x) c.before.args.x
below_takes_its_arm c =
    below_zero_takes_its_arm _ c.before.ranges.x (rw (to_z-of_z c.before.ranges.x) at c.if-x-lt0.true)

above_takes_its_arm : (c : Else-x-lt0) → Arm c.before.args.x c.before.args.x
above_takes_its_arm c =
    not_below_zero_takes_its_arm _ c.before.ranges.x (rw (to_z-of_z c.before.ranges.x) at c.if-x-lt0.false)

pub overflow_sub-result : goal.overflow_sub-result
overflow_sub-result c = rw (to_z-of_z c.ranges.x) (below_takes_its_arm (goal.at.overflow_sub-result c).Then-x-lt0).signed

pub overflow_cast-result : goal.overflow_cast-result
overflow_cast-result c = rw (to_z-of_z c.ranges.x, to_z-of_z (below_takes_its_arm (goal.at.overflow_cast-result c).Then-x-lt0).signed) (below_takes_its_arm (goal.at.overflow_cast-result c).Then-x-lt0).cast

pub overflow_cast-result-else-x-lt0 : goal.overflow_cast-result-else-x-lt0
overflow_cast-result-else-x-lt0 c = rw (to_z-of_z c.ranges.x) (above_takes_its_arm (goal.at.overflow_cast-result-else-x-lt0 c).Else-x-lt0).cast

pub returns-then-x-lt0 : goal.returns-then-x-lt0
returns-then-x-lt0 c = rw (to_z-of_z c.ranges.x, to_z-of_z (below_takes_its_arm (goal.at.returns-then-x-lt0 c).Then-x-lt0).signed) (below_takes_its_arm (goal.at.returns-then-x-lt0 c).Then-x-lt0).is

pub returns-else-x-lt0 : goal.returns-else-x-lt0
returns-else-x-lt0 c = rw (to_z-of_z c.ranges.x) (above_takes_its_arm (goal.at.returns-else-x-lt0 c).Else-x-lt0).is
