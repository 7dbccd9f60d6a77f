-- `limits::range_moved` meets its contract, by the cases of the definition.
use Rattle.paper_desk.specs.Limits.{range_moved_by}
use Rattle.limits.proofs.range_moved.Goals as goal

pub returns-in-Upper : goal.returns-in-Upper
unfolding range_moved_by
returns-in-Upper c = rw c.in-Upper.is

pub returns-in-Lower : goal.returns-in-Lower
unfolding range_moved_by
returns-in-Lower c = rw (c.in-Lower.is, c.saturating_sub.ensures)
