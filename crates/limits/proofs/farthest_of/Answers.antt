-- `limits::farthest_of` meets its contract, side by side.
use Rattle.limits.proofs.farthest_of.Goals as goal

pub returns : goal.returns
returns c = rw (c.farthest_limit.ensures, c.farthest_limit-2.ensures)
