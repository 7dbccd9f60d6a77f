-- `limits::range_of` meets its contract, side by side.
use Rattle.paper_desk.specs.Limits.{range_of}
use Rattle.limits.proofs.range_of.Goals as goal

pub returns : goal.returns
unfolding range_of
returns c = rw (c.range_limit.ensures, c.range_limit-2.ensures)
