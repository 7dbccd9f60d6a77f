-- `record_soundness::valid_near_seconds` meets its contract: either side is judged by `valid_near`.
use Rattle.paper.specs.Ranges.{valid_near_seconds}
use Rattle.record_soundness.proofs.valid_near_seconds.Goals as goal

pub returns : goal.returns
unfolding valid_near_seconds
returns c = rw (c.valid_near.ensures, c.valid_near-2.ensures)
