-- `record_soundness::valid_limits` meets its contract: either limit is judged by `is_limit`.
use Rattle.paper.specs.Ranges.{valid_limits}
use Rattle.record_soundness.proofs.valid_limits.Goals as goal

pub returns : goal.returns
unfolding valid_limits
returns c = rw (c.is_limit.ensures, c.is_limit-2.ensures)
