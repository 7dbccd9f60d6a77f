-- `record_soundness::is_live` meets its contract: each arm rewrites with the variant that it matched.
use Rattle.paper.specs.Ranges.{is_live}
use Rattle.record_soundness.proofs.is_live.Goals as goal

pub returns-in-Live : goal.returns-in-Live
unfolding is_live
returns-in-Live c = rw c.in-Live.is

pub returns-in_default : goal.returns-in_default
unfolding is_live
returns-in_default c = rw c.in_default.is
