-- `record_soundness::valid_near` meets its contract: each arm rewrites with the variant that it matched.
use Rattle.paper.specs.Ranges.{valid_near}
use Rattle.record_soundness.proofs.valid_near.Goals as goal

pub returns-in-None : goal.returns-in-None
unfolding valid_near
returns-in-None c = rw c.in-None.is

pub returns-in-Some : goal.returns-in-Some
unfolding valid_near
returns-in-Some c = rw c.in-Some.is
