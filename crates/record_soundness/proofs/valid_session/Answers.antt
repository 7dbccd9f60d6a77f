-- `record_soundness::valid_session` meets its contract: each arm rewrites with the variant that it matched.
use Rattle.paper.specs.Ranges.{valid_session}
use Rattle.record_soundness.proofs.valid_session.Goals as goal

pub returns-in-Main : goal.returns-in-Main
unfolding valid_session
returns-in-Main c = rw c.in-Main.is

pub returns-in-Evening : goal.returns-in-Evening
unfolding valid_session
returns-in-Evening c = rw c.in-Evening.is
