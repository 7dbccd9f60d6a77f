-- `alerts::session::move_allowed` meets its contract: each arm rewrites with the variant that it matched.
use Rattle.paper_desk.specs.Evening.{move_allowed}
use Rattle.alerts.proofs.session.move_allowed.Goals as goal

pub returns-in-Main : goal.returns-in-Main
unfolding move_allowed
returns-in-Main c = rw c.in-Main.is

pub returns-in-Evening : goal.returns-in-Evening
unfolding move_allowed
returns-in-Evening c = rw c.in-Evening.is
