-- `alerts::session::is_evening` meets its contract: the test is of the one variant, and the other is the rest.
use Rattle.paper_desk.specs.Evening.{is_evening}
use Rattle.alerts.proofs.session.is_evening.Goals as goal

pub returns-in-Evening : goal.returns-in-Evening
unfolding is_evening
returns-in-Evening c = rw c.in-Evening.is

pub returns-in_default : goal.returns-in_default
unfolding is_evening
returns-in_default c = rw c.in_default.is
