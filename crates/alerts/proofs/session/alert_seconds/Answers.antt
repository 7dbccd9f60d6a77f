-- `alerts::session::alert_seconds` meets its contract: each arm rewrites with the variant that it matched.
use Rattle.paper_desk.specs.Evening.{alert_seconds}
use Rattle.alerts.proofs.session.alert_seconds.Goals as goal

pub returns-in-Main : goal.returns-in-Main
unfolding alert_seconds
returns-in-Main c = rw c.in-Main.is

pub returns-in-Evening : goal.returns-in-Evening
unfolding alert_seconds
returns-in-Evening c = rw c.in-Evening.is
