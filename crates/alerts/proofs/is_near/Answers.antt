-- `alerts::is_near` meets its contract: the distance of each side is the difference that `is_closer` compares.
use Rattle.paper_desk.specs.Alerts.{is_near, distance}
use Rattle.alerts.specs.Nearness.{closer}
use Rattle.alerts.proofs.is_near.Goals as goal

pub returns-in-Upper : goal.returns-in-Upper
unfolding is_near distance closer
returns-in-Upper c = rw (c.in-Upper.is, c.is_closer.ensures)

pub returns-in-Lower : goal.returns-in-Lower
unfolding is_near distance closer
returns-in-Lower c = rw (c.in-Lower.is, c.is_closer-in-Lower.ensures)
