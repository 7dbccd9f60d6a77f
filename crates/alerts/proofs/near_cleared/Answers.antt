-- `alerts::near_cleared` meets its contract, by the cases of the definition.
use Rattle.paper_desk.specs.Alerts.{near_cleared}
use Rattle.alerts.proofs.near_cleared.Goals as goal

pub returns-in-Upper : goal.returns-in-Upper
unfolding near_cleared
returns-in-Upper c = rw c.in-Upper.is

pub returns-in-Lower : goal.returns-in-Lower
unfolding near_cleared
returns-in-Lower c = rw c.in-Lower.is
