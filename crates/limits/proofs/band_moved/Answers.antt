-- `limits::band_moved` meets its contract, by the cases of the definition.
use Rattle.paper_desk.specs.Limits.{band_moved}
use Rattle.limits.proofs.band_moved.Goals as goal

pub returns-in-Upper : goal.returns-in-Upper
unfolding band_moved
returns-in-Upper c = rw c.in-Upper.is

pub returns-in-Lower : goal.returns-in-Lower
unfolding band_moved
returns-in-Lower c = rw c.in-Lower.is
