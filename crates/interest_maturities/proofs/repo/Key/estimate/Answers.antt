-- `estimate` meets its contract: the definition, in its order.
use Rattle.interest_maturities.specs.Estimates.{estimate_of}
use Rattle.interest_maturities.proofs.repo.Key.estimate.Goals as goal

pub returns : goal.returns
unfolding estimate_of
returns c = rw (c.least_step.ensures, c.max.ensures)
