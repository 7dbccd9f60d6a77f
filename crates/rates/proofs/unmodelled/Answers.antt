-- `unmodelled` meets its contract: the minima, and the other figures as they were.
use Rattle.paper_desk.specs.Rates.{unmodelled}
use Rattle.rates.proofs.unmodelled.Goals as goal

pub returns : goal.returns
unfolding unmodelled
returns c = rw c.minima-rates.ensures
