-- `minima` meets its contract: the definition, computed at the three levels; each minimum is a rate.
use Rattle.paper_desk.specs.Rates.{minimum_of}
use Rattle.rates_level.proofs.minima.Goals as goal

pub returns : goal.returns
unfolding minimum_of
returns c = rw (c.of-3.ensures, c.of-2.ensures, c.of.ensures)
