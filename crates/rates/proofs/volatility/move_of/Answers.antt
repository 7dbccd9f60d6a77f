-- `volatility::move_of` meets its contract: the greater of the two moves.
use Rattle.paper_desk.specs.Rates.{move_of}
use Rattle.rates.proofs.volatility.move_of.Goals as goal

pub returns : goal.returns
unfolding move_of
returns c = rw (c.max.ensures, c.move_from-2.ensures, c.move_from.ensures)
