-- `desk::is_of` meets its contract: its two tests are the definition's, in the definition's order.
use Rattle.desk.specs.Guesses.{is_of}
use Rattle.desk.proofs.is_of.Goals as goal

pub returns : goal.returns
unfolding is_of
returns c = rw c.holds.ensures
