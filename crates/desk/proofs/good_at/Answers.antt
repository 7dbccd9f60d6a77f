-- `desk::good_at` meets its contract: the slot is tested only where the caller does not know it.
use Rattle.desk.specs.Guesses.{good_at}
use Rattle.desk.proofs.good_at.Goals as goal

pub returns-then-known : goal.returns-then-known
unfolding good_at
returns-then-known c = rw c.if-known.true

pub returns-else-known : goal.returns-else-known
unfolding good_at
returns-else-known c = rw (c.is_good.ensures, c.take_at.ensures, c.if-known.false)
