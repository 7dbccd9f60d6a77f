-- `exchange_text::read_exchange` meets its contract: so many lines are read, none of them is bad, and the array has
-- the rows of the security.
use lib.ListN.{length}
use Rattle.exchange_text.proofs.TextTurns.{Reads}
use Rattle.exchange_text.proofs.read_exchange.Given as goal

abbrev pub invariant-loop-rest : goal.invariant-loop-rest
invariant-loop-rest l = Reads l.id l.t l.rows l.rest l.number l.count

abbrev pub decreases-loop-rest : goal.decreases-loop-rest
decreases-loop-rest l = length l.rest
