-- `get_number` meets its contract: the loop keeps the number of the bytes from i on.
use Rattle.messages.proofs.ByteTurns.{Getting}
use Rattle.messages.proofs.widths.get_number.Given as goal

abbrev pub invariant-loop-i : goal.invariant-loop-i
invariant-loop-i l = Getting l.buf l.at l.width l.i l.number

abbrev pub decreases-loop-i : goal.decreases-loop-i
decreases-loop-i l = l.i
