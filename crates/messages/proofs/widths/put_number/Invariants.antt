-- `put_number` meets its contract: before each turn the bytes still to write, written behind those written, are the
-- bytes of the number (`Putting`).
use Rattle.messages.proofs.ByteTurns.{Putting}
use Rattle.messages.proofs.widths.put_number.Given as goal

abbrev pub invariant-loop-i : goal.invariant-loop-i
invariant-loop-i l = Putting l.initial.buf l.at l.width l.number l.buf l.i l.rest
