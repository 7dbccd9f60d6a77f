-- `get_fields` meets its contract: the walk keeps what is left to be read.
use Rattle.messages.proofs.Walks.{Unpacking}
use Rattle.messages.proofs.widths.get_fields.Given as goal

abbrev pub invariant-loop-i : goal.invariant-loop-i
invariant-loop-i l = Unpacking l.buf l.at l.places l.values l.i l.from
