-- `put_fields` meets its contract: the walk keeps what is left to be written.
use Rattle.messages.proofs.Walks.{Packing}
use Rattle.messages.proofs.widths.put_fields.Given as goal

abbrev pub invariant-loop-i : goal.invariant-loop-i
invariant-loop-i l = Packing l.initial.buf l.at l.places l.values l.buf l.i l.to
