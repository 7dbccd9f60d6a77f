-- `night_serve::print_asked` meets its contract: one line after the other.
use Rattle.night_serve.proofs.Lines.{Asking}
use Rattle.night_serve.proofs.print_asked.Given as goal

abbrev pub invariant-loop-id : goal.invariant-loop-id
invariant-loop-id l = Asking l.numbers l.pairs l.ids l.initial.sheet l.sheet l.id-index
