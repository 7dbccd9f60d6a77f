-- `night_serve::print_text` meets its contract: one line after the other.
use Rattle.night_serve.proofs.Lines.{Printing}
use Rattle.night_serve.proofs.print_text.Given as goal

abbrev pub invariant-loop-i : goal.invariant-loop-i
invariant-loop-i l = Printing l.numbers l.pairs l.securities l.sheet l.i
