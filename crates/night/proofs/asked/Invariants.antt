-- `night::asked` meets its contract: one word after the other.
use Rattle.night_serve.proofs.Words.{Words}
use Rattle.night.proofs.asked.Given as goal

abbrev pub invariant-loop-i : goal.invariant-loop-i
invariant-loop-i l = Words l.numbers l.a
