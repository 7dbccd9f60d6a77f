-- `Text::put_number` meets its contract: the decimal digits of x, the most significant first.
use Rattle.text_out.proofs.DigitTurns.{Spelling}
use Rattle.text_out.proofs.Text.put_number.Given as goal

abbrev pub invariant-loop-i : goal.invariant-loop-i
invariant-loop-i l = Spelling l.initial.self-inside.bytes l.i-start l.end l.x l.self-inside.bytes l.i l.rest
