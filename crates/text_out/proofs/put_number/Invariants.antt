-- `text_out::put_number` meets its contract: the decimal digits of x, the most significant first.
use Prim.Native.Nat.{◌-◌}
use Rattle.text_out.proofs.DigitTurns.{Spelling}
use Rattle.text_out.proofs.put_number.Given as goal

abbrev pub invariant-loop-i : goal.invariant-loop-i
invariant-loop-i l = Spelling l.initial.out l.len l.end l.x l.out l.i l.rest

abbrev pub decreases-loop-i : goal.decreases-loop-i
decreases-loop-i l = l.i - l.len
