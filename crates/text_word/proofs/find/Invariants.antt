-- `find` meets its contract: the bytes before i are none of b, sixteen more at each turn.
use Prim.Native.Nat.{◌-◌}
use lib.ListN.{length}
use Rattle.text_bytes.specs.Bytes.{is_not}
use Rattle.text_word.specs.Parts.{Onward}
use Rattle.text_word.proofs.find.Given as goal

abbrev pub invariant-loop-i : goal.invariant-loop-i
invariant-loop-i l = Onward (is_not l.b) l.l l.from l.i

abbrev pub decreases-loop-i : goal.decreases-loop-i
decreases-loop-i l = length l.l - l.i
