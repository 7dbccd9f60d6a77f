-- `digits_at` meets its contract: each digit leads the word by one byte more, up to the first byte that is none.
use Prim.Native.Nat.{◌-◌}
use lib.ListN.{length}
use Rattle.text_word.specs.Parts.{Leads}
use Rattle.text_word.proofs.digits_at.Given as goal

abbrev pub invariant-loop-i : goal.invariant-loop-i
invariant-loop-i l = Leads l.l l.from l.i l.x

abbrev pub decreases-loop-i : goal.decreases-loop-i
decreases-loop-i l = length l.l - l.i
