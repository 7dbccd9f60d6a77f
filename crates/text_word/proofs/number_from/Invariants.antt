-- `text_word::number_from` meets its contract: the size that the bytes from `from` on spell, unless it is above `most`.
use Prim.Native.Nat.{◌-◌}
use lib.ListN.{length, drop}
use Rattle.text_bytes.specs.Numbers.{size_from, up_to}
use Rattle.text_word.proofs.WordLoops.{Counting}
use Rattle.text_word.proofs.number_from.Given as goal

abbrev pub invariant-loop-i : goal.invariant-loop-i
invariant-loop-i l = Counting l.p l.most (up_to l.most (size_from 0 (drop l.from l.p))) l.i l.x

abbrev pub decreases-loop-i : goal.decreases-loop-i
decreases-loop-i l = length l.p - l.i
