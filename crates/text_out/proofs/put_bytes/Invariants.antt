-- `text_out::put_bytes` meets its contract: what is left of the word leads to the same bytes.
use Prim.Native.Nat.{◌-◌}
use lib.ListN.{length}
use Rattle.text_out.proofs.Lists.{Copying}
use Rattle.text_out.proofs.put_bytes.Given as goal

abbrev pub invariant-loop-i : goal.invariant-loop-i
invariant-loop-i l = Copying l.initial.out l.len l.word l.out l.n l.i

abbrev pub decreases-loop-i : goal.decreases-loop-i
decreases-loop-i l = length l.word - l.i
