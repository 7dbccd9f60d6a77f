-- `text_out::put_numbers` meets its contract: what is left to tell leads to the same bytes.
use Prim.Native.Nat.{◌-◌}
use lib.ListN.{length}
use Rattle.text_out.proofs.Lists.{Telling}
use Rattle.text_out.proofs.put_numbers.Given as goal

abbrev pub invariant-loop-i : goal.invariant-loop-i
invariant-loop-i l = Telling l.initial.out l.len l.zs l.out l.n l.i

abbrev pub decreases-loop-i : goal.decreases-loop-i
decreases-loop-i l = length l.zs - l.i
