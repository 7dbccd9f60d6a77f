-- `first_row` meets its contract: the rows that are left decide for all, as no row behind the place is at
-- fault.
use Prim.Native.Nat.{◌-◌}
use lib.ListN.{length}
use Rattle.record_reasons.proofs.Seeking.{Seeking}
use Rattle.record_reasons.proofs.faults.first_row.Given as goal

abbrev pub invariant-loop-at : goal.invariant-loop-at
invariant-loop-at l = Seeking l.which l.rows l.at l.number

abbrev pub decreases-loop-at : goal.decreases-loop-at
decreases-loop-at l = length l.rows - l.at
