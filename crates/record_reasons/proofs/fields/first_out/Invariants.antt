-- `fields::first_out` meets its contract: the numbers that are left decide for all, as none before the place is out.
use Prim.Native.Nat.{◌-◌}
use lib.ListN.{length}
use Rattle.record_reasons.proofs.SeekingOut.{SeekingOut}
use Rattle.record_reasons.proofs.fields.first_out.Given as goal

abbrev pub invariant-loop-at : goal.invariant-loop-at
invariant-loop-at l = SeekingOut l.least l.most l.numbers l.at l.place

abbrev pub decreases-loop-at : goal.decreases-loop-at
decreases-loop-at l = length l.numbers - l.at
