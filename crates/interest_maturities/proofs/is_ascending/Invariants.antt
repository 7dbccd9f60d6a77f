-- `interest_maturities::is_ascending` meets its contract: whether the key maturities that are left ascend from the last
-- one passed is always whether all do.
use Rattle.std.proofs.Common.{◌≡◌, length}
use Rattle.paper_interest.specs.Interest.{maturities_of, strictly_ascending, strictly_ascending_from}
use Rattle.interest_maturities.proofs.is_ascending.Given as goal

abbrev pub invariant-loop-next : goal.invariant-loop-next
invariant-loop-next l =
    strictly_ascending_from l.last (maturities_of l.rest) ≡ strictly_ascending (maturities_of l.numbers)

abbrev pub decreases-loop-next : goal.decreases-loop-next
decreases-loop-next l = length l.rest
