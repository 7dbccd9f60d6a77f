-- `interest_maturities::neighbours` meets its contract: each key maturity that is passed is before the term, so every
-- figure is read off the last of them and the next, and where there is none, off the last.
use Rattle.std.proofs.Common.{length}
use Rattle.paper_interest.specs.Interest.{maturities_of}
use Rattle.interest_maturities.proofs.Passed.{Passed}
use Rattle.interest_maturities.proofs.neighbours.Given as goal

abbrev pub invariant-loop-next : goal.invariant-loop-next
invariant-loop-next l = Passed (maturities_of l.numbers) l.y l.last (maturities_of l.rest)

abbrev pub decreases-loop-next : goal.decreases-loop-next
decreases-loop-next l = length l.rest
