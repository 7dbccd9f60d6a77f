-- `least_root` meets its contract. The invariant of both loops, `RootSearch`: with k bits to come, what is found is the
-- root of n - 1 but for those, rounded down. With none to come one more is the least root of n. The measure is k.
use Rattle.exact.proofs.RootSearch.{RootSearch}
use Rattle.exact.proofs.least_root.Given as goal

abbrev pub invariant-loop-k : goal.invariant-loop-k
invariant-loop-k l = RootSearch l.factor l.n l.k l.found

abbrev pub decreases-loop-k : goal.decreases-loop-k
decreases-loop-k l = l.k

abbrev pub invariant-loop-k-2 : goal.invariant-loop-k-2
invariant-loop-k-2 l = RootSearch l.factor l.n l.k l.found

abbrev pub decreases-loop-k-2 : goal.decreases-loop-k-2
decreases-loop-k-2 l = l.k
