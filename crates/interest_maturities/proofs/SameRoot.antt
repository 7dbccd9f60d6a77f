-- W-204, "Its answers stay the same", on the interest side: on every evening and key maturity in range, what is handed
-- to `least_root` leaves it one answer, as shares' inputs do (exact, proofs/SameRoot.antt).
use native.Mathlib.Omega.{arith}
use contract.Lifetimes.{Lfts}
use borrow.Fn.Kinds.{ended_of}
use denote.Triple.Clauses.{AtExit}
use Rattle.paper.specs.declared.Interest.{Interest}
use Rattle.paper.specs.declared.Maturity.{Maturity}
use Rattle.paper_interest.specs.Interest.{change_of, InterestRange, KeyRange}
use Rattle.paper_interest.proofs.InterestRanges.{change_high}
use Rattle.exact.proofs.SameRoot.{KeepsRoot, same_root}
use Rattle.exact.proofs.least_root as root

-- an evening and a key maturity in range, whose change and volatility are at most 19,998 bp
pub root_of_interest : (κs : Lfts 0) (exit : AtExit (ended_of 0 root.Kinds.ps root.Kinds.r) κs)
    → (i : Interest) (k : Maturity) → InterestRange i → KeyRange k
    → KeepsRoot κs exit i.model i.b (change_of k) k.volatility
root_of_interest κs exit i k given key =
    same_root κs exit i.model i.b (change_of k) k.volatility given.weighs
    (omega (arith, change_high k key.r key.r1 key.r2))
    (omega (arith, key.volatility))
