-- Demand 3, shown once for both sides: a volatility that the rule carries on from a first one stays near the exact one.
use Prim.Native.Nat.{ℕ}
use native.Mathlib.Numerals.{add-one}
use Rattle.paper.specs.Roundings.{Quotient}
use Rattle.paper_desk.specs.Exact.{NearExact, CarriedOn, begun, once_more}
use Rattle.paper_desk.proofs.Drift.{near_start}
use Rattle.paper_desk.proofs.Volatility.{volatility_near}

pub carried_near : {n s : ℕ} {x : Quotient} → CarriedOn n s x → NearExact n s x
carried_near (begun s) = near_start s
carried_near (once_more {n} {s} {x} c m b last r move w u) =
    rw (← add-one n) (volatility_near m b last r s n x move w (carried_near c) u)
