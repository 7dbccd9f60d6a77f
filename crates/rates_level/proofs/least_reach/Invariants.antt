-- `least_reach` meets its contract: a search by halves for the least number that passes the definition's test.
use Prim.Native.Nat.{◌-◌}
use Rattle.rates_level.proofs.Reach.{Halved}
use Rattle.rates_level.proofs.least_reach.Given as goal

abbrev pub invariant-loop-from : goal.invariant-loop-from
invariant-loop-from l = Halved l.low l.high l.step l.a l.b l.from l.to

abbrev pub decreases-loop-from : goal.decreases-loop-from
decreases-loop-from l = l.to - l.from
