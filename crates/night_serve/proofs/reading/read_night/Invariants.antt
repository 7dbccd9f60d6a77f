-- `night_serve::reading::read_night` meets its contract: so many lines are read, none of them is bad, and the tables hold them.
use lib.ListN.{length}
use Rattle.night_serve.proofs.Walking.{Walks}
use Rattle.night_serve.proofs.reading.read_night.Given as goal

abbrev pub invariant-loop-rest : goal.invariant-loop-rest
invariant-loop-rest l = Walks l.t l.securities l.rest l.number

abbrev pub decreases-loop-rest : goal.decreases-loop-rest
decreases-loop-rest l = length l.rest
