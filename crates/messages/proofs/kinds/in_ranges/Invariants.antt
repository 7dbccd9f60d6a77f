-- `in_ranges` meets its contract: before each turn the values before the place are in their ranges, so that those
-- from the place on decide (`Judging`); the first that is out of its range ends the loop.
use Rattle.messages.proofs.RangeTurns.{Judging}
use Rattle.messages.proofs.kinds.in_ranges.Given as goal

abbrev pub invariant-loop-i : goal.invariant-loop-i
invariant-loop-i l = Judging l.places l.values l.i
