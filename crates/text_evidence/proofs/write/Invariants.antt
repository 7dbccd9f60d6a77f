-- `text_evidence::write` meets its contract: hands the first n bytes to std's `write`, and says how many of
-- them it took, by its answers.
use Prim.Native.Nat.{◌-◌, ◌≤◌}
use Rattle.text_evidence.proofs.write.Given as goal

abbrev pub invariant-loop-taken : goal.invariant-loop-taken
invariant-loop-taken l = l.taken ≤ l.n

abbrev pub decreases-loop-taken : goal.decreases-loop-taken
decreases-loop-taken l = l.n - l.taken
