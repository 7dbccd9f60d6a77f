-- `all_within` meets its contract: what is joined before each turn is the definition's of as many numbers, and the
-- number of the turn is tested as `within_at` tests it.
use mathlib.Core.Path.{◌≡◌}
use Prim.Native.Nat.{◌≤◌}
use lib.ListN.{length}
use Rattle.exact.specs.Within.{within_first}
use Rattle.exact.proofs.all_within.Given as goal

abbrev pub invariant-loop-i : goal.invariant-loop-i
invariant-loop-i l = (l.i ≤ length l.least) × (l.all ≡ within_first l.least l.most l.numbers l.at l.i)
