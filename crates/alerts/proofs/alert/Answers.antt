-- `alerts::alert` meets its contract: where the second is not before the near one, at least u seconds lie between them
-- exactly when since + u is no later than it.
use mathlib.Core.Path.{◌≡◌, sym, ◌∙◌}
use mathlib.Core.Bool.{false}
use mathlib.Core.Logic.{◌⊎◌, inl, inr}
use Prim.Native.Nat.{ℕ, ◌+◌, ◌-◌, ◌≤◌, ◌<◌}
use native.Mathlib.Omega.{arith}
use lib.Dec.{leb}
use borrow.Author.Tests.{le-leb, lt-leb}
use Rattle.paper_desk.specs.Alerts.{alert}
use Rattle.paper.proofs.Logic.{le_or_lt}
use Rattle.alerts.proofs.alert.Goals as goal

-- u is at most b - a exactly when a + u is at most b
between : (a u b : ℕ) → a ≤ b → leb u (b - a) ≡ leb (a + u) b
between a u b h = go (le_or_lt (a + u) b)
  where
    go : (a + u ≤ b) ⊎ (b < a + u) → leb u (b - a) ≡ leb (a + u) b
    go (inl k) = le-leb u (b - a) (omega arith) ∙ sym (le-leb (a + u) b k)
    go (inr k) = lt-leb u (b - a) (omega arith) ∙ sym (lt-leb (a + u) b k)

too_early : (a u b : ℕ) → b < a → leb (a + u) b ≡ false
too_early a u b h = lt-leb (a + u) b (omega arith)

pub returns-in-None : goal.returns-in-None
unfolding alert
returns-in-None c = rw c.in-None.is

pub returns-then-since-second : goal.returns-then-since-second
unfolding alert
returns-then-since-second c = rw c.in-Some.is (between _ _ _ c.if-since-second.true)

pub returns-else-since-second : goal.returns-else-since-second
unfolding alert
returns-else-since-second c =
    rw c.in-Some.is (lt-leb _ _ c.if-since-second.false ∙ sym (too_early _ _ _ c.if-since-second.false))
