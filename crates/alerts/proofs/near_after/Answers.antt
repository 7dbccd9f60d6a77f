-- `alerts::near_after` meets its contract, by the cases of the definition.
use mathlib.Core.Path.{◌≡◌, refl}
use mathlib.Core.Bool.{Bool, true, false}
use Prim.Native.Nat.{ℕ}
use Rattle.std.specs.Prelude.{Option, Some, None, unwrap_or}
use Rattle.std.specs.Bool.{then_some}
use Rattle.paper_desk.specs.Alerts.{near_after, kept_since}
use Rattle.alerts.proofs.near_after.Goals as goal

by_cases : (near : Bool) (old : Option ℕ) (second : ℕ) → then_some near (unwrap_or old second) ≡ near_after near old second
unfolding near_after kept_since
by_cases true (Some earlier) second = refl
by_cases true None second = refl
by_cases false old second = refl

pub returns : goal.returns
returns c = rw (c.then_some.ensures, c.unwrap_or.ensures) (by_cases _ _ _)
