-- `alerts::session::session_moved` meets its contract: each arm rewrites with the variant that it matched. A valid
-- session has at most 10 moves, so that one more fits.
use mathlib.Core.Path.{◌≡◌}
use mathlib.Core.Bool.{true}
use Prim.Native.Nat.{ℕ, ◌≤◌}
use native.Mathlib.Omega.{arith}
use borrow.Author.Tests.{leb-true}
use Rattle.paper.specs.declared.Session.TheVariants.{Evening}
use Rattle.paper.specs.Numbers.{evening_moves_most}
use Rattle.paper.specs.Ranges.{valid_session}
use Rattle.paper_desk.specs.Evening.{session_moved}
use Rattle.alerts.proofs.session.session_moved.Goals as goal

made_most : (made : ℕ) → valid_session (Evening made) ≡ true → made ≤ evening_moves_most
unfolding valid_session
made_most made v = leb-true _ _ v

pub overflow_add-result : goal.overflow_add-result
overflow_add-result c = omega (arith, made_most _ (rw c.in-Evening.is at c.requires))

pub returns-in-Main : goal.returns-in-Main
unfolding session_moved
returns-in-Main c = rw c.in-Main.is

pub returns-in-Evening : goal.returns-in-Evening
unfolding session_moved
returns-in-Evening c = rw c.in-Evening.is
