-- W-204, "Its answers stay the same": on every input that shares hand to `least_root`, its contract allows one answer,
-- which is the least root however it is found, and the x of clause 7.1. `Pre` and `Post` are the plain reading of the
-- function's own `requires` and `ensures`. The interest side says the same of its inputs by `same_root`, in the crate
-- that works them out (interest_maturities, proofs/SameRoot.antt).
use mathlib.Core.Path.{◌≡◌, ◌∙◌}
use mathlib.Core.Bool.{true}
use Prim.{tt}
use Prim.Native.Nat.{ℕ, ◌^◌, ◌≤◌}
use native.Mathlib.Omega.{arith}
use contract.Lifetimes.{Lfts}
use borrow.Fn.Kinds.{ended_of}
use denote.Triple.Clauses.{AtExit}
use Rattle.paper.specs.declared.Model.{Model}
use Rattle.paper.specs.declared.Statics.{Statics}
use Rattle.paper.specs.Numbers.{volatility_most}
use Rattle.paper.specs.Ranges.{valid_statics}
use Rattle.paper_desk.specs.Rates.{model_of, weighted, Weighing}
use Rattle.paper.proofs.Search.{root_covers, root_least, root_unique}
use Rattle.paper_desk.proofs.Bounds.{mean_of_squares_within}
use Rattle.paper_desk.proofs.Volatility.{valid_weighs, weight_most_lem}
use Rattle.exact.specs.RootInputs.{SameRoot}
use Rattle.exact.proofs.least_root as root

-- a call of `least_root`: its lifetimes, of which it has none, and its parameters as it returns
module _ (κs : Lfts 0) (exit : AtExit (ended_of 0 root.Kinds.ps root.Kinds.r) κs) where
  -- what `SameRoot` says of its own contract
  abbrev pub KeepsRoot : (m : Model) (b r s : ℕ) → Type 0
  KeepsRoot =
      SameRoot (λ factor n. root.Reads.Pre κs (factor, (n, tt)))
      (λ factor n x. root.Reads.Post κs (factor, (n, tt)) x exit)

  -- what the two sides have in common: weights up to one, and volatilities up to 2^20
  pub same_root : (m : Model) (b r s : ℕ) → Weighing m → r ≤ 2 ^ 20 → s ≤ 2 ^ 20 → KeepsRoot m b r s
  unfolding weighted
  same_root m b r s w hr hs =
      record {
        asks = (omega arith, omega arith, mean_of_squares_within _ s r (2 ^ 20) (weight_most_lem m b r s w) hs hr);
        weighted = λ x p. p;
        least = λ x p. rw p (record { covers = root_covers _ _ (omega arith); least = root_least _ _ });
        same = λ x y p l. p ∙ root_unique _ _ y (omega arith) l.covers l.least;
      }

  -- shares: valid statics, and a move and a volatility of at most 1,000,000 millionths
  pub root_of_shares : (st : Statics) (b r s : ℕ) → valid_statics st ≡ true → r ≤ volatility_most → s ≤ volatility_most
      → KeepsRoot (model_of st) b r s
  root_of_shares st b r s v hr hs = same_root (model_of st) b r s (valid_weighs st v) (omega arith) (omega arith)
