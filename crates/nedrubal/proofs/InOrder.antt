-- Each export takes its numbers in the order that document 01's sentence on it names them, and then the statics in
-- theirs. A contract goes by names, and would hold as well of a list with two of them exchanged; C goes by places. So
-- here `Post`, the plain reading of the `ensures`, is taken at numbers in their places.
use mathlib.Core.Path.{◌≡◌}
use mathlib.Core.List.{◌∷◌}
use Prim.Native.Nat.{ℕ}
use lib.IntN.{ℤ}
use contract.Lifetimes.{Lfts}
use borrow.Fn.World.{ResD}
use borrow.Fn.Kinds.{ended_of}
use denote.Triple.Clauses.{AtExit}
use Rattle.paper.specs.Ranges.{unsigned, given_of}
use Rattle.paper_desk.specs.Gateway.{level_call, range_call, band_call}
use Rattle.nedrubal.specs.InOrder.{statics_in_order, in_places}
use Rattle.nedrubal.specs.contracts.nedrubal_level_rate
use Rattle.nedrubal.specs.contracts.nedrubal_range_limit
use Rattle.nedrubal.specs.contracts.nedrubal_band_limit
use Rattle.nedrubal.proofs.nedrubal_level_rate as level_rate_lem
use Rattle.nedrubal.proofs.nedrubal_range_limit as range_limit_lem
use Rattle.nedrubal.proofs.nedrubal_band_limit as band_limit_lem

module _ (κs : Lfts 0) (statics : ℕ → ℤ) where
  -- "a level's rate from tentative, m and level"
  pub level_rate_in_order : (tentative m level : ℤ) (r : ResD nedrubal_level_rate.signature κs)
      (e : AtExit (ended_of 0 level_rate_lem.Kinds.ps level_rate_lem.Kinds.r) κs)
      → level_rate_lem.Reads.Post κs (in_places (tentative ∷ m ∷ level ∷ statics_in_order statics)) r e
      → r ≡ level_call (given_of (statics_in_order statics)) (unsigned tentative) (unsigned m) (unsigned level)
  level_rate_in_order tentative m level r e post = post

  -- "a fresh range limit from P, rate and side"
  pub range_limit_in_order : (p rate side : ℤ) (r : ResD nedrubal_range_limit.signature κs)
      (e : AtExit (ended_of 0 range_limit_lem.Kinds.ps range_limit_lem.Kinds.r) κs)
      → range_limit_lem.Reads.Post κs (in_places (p ∷ rate ∷ side ∷ statics_in_order statics)) r e
      → r ≡ range_call (given_of (statics_in_order statics)) (unsigned p) (unsigned rate) (unsigned side)
  range_limit_in_order p rate side r e post = post

  -- "a band limit from P, S_1, k, that side's repo rate, c and side"
  pub band_limit_in_order : (p s1 k repo c side : ℤ) (r : ResD nedrubal_band_limit.signature κs)
      (e : AtExit (ended_of 0 band_limit_lem.Kinds.ps band_limit_lem.Kinds.r) κs)
      → band_limit_lem.Reads.Post κs (in_places (p ∷ s1 ∷ k ∷ repo ∷ c ∷ side ∷ statics_in_order statics)) r e
      → r ≡ band_call (given_of (statics_in_order statics)) (unsigned p) (unsigned s1) (unsigned k) repo (unsigned c)
      (unsigned side)
  band_limit_in_order p s1 k repo c side r e post = post
