-- The numbers of an interest call (W-201): each is given exactly when its condition holds, 6 before 14, and a refusal
-- has every figure 0.
use mathlib.Core.Path.{◌≡◌, refl, sym, ◌∙◌, ap}
use mathlib.Core.Bool.{Bool, true, false, not}
use mathlib.Core.List.{List}
use Prim.Native.Nat.{ℕ}
use native.Mathlib.Omega.{arith}
use lib.IntN.{ℤ}
use Rattle.paper.specs.declared.Interest.{Interest}
use Rattle.paper.specs.declared.Verdict.{Verdict}
use Rattle.paper.specs.declared.Verdict.TheVariants.{Done, OutOfRange, NotAscending}
use Rattle.paper.specs.Lists.{pick, every}
use Rattle.paper.specs.Verdicts.{number_of, is_done, first_of, FirstAt, here, later, NoneApplies, none, also, Exactly}
use Rattle.paper.specs.Verdicts.{all_refusals}
use Rattle.paper_interest.specs.Interest.{maturities_of, in_range, is_in_order, interest_checks, refused_interest}
use Rattle.paper_interest.specs.Interest.{accepted_interest, interest_answer}
use Rattle.paper.proofs.Logic.{not_true, not_false, pick_true, pick_false}
use Rattle.paper_desk.proofs.Refusals.{done_is, given_is_first, first_is_given, done_means_none_applies}
use Rattle.paper_desk.proofs.Refusals.{none_applies_gives_done}

module _ (i : Interest) (numbers : List ℤ) where
  -- what is answered carries the first number that applies
  pub verdict_first : (interest_answer i numbers).pair.verdict ≡ first_of (interest_checks i numbers)
  unfolding interest_answer accepted_interest refused_interest
  verdict_first = go (first_of (interest_checks i numbers)) (is_done (first_of (interest_checks i numbers))) refl
    where
      go : (v : Verdict) (b : Bool) → is_done v ≡ b
          → (pick b (accepted_interest i (maturities_of numbers)) (refused_interest v)).pair.verdict ≡ v
      go v true e = sym (done_is v e)
      go v false e = refl

  first_at : (v : Verdict) → is_done v ≡ false → (interest_answer i numbers).pair.verdict ≡ v
      → FirstAt v (interest_checks i numbers)
  first_at v n e = given_is_first (interest_checks i numbers) v n (sym verdict_first ∙ e)

  at_first : (v : Verdict) → FirstAt v (interest_checks i numbers) → (interest_answer i numbers).pair.verdict ≡ v
  at_first v f = verdict_first ∙ first_is_given (interest_checks i numbers) v f

  six_is_not_fourteen : OutOfRange ≡ NotAscending → ⊥
  six_is_not_fourteen e = let z : ◌≡◌ {A = ℕ} 6 14 = ap number_of e in omega arith

  -- 6
  pub out_of_range_exactly : Exactly ((interest_answer i numbers).pair.verdict ≡ OutOfRange) (in_range i numbers ≡ false)
  unfolding interest_checks is_done
  out_of_range_exactly = (λ e. only (first_at OutOfRange refl e), λ e. at_first OutOfRange (here refl (ap not e)))
    where
      only : FirstAt OutOfRange (interest_checks i numbers) → in_range i numbers ≡ false
      only (here w q) = not_true (in_range i numbers) q
      only (later p (here w q)) = absurd (six_is_not_fourteen (sym w))
      only (later p (later _ x9)) = elim x9 [ ]

  -- 14, after 6
  pub not_ascending_exactly : Exactly ((interest_answer i numbers).pair.verdict ≡ NotAscending)
      ((in_range i numbers ≡ true) × (is_in_order i numbers ≡ false))
  unfolding interest_checks is_done
  not_ascending_exactly = (
    λ e. only (first_at NotAscending refl e),
    λ e. at_first NotAscending (later (ap not e.0) (here refl (ap not e.1))),
  )
    where
      only : FirstAt NotAscending (interest_checks i numbers) → (in_range i numbers ≡ true) × (is_in_order i numbers ≡ false)
      only (here w q) = absurd (six_is_not_fourteen w)
      only (later p (here w q)) = (not_false (in_range i numbers) p, not_true (is_in_order i numbers) q)
      only (later p (later _ x9)) = elim x9 [ ]

  -- 0, otherwise
  pub accepted_exactly : Exactly ((interest_answer i numbers).pair.verdict ≡ Done)
      ((in_range i numbers ≡ true) × (is_in_order i numbers ≡ true))
  unfolding interest_checks is_done all_refusals every
  accepted_exactly = (
    λ e. only (done_means_none_applies (interest_checks i numbers) refl (ap is_done (sym verdict_first ∙ e))),
    λ e. verdict_first ∙ none_applies_gives_done (interest_checks i numbers)
        (also (ap not e.0) (also (ap not e.1) none)),
  )
    where
      only : NoneApplies (interest_checks i numbers) → (in_range i numbers ≡ true) × (is_in_order i numbers ≡ true)
      only (also p (also q none)) = (not_false (in_range i numbers) p, not_false (is_in_order i numbers) q)

  -- a refusal has its number and every figure 0
  pub refused_zero : is_done (interest_answer i numbers).pair.verdict ≡ false
      → interest_answer i numbers ≡ refused_interest (interest_answer i numbers).pair.verdict
  unfolding interest_answer
  refused_zero e =
      pick_false (is_done (first_of (interest_checks i numbers))) _ _ (ap is_done (sym verdict_first) ∙ e)
      ∙ ap refused_interest (sym verdict_first)

  -- and 0 comes with the figures
  pub accepted_figures : (interest_answer i numbers).pair.verdict ≡ Done
      → interest_answer i numbers ≡ accepted_interest i (maturities_of numbers)
  unfolding interest_answer is_done
  accepted_figures e = pick_true (is_done (first_of (interest_checks i numbers))) _ _ (ap is_done (sym verdict_first ∙ e))
