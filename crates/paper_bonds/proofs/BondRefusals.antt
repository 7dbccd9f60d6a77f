-- The numbers of the bond call (W-206): each is given exactly when its condition holds and none before it in the order
-- 6, 17, 7, 9 does, and 0 exactly when none does; a refusal has every figure 0.
use mathlib.Core.Path.{◌≡◌, refl, sym, ◌∙◌, ap}
use mathlib.Core.Bool.{Bool, true, false}
use mathlib.Core.List.{List}
use lib.IntN.{ℤ}
use Rattle.paper.specs.declared.Verdict.{Verdict}
use Rattle.paper.specs.declared.Verdict.TheVariants.{Done}
use Rattle.paper.specs.Lists.{pick, every}
use Rattle.paper.specs.Verdicts.{is_done, first_of, FirstAt, NoneApplies, Exactly, all_refusals}
use Rattle.paper.proofs.Logic.{pick_true, pick_false}
use Rattle.paper_desk.proofs.Refusals as checks
use Rattle.paper_desk.proofs.Refusals.{done_is}
use Rattle.paper_bonds.specs.declared.Bond.{Bond}
use Rattle.paper_bonds.specs.Bonds.{flows_of, bond_checks, refused_bond, accepted_bond, bond_answer}

module _ (b : Bond) (numbers : List ℤ) where
  -- what is answered carries the first number that applies
  pub verdict_first : (bond_answer b numbers).verdict ≡ first_of (bond_checks b numbers)
  unfolding bond_answer accepted_bond refused_bond
  verdict_first = go (first_of (bond_checks b numbers)) (is_done (first_of (bond_checks b numbers))) refl
    where
      go : (v : Verdict) (t : Bool) → is_done v ≡ t
          → (pick t (accepted_bond b (flows_of numbers)) (refused_bond v)).verdict ≡ v
      go v true e = sym (done_is v e)
      go v false e = refl

  -- a refusal is answered exactly when it is the first that applies
  pub refused_exactly : (v : Verdict) → is_done v ≡ false
      → Exactly ((bond_answer b numbers).verdict ≡ v) (FirstAt v (bond_checks b numbers))
  refused_exactly = checks.refused_exactly (bond_answer b numbers).verdict (bond_checks b numbers) verdict_first

  -- 0 exactly when none applies
  pub accepted_exactly : Exactly ((bond_answer b numbers).verdict ≡ Done) (NoneApplies (bond_checks b numbers))
  unfolding bond_checks is_done all_refusals every
  accepted_exactly = checks.accepted_exactly (bond_answer b numbers).verdict (bond_checks b numbers) verdict_first refl

  -- a refusal has its number and every figure 0
  pub refused_zero : is_done (bond_answer b numbers).verdict ≡ false
      → bond_answer b numbers ≡ refused_bond (bond_answer b numbers).verdict
  unfolding bond_answer
  refused_zero e =
      pick_false (is_done (first_of (bond_checks b numbers))) _ _ (ap is_done (sym verdict_first) ∙ e)
      ∙ ap refused_bond (sym verdict_first)

  -- and 0 comes with the figures
  pub accepted_figures : (bond_answer b numbers).verdict ≡ Done → bond_answer b numbers ≡ accepted_bond b (flows_of numbers)
  unfolding bond_answer is_done
  accepted_figures e = pick_true (is_done (first_of (bond_checks b numbers))) _ _ (ap is_done (sym verdict_first ∙ e))
