-- The first reason that holds: it is named exactly where its condition holds and no earlier one's does, and exactly one
-- is named. One law for every list of reasons.
use mathlib.Core.Path.{◌≡◌, refl, sym}
use mathlib.Core.Logic.{⊎_elim}
use mathlib.Core.Bool.{Bool, true}
use mathlib.Core.List.{List, [], ◌∷◌}
use Rattle.paper.specs.Verdicts.{FirstAt, here, later, NoneApplies}
use Rattle.paper_desk.proofs.Refusals.{named_is_first_or_otherwise, first_is_named}
use Rattle.paper_reasons.specs.Reasons.{is_in_order, first_that_holds, TrueReason}

-- the condition of the first that applies holds
pub first_holds : {A : Type 0} (holds : A → Bool) (order : List A) (v : A) → FirstAt v (is_in_order holds order)
    → holds v ≡ true
first_holds holds (x ∷ xs) v (here e q) = rw e at q
first_holds holds (x ∷ xs) v (later q rest) = first_holds holds xs v rest
first_holds {A = A} holds [] v x' = elim x' [ ]

-- WHAT IS NAMED IS THE TRUE REASON, where the conditions leave out no case
pub true_reason : {A : Type 0} (none : A) (holds : A → Bool) (order : List A)
    → (NoneApplies (is_in_order holds order) → ⊥) → TrueReason holds order (first_that_holds none holds order)
true_reason {A} none holds order some =
    record {
      exactly = λ v. (only_first v, λ f. first_is_named none (is_in_order holds order) v f);
      condition = first_holds holds order named (only_first named refl);
      only = λ v f. sym (first_is_named none (is_in_order holds order) v f);
    }
  where
    named : A
    named = first_that_holds none holds order

    only_first : (v : A) → first_that_holds none holds order ≡ v → FirstAt v (is_in_order holds order)
    only_first v e =
        ⊎_elim (λ f. f) (λ o. absurd (some o.1)) (named_is_first_or_otherwise none (is_in_order holds order) v e)
