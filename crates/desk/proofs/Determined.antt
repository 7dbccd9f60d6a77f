-- "For every input, refusals among them, a public call's promise must determine the answer and the whole table after
-- it. Any two outcomes it allows are shown equal." Of each public call's own contract: where it ensures two outcomes of
-- the same arguments, they are equal, in every model of the logic. No contract has a `requires` but that of `about_known`,
-- which only a caller meets that has judged the slot.
use mathlib.Core.Path.{◌≡◌, refl, sym, ◌∙◌}
use mathlib.Core.List.{List}
use seplogic.Ra.Ura.{Ura}
use base.Logic.{SProp, ent}
use prog.Memory.{Memory}
use prog.Routine.{Routine}
use types.Logic.{Logic}
use contract.Conj.{conj, conj_l, conj_r}
use contract.Monad.{Fun, fact, fact_i, fact_use}
use Rattle.paper.specs.declared.Record.{Record}
use Rattle.paper.specs.declared.Answer.{Answer}
use Rattle.paper_desk.specs.Desk.{Call}
use Rattle.desk.specs.Promises.{Promised}
use Rattle.desk.specs.Determined.{Determined}
use Rattle.desk.specs.contracts.admit as admit
use Rattle.desk.specs.contracts.about as about
use Rattle.desk.specs.contracts.about_at as about-at
use Rattle.desk.specs.contracts.about_known as about-known
use Rattle.desk.specs.contracts.place_near as place-near
use Rattle.desk.specs.contracts.good_at as good-at

-- a call promises one answer and one table
pub promised_same : (c : Call) (t : List Record) (r r' : Answer) (u u' : List Record) → Promised c t r u
    → Promised c t r' u' → (r ≡ r') × (u ≡ u')
promised_same c t r r' u u' p p' = (p.answer ∙ sym p'.answer, p.table ∙ sym p'.table)

module _ {M : Type 1} (𝓤 : Ura M) where
  pub together : (φ ψ χ : Type 0) → (φ → ψ → χ) → ent 𝓤 (conj 𝓤 (fact 𝓤 φ) (fact 𝓤 ψ)) (fact 𝓤 χ)
  together φ ψ χ k =
      fact_use 𝓤 φ (conj_l 𝓤 (fact 𝓤 φ) (fact 𝓤 ψ))
      (λ p. fact_use 𝓤 ψ (conj_r 𝓤 (fact 𝓤 φ) (fact 𝓤 ψ)) (λ p'. fact_i 𝓤 χ (conj 𝓤 (fact 𝓤 φ) (fact 𝓤 ψ))
      (k p p')))

  module _ (𝓛 : Logic 𝓤) (mem : Memory → SProp 𝓤) (run : Routine → Fun 𝓤) where
    pub admit_determined : Determined 𝓤 admit.ended (admit.clauses 𝓛 mem run) (λ κs e. e.0.now)
    admit_determined κs a g r r' e e' = together _ _ _ (promised_same _ _ r r' e.0.now e'.0.now)

    pub about_determined : Determined 𝓤 about.ended (about.clauses 𝓛 mem run) (λ κs e. e.0.now)
    about_determined κs a g r r' e e' = together _ _ _ (promised_same _ _ r r' e.0.now e'.0.now)

    pub about_at_determined : Determined 𝓤 about-at.ended (about-at.clauses 𝓛 mem run) (λ κs e. e.0.now)
    about_at_determined κs a g r r' e e' =
        together _ _ _ (λ p p'. (p.answer ∙ sym p'.answer, p.table ∙ sym p'.table))

    pub about_known_determined : Determined 𝓤 about-known.ended (about-known.clauses 𝓛 mem run)
        (λ κs e. e.0.now)
    about_known_determined κs a g r r' e e' =
        together _ _ _ (λ p p'. (p.answer ∙ sym p'.answer, p.table ∙ sym p'.table))

    -- the table is lent as `&`, so it is left
    pub place_near_determined : Determined 𝓤 place-near.ended (place-near.clauses 𝓛 mem run) (λ κs e. tt {0})
    place_near_determined κs a g r r' e e' = together _ _ _ (λ p p'. (p ∙ sym p', refl))

    pub good_at_determined : Determined 𝓤 good-at.ended (good-at.clauses 𝓛 mem run) (λ κs e. tt {0})
    good_at_determined κs a g r r' e e' = together _ _ _ (λ p p'. (p ∙ sym p', refl))
