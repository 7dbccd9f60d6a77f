-- "Any two outcomes it allows are shown equal": of each call's own contract; and that its number is the one which the
-- evaluation answers, and its reasons are true of what the evaluation writes. The table is lent as `&`, so it is left.
use mathlib.Core.Path.{◌≡◌, refl, sym, ap, ◌∙◌}
use mathlib.Core.Bool.{true}
use mathlib.Core.List.{List}
use Prim.Native.Nat.{ℕ}
use lib.IntN.{ℤ}
use seplogic.Ra.Ura.{Ura}
use base.Logic.{SProp}
use prog.Memory.{Memory}
use prog.Routine.{Routine}
use types.Logic.{Logic}
use contract.Monad.{Fun}
use Rattle.paper.specs.declared.Record.{Record}
use Rattle.paper.specs.declared.Day.{Day}
use Rattle.paper.specs.declared.Answer.{Answer}
use Rattle.paper.specs.Verdicts.{is_done}
use Rattle.paper_desk.specs.Desk.{evaluate, found}
use Rattle.desk.specs.Promises.{Promised}
use Rattle.desk.specs.Determined.{Determined}
use Rattle.desk.proofs.Determined.{together}
use Rattle.paper_reasons.specs.declared.Why.{Why}
use Rattle.paper_reasons.specs.Why.{why_on}
use Rattle.paper_reasons.specs.Truth.{ReasonsTrue}
use Rattle.paper_reasons.proofs.Agrees.{number_agrees}
use Rattle.paper_reasons.proofs.Truth.{why_true}
use Rattle.desk.specs.contracts.reasons.why as why
use Rattle.desk.specs.contracts.reasons.why_asked as why-asked

module _ {M : Type 1} {𝓤 : Ura M} (𝓛 : Logic 𝓤) (mem : Memory → SProp 𝓤) (run : Routine → Fun 𝓤) where
  pub why_determined : Determined 𝓤 why.ended (why.clauses 𝓛 mem run) (λ κs e. tt {0})
  why_determined κs a g y y' e e' = together 𝓤 _ _ _ (λ p p'. (p ∙ sym p', refl))

  pub why_asked_determined : Determined 𝓤 why-asked.ended (why-asked.clauses 𝓛 mem run) (λ κs e. tt {0})
  why_asked_determined κs a g y y' e e' = together 𝓤 _ _ _ (λ p p'. (p ∙ sym p', refl))

-- WHAT AN EVALUATION PROMISES AND WHAT `why` SAYS have one number, for every table, id, day and rows
pub numbers_agree : (t : List Record) (id : ℕ) (d : Day) (rows : List ℤ) (r : Answer) (u : List Record) (y : Why)
    → Promised (evaluate id d rows) t r u → y ≡ why_on t id d rows → y.verdict ≡ r.verdict
numbers_agree t id d rows r u y p q =
    ap (λ (x : Why). x.verdict) q ∙ number_agrees t id d rows ∙ sym (ap (λ (x : Answer). x.verdict) p.answer)

-- and where the evaluation is accepted, each reason that `why` says is the true one of the record before and of the one
-- in the table after it
pub reasons_agree : (t : List Record) (id : ℕ) (d : Day) (rows : List ℤ) (r : Answer) (u : List Record) (y : Why)
    → Promised (evaluate id d rows) t r u → y ≡ why_on t id d rows → is_done r.verdict ≡ true
    → ReasonsTrue (found t id) (found u id) d rows y.reasons
reasons_agree t id d rows r u y p q e =
    rw (q, p.table) ((why_true t id d rows).accepted (ap (λ (x : Answer). is_done x.verdict) (sym p.answer) ∙ e))
