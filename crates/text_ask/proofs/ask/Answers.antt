-- `text_ask::ask` meets its contract: a line that is no call leaves the table (`no_call`); of a call the reasons are asked
-- before it is performed, of an evaluation alone (`no_evaluation`).
use Rattle.std.proofs.Common.{◌≡◌, refl, sym, ◌∙◌, ℕ, Bool, true, List}
use Rattle.std.proofs.lemmas.Bool.{false≢true}
use lib.IntN.{ℤ}
use Rattle.std.specs.declared.option.Option.TheVariants.{None}
use Rattle.paper.specs.declared.Record.{Record}
use Rattle.paper.specs.declared.AskedDay.{AskedDay}
use Rattle.text_protocol.specs.declared.AskedCall.{AskedCall}
use Rattle.text_protocol.specs.declared.Ask.{Ask}
use Rattle.text_protocol.specs.declared.Ask.TheVariants as ask
use Rattle.text_protocol.specs.declared.Role.{Role}
use Rattle.text_protocol.specs.declared.Role.TheVariants as role
use Rattle.text_protocol.specs.declared.Performed.{Performed}
use Rattle.text_protocol.specs.Calls.{role_of}
use Rattle.text_ask.specs.WithReasons.{explanation, AsksAt}
use Rattle.text_ask.proofs.ask.Goals.{then-asked+in-Evaluation, then-asked+in_default-role, else-asked}
use Rattle.text_ask.proofs.ask.Goals as goal

-- a line that is no call of the desk
no_call : (at : ℕ) (asked : Bool) (a : Ask) (rows : List ℤ) (t : List Record) (r : Performed)
    → ((c : AskedCall) → a ≡ ask.Call c → ⊥) → AsksAt at asked a rows t r t
unfolding AsksAt
no_call at asked ask.Nothing rows t r other = refl
no_call at asked ask.NoCall rows t r other = refl
no_call at asked (ask.Call c) rows t r other = absurd (other c refl)
no_call at asked (ask.Interest i) rows t r other = refl
no_call at asked (ask.Bond b) rows t r other = refl

-- a call that is no evaluation has no reason
no_evaluation : (x : Role) (rows : List ℤ) (t : List Record)
    → ((id : ℕ) (d : AskedDay) → x ≡ role.Evaluation id d → ⊥) → None ≡ explanation x rows t
unfolding explanation
no_evaluation (role.Admission g) rows t other = refl
no_evaluation (role.Evaluation id d) rows t other = absurd (other id d refl)
no_evaluation role.Quote rows t other = refl
no_evaluation (role.Move side) rows t other = refl
no_evaluation role.Opening rows t other = refl
no_evaluation role.Other rows t other = refl

pub returns-in_default : goal.returns-in_default
returns-in_default c = no_call _ _ _ _ _ _ c.in_default.not-Call

pub returns : goal.returns
unfolding AsksAt explanation
returns c =
    let why : c.args.asked ≡ true → c.if-asked.why ≡ explanation (role_of c.in-Call.c) c.args.rows.now c.args.t.now =
    λ told.
    elim c.if-asked.branch [
      | then-asked+in-Evaluation w ↦
          rw (w.why-is, w.why_asked.ensures, ← w.role.ensures, w.in-Evaluation.is) refl
      | then-asked+in_default-role w ↦
          w.why-is ∙ no_evaluation (role_of c.in-Call.c) c.args.rows.now c.args.t.now
          (λ id d e. w.in_default-role.not-Evaluation id d (w.role.ensures ∙ e))
      | else-asked w ↦ absurd (false≢true (sym w.if-asked.false ∙ told))
    ] in
    rw c.in-Call.is (record { promised = c.perform-answer.ensures; why = why })
