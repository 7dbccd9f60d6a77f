-- Demand 1: each number is given exactly when its condition holds and no earlier one in the paper's order does; a
-- refused call leaves the table as it was, and answers its number with every figure 0.
use mathlib.Core.Path.{◌≡◌, refl, sym, ◌∙◌, ap}
use mathlib.Core.Logic.{◌⊎◌, inl, inr, ⊎_elim}
use mathlib.Core.Bool.{Bool, true, false, not}
use mathlib.Core.List.{List, [], ◌∷◌}
use Rattle.paper.specs.declared.Record.{Record}
use Rattle.paper.specs.declared.Verdict.{Verdict}
use Rattle.paper.specs.declared.Verdict.TheVariants.{Done, NoSuchId, AlreadyAdmitted, NoEmptySlot, AdmissionOutOfRange}
use Rattle.paper.specs.declared.Verdict.TheVariants.{DayNotAfter, OutOfRange, PriceOutOfRange, MoveTooLarge}
use Rattle.paper.specs.declared.Verdict.TheVariants.{BandCrossed, NotLive, NotMonitored, MovesUsedUp, SecondEarlier}
use Rattle.paper.specs.declared.Verdict.TheVariants.{NotAscending, BadLine, RowCrossed, NoFaceValue, NoEveningMove}
use Rattle.paper.specs.declared.Verdict.TheVariants.{OpenedTwice, BadFloat, CutShort, WrongLength, FieldOutOfRange}
use Rattle.paper.specs.declared.Verdict.TheVariants.{NoRoom}
use Rattle.paper.specs.Lists.{pick, every}
use Rattle.paper.specs.Verdicts.{is_done, Naming, Check, first_named, first_of, FirstAt, here, later, NoneApplies, none}
use Rattle.paper.specs.Verdicts.{also, all_refusals, Exactly}
use Rattle.paper_desk.specs.Desk.{Call, admit, about, found, admit_checks, rule_of, checks_of, Outcome, saying}
use Rattle.paper_desk.specs.Desk.{judged, accepted_of, step}
use Rattle.paper.proofs.Logic.{not_true_and_false, and_left, and_right, pick_true, pick_false}
use Rattle.paper_desk.proofs.Rules.{rule_holds, reply_done}

-- ---- the first check that applies

pub done_is : (v : Verdict) → is_done v ≡ true → v ≡ Done
unfolding is_done
done_is Done e = refl
done_is NoSuchId e = absurd (not_true_and_false false e refl)
done_is AlreadyAdmitted e = absurd (not_true_and_false false e refl)
done_is NoEmptySlot e = absurd (not_true_and_false false e refl)
done_is AdmissionOutOfRange e = absurd (not_true_and_false false e refl)
done_is DayNotAfter e = absurd (not_true_and_false false e refl)
done_is OutOfRange e = absurd (not_true_and_false false e refl)
done_is PriceOutOfRange e = absurd (not_true_and_false false e refl)
done_is MoveTooLarge e = absurd (not_true_and_false false e refl)
done_is BandCrossed e = absurd (not_true_and_false false e refl)
done_is NotLive e = absurd (not_true_and_false false e refl)
done_is NotMonitored e = absurd (not_true_and_false false e refl)
done_is MovesUsedUp e = absurd (not_true_and_false false e refl)
done_is SecondEarlier e = absurd (not_true_and_false false e refl)
done_is NotAscending e = absurd (not_true_and_false false e refl)
done_is BadLine e = absurd (not_true_and_false false e refl)
done_is RowCrossed e = absurd (not_true_and_false false e refl)
done_is NoFaceValue e = absurd (not_true_and_false false e refl)
done_is NoEveningMove e = absurd (not_true_and_false false e refl)
done_is OpenedTwice e = absurd (not_true_and_false false e refl)
done_is BadFloat e = absurd (not_true_and_false false e refl)
done_is CutShort e = absurd (not_true_and_false false e refl)
done_is WrongLength e = absurd (not_true_and_false false e refl)
done_is FieldOutOfRange e = absurd (not_true_and_false false e refl)
done_is NoRoom e = absurd (not_true_and_false false e refl)

-- what is named is what the first that applies names; or none applies, and it is what stands otherwise
pub named_is_first_or_otherwise : {A : Type 0} (otherwise : A) (cs : List (Naming A)) (v : A)
    → first_named otherwise cs ≡ v
    → FirstAt v cs ⊎ ((otherwise ≡ v) × NoneApplies cs)
named_is_first_or_otherwise otherwise [] v e = inr (e, none)
named_is_first_or_otherwise otherwise (c ∷ cs) v e = go c.applies refl e (named_is_first_or_otherwise otherwise cs v)
  where
    go : (b : Bool) → c.applies ≡ b → pick b c.verdict (first_named otherwise cs) ≡ v
        → (first_named otherwise cs ≡ v → FirstAt v cs ⊎ ((otherwise ≡ v) × NoneApplies cs))
        → FirstAt v (c ∷ cs) ⊎ ((otherwise ≡ v) × NoneApplies (c ∷ cs))
    go true q w rest = inl (here w q)
    go false q w rest = ⊎_elim (λ f. inl (later q f)) (λ n. inr (n.0, also q n.1)) (rest w)

-- and it is named wherever it is the first that applies
pub first_is_named : {A : Type 0} (otherwise : A) (cs : List (Naming A)) (v : A) → FirstAt v cs
    → first_named otherwise cs ≡ v
first_is_named {A = A} otherwise [] v x' = elim x' [ ]
first_is_named otherwise (c ∷ cs) v (here w q) = rw q w
first_is_named otherwise (c ∷ cs) v (later q rest) = rw q (first_is_named otherwise cs v rest)

pub none_named : {A : Type 0} (otherwise : A) (cs : List (Naming A)) → NoneApplies cs
    → first_named otherwise cs ≡ otherwise
none_named otherwise [] none = refl
none_named otherwise (c ∷ cs) (also q rest) = rw q (none_named otherwise cs rest)

-- a number that is not 0 is given only where it is the first that applies
pub given_is_first : (cs : List Check) (v : Verdict) → is_done v ≡ false → first_of cs ≡ v → FirstAt v cs
unfolding first_of is_done
given_is_first cs v n e =
    ⊎_elim (λ f. f) (λ o. absurd (not_true_and_false (is_done Done) refl (ap is_done o.0 ∙ n)))
    (named_is_first_or_otherwise Done cs v e)

-- and wherever it is
pub first_is_given : (cs : List Check) (v : Verdict) → FirstAt v cs → first_of cs ≡ v
unfolding first_of
first_is_given cs v f = first_is_named Done cs v f

-- where every check names a refusal, 0 is given exactly where none applies
pub done_means_none_applies : (cs : List Check) → all_refusals cs ≡ true → is_done (first_of cs) ≡ true → NoneApplies cs
unfolding all_refusals every first_of
done_means_none_applies [] r e = none
done_means_none_applies (c ∷ cs) r e = go c.applies refl e
    (done_means_none_applies cs (and_right (not (is_done c.verdict)) _ r))
  where
    go : (b : Bool) → c.applies ≡ b → is_done (pick b c.verdict (first_of cs)) ≡ true
        → (is_done (first_of cs) ≡ true → NoneApplies cs) → NoneApplies (c ∷ cs)
    go true q w rest =
        absurd (not_true_and_false (not (is_done c.verdict)) (and_left (not (is_done c.verdict)) _ r) (ap not w))
    go false q w rest = also q (rest w)

pub none_applies_gives_done : (cs : List Check) → NoneApplies cs → first_of cs ≡ Done
unfolding first_of
none_applies_gives_done cs n = none_named Done cs n

-- an answer that is the first of its checks: each number is given exactly when its condition holds and no earlier one
-- does, and 0 exactly when none does
module _ (answer : Verdict) (checks : List Check) (is : answer ≡ first_of checks) where
  pub refused_exactly : (v : Verdict) → is_done v ≡ false → Exactly (answer ≡ v) (FirstAt v checks)
  refused_exactly v n = (λ e. given_is_first checks v n (sym is ∙ e), λ f. is ∙ first_is_given checks v f)

  pub accepted_exactly : all_refusals checks ≡ true → Exactly (answer ≡ Done) (NoneApplies checks)
  unfolding is_done
  accepted_exactly r = (
    λ e. done_means_none_applies checks r (ap is_done (sym is ∙ e)),
    λ n. is ∙ none_applies_gives_done checks n,
  )

-- ---- each call

all_refusals_lem : (c : Call) (t : List Record) → all_refusals (checks_of c t) ≡ true
unfolding checks_of admit_checks all_refusals every is_done
all_refusals_lem (admit a) t = refl
all_refusals_lem (about id x) t = (rule_holds x).refusals (found t id)

accepted_done : (c : Call) (t : List Record) → (accepted_of c t).answer.verdict ≡ Done
unfolding accepted_of saying
accepted_done (admit a) t = refl
accepted_done (about id x) t = reply_done (rule_of x).reply (found t id) ((rule_of x).made (found t id))

-- what is answered carries the first number that applies
pub verdict_first : (c : Call) (t : List Record) → (step c t).answer.verdict ≡ first_of (checks_of c t)
unfolding step judged saying
verdict_first c t = go (first_of (checks_of c t)) (is_done (first_of (checks_of c t))) refl
  where
    go : (v : Verdict) (b : Bool) → is_done v ≡ b
        → (pick b (accepted_of c t) (record { answer = saying v; table = t })).answer.verdict ≡ v
    go v true e = accepted_done c t ∙ sym (done_is v e)
    go v false e = refl

-- a call that is refused, and one that is accepted
pub refused_step : (c : Call) (t : List Record) → is_done (first_of (checks_of c t)) ≡ false
    → step c t ≡ record { answer = saying (first_of (checks_of c t)); table = t }
unfolding step judged
refused_step c t e = pick_false (is_done (first_of (checks_of c t))) _ _ e

pub accepted_step : (c : Call) (t : List Record) → is_done (first_of (checks_of c t)) ≡ true → step c t ≡ accepted_of c t
unfolding step judged
accepted_step c t e = pick_true (is_done (first_of (checks_of c t))) _ _ e

-- Demand 1. A refusal v is answered exactly when v is the first that applies, in the paper's order; 0 exactly when none
-- applies
pub refused_only : (c : Call) (t : List Record) (v : Verdict) → is_done v ≡ false → (step c t).answer.verdict ≡ v
    → FirstAt v (checks_of c t)
refused_only c t v n e = given_is_first (checks_of c t) v n (sym (verdict_first c t) ∙ e)

pub refused_always : (c : Call) (t : List Record) (v : Verdict) → FirstAt v (checks_of c t)
    → (step c t).answer.verdict ≡ v
refused_always c t v f = verdict_first c t ∙ first_is_given (checks_of c t) v f

pub accepted_only : (c : Call) (t : List Record) → is_done (step c t).answer.verdict ≡ true
    → NoneApplies (checks_of c t)
accepted_only c t e = done_means_none_applies (checks_of c t) (all_refusals_lem c t)
    (ap is_done (sym (verdict_first c t)) ∙ e)

pub accepted_always : (c : Call) (t : List Record) → NoneApplies (checks_of c t) → (step c t).answer.verdict ≡ Done
accepted_always c t n = verdict_first c t ∙ none_applies_gives_done (checks_of c t) n

-- a refused call leaves the table as it was, and answers its number with every figure 0
pub refused_leaves : (c : Call) (t : List Record) → is_done (step c t).answer.verdict ≡ false
    → ((step c t).table ≡ t) × ((step c t).answer ≡ saying (step c t).answer.verdict)
unfolding saying
refused_leaves c t e =
    let r : is_done (first_of (checks_of c t)) ≡ false = ap is_done (sym (verdict_first c t)) ∙ e in
    let s = refused_step c t r in
    (ap (λ (o : Outcome). o.table) s, ap (λ (o : Outcome). o.answer) s ∙ ap saying (sym (verdict_first c t)))
