-- An effect on one slot is the paper's step on the table: what is stored past the end changes nothing, and that is all
-- that a refusal stores.
use mathlib.Core.Path.{◌≡◌, refl, ap, ◌∙◌}
use mathlib.Core.Bool.{Bool, true, false}
use mathlib.Core.List.{List}
use Prim.Native.Nat.{ℕ}
use native.Mathlib.Nat.{le_refl}
use lib.ListN.{length, set}
use lib.Seq.{set_out}
use Rattle.paper.specs.declared.Record.{Record}
use Rattle.paper.specs.declared.Answer.{Answer}
use Rattle.paper.specs.declared.Admission.{Admission}
use Rattle.paper.specs.declared.Verdict.{Verdict}
use Rattle.paper.specs.Lists.{pick}
use Rattle.paper.specs.Verdicts.{is_done, first_of}
use Rattle.paper_desk.specs.Desk.{Ask, Call, admit, about, Outcome, blank, saying, alerting, alerts_on, place, stands}
use Rattle.paper_desk.specs.Desk.{found, known, rule_of, admit_checks, checks_on, checks_of, Reply, the_record, the_alerts}
use Rattle.paper_desk.specs.Desk.{reply_on, judged, accepted_of, step}
use Rattle.record_answers.specs.declared.Effect.{Effect}
use Rattle.record_answers.specs.declared.Slot.{Slot}
use Rattle.record_answers.specs.Effects.{slot_found, holds, is_known, answer_by, answer_of, refused_effect}
use Rattle.record_answers.specs.Effects.{judged_effect, admit_checks_of, admit_effect, replied_on, effect_of, done_by}
use Rattle.desk.specs.Promises.{Promised}
use Rattle.desk.specs.Guesses.{slot_at, DoneAt}

judged_done : (t : List Record) (v : Verdict) (o : Effect) → done_by t (judged_effect (length t) v o)
    ≡ judged v t (done_by t o)
unfolding done_by judged_effect refused_effect judged answer_by
judged_done t v o = go (is_done v)
  where
    go : (b : Bool) → done_by t (pick b o (refused_effect (length t) v))
        ≡ pick b (done_by t o) (record { answer = saying v; table = t })
    go true = refl
    go false = ap (λ (u : List Record). record { answer = saying v; table = u })
        (set_out t (length t) blank (le_refl (length t)))

pub admit_steps : (t : List Record) (a : Admission) → done_by t (admit_effect (slot_found t a.id) (slot_found t 0) a)
    ≡ step (admit a) t
unfolding slot_found holds admit_checks_of admit_effect done_by answer_by stands admit_checks checks_of accepted_of step
admit_steps t a = judged_done t _ _

-- the answer of what an accepted ask replies is the paper's
replied_answers : (k : Reply) (r made : Record) → answer_by (replied_on k r) made ≡ reply_on k r made
unfolding answer_by alerting alerts_on
replied_answers the_record r made = refl
replied_answers (the_alerts q) r made = refl

-- of whatever is asked
pub ask_steps : (t : List Record) (id : ℕ) (x : Ask) → done_by t (effect_of (slot_found t id) x) ≡ step (about id x) t
unfolding slot_found holds is_known effect_of done_by stands known checks_of accepted_of step
ask_steps t id x =
    let r : Record = found t id in
    let made : Record = (rule_of x).made r in
    judged_done t _ _
    ∙ ap (λ (a : Answer). judged (first_of (checks_on (known t id) r x)) t
    (record { answer = a; table = set t (place t id) made })) (replied_answers (rule_of x).reply r made)

-- what an effect stores and answers is promised, where the effect is the paper's step
pub promised : (c : Call) (t : List Record) (o : Effect) → done_by t o ≡ step c t
    → Promised c t (answer_of o) (set t o.at o.rec)
unfolding done_by
promised c t o e = record { answer = ap (λ (x : Outcome). x.answer) e; table = ap (λ (x : Outcome). x.table) e }

-- ---- a call: the slot s is taken, the effect o is made of it, what o has is stored, and r is the answer of it

-- of an admission, which also takes the first empty slot e
pub admit_promised : (t : List Record) (a : Admission) (s e : Slot) (o : Effect) (r : Answer) (u : List Record)
    → s ≡ slot_found t a.id → e ≡ slot_found t 0 → o ≡ admit_effect s e a → r ≡ answer_of o → u ≡ set t o.at o.rec
    → Promised (admit a) t r u
admit_promised t a s e o r u is_s is_e is_o is_r is_u =
    let same : o ≡ admit_effect (slot_found t a.id) (slot_found t 0) a = cc in
    rw (is_r, is_u) (promised (admit a) t o (ap (done_by t) same ∙ admit_steps t a))

pub ask_promised : (t : List Record) (id : ℕ) (x : Ask) (s : Slot) (o : Effect) (r : Answer) (u : List Record)
    → s ≡ slot_found t id → o ≡ effect_of s x → r ≡ answer_of o → u ≡ set t o.at o.rec → Promised (about id x) t r u
ask_promised t id x s o r u is_s is_o is_r is_u =
    let same : o ≡ effect_of (slot_found t id) x = cc in
    rw (is_r, is_u) (promised (about id x) t o (ap (done_by t) same ∙ ask_steps t id x))

-- of the slot at a place
pub done_at : (t : List Record) (i : ℕ) (x : Ask) (s : Slot) (o : Effect) (r : Answer) (u : List Record)
    → s ≡ slot_at t i → o ≡ effect_of s x → r ≡ answer_of o → u ≡ set t o.at o.rec → DoneAt i x t r u
unfolding done_by
done_at t i x s o r u is_s is_o is_r is_u =
    let same : o ≡ effect_of (slot_at t i) x = cc in
    record {
      answer = is_r ∙ ap answer_of same;
      table = is_u ∙ ap (λ (z : Effect). set t z.at z.rec) same;
    }
