-- What a call makes of the slot that it found: where to store, what, and what to reply. Each is `step` of the paper on
-- one slot (`desk`, proofs/Steps).
use Rattle.std.specs.Prelude.{Bool, not, ◌&&◌, List, [], ◌∷◌, ℕ, ltb, length, set, ℤ}
use Rattle.paper.specs.declared.Record.{Record}
use Rattle.paper.specs.declared.Admission.{Admission}
use Rattle.paper.specs.declared.Day.{Day}
use Rattle.paper.specs.declared.Verdict.{Verdict}
use Rattle.paper.specs.declared.Verdict.TheVariants.{Done, AlreadyAdmitted, NoEmptySlot, AdmissionOutOfRange}
use Rattle.paper.specs.Lists.{pick}
use Rattle.paper.specs.Ranges.{valid_slots, valid_admission, sound}
use Rattle.paper.specs.Verdicts.{is_done, Check, first_of}
use Rattle.paper.specs.declared.Answer.{Answer}
use Rattle.paper_desk.specs.Desk.{blank, saying, showing, alerting, alerts_on, admitted, place, found, Ask, evaluating}
use Rattle.paper_desk.specs.Desk.{Reply, the_record, the_alerts, rule_of, checks_on, Outcome}
use Rattle.record_answers.specs.declared.Slot.{Slot}
use Rattle.record_answers.specs.declared.Effect.{Effect}
use Rattle.record_answers.specs.declared.Replied.{Replied}
use Rattle.record_answers.specs.declared.Replied.TheVariants.{Number, TheRecord, Alerts}

-- the first slot with an id: the number of slots, its place, and its record; past the end, a blank
unfoldable pub slot_found : List Record → (id : ℕ) → Slot
slot_found t id = record { count = length t; at = place t id; rec = found t id }

-- whether the slot holds an id, and whether that is a known one
unfoldable pub holds : Slot → Bool
holds s = ltb s.at s.count

unfoldable pub is_known : Slot → Bool
is_known s = valid_slots s.count && holds s && sound s.rec

-- what is answered: a number alone, the record as it then stands, or two alerts
unfoldable pub answer_by : Replied → Record → Answer
answer_by (Number v) r = saying v
answer_by TheRecord r = showing r
answer_by (Alerts top bottom) r = alerting top bottom

abbrev pub answer_of : Effect → Answer
answer_of o = answer_by o.replied o.rec

-- a refusal stores past the end, where nothing is stored
unfoldable pub refused_effect : (count : ℕ) → Verdict → Effect
refused_effect count v = record { at = count; rec = blank; replied = Number v }

unfoldable pub judged_effect : (count : ℕ) → Verdict → Effect → Effect
judged_effect count v accepted = pick (is_done v) accepted (refused_effect count v)

-- of the slot with the id, and the first empty one
unfoldable pub admit_checks_of : (its_own first_empty : Slot) → Admission → List Check
admit_checks_of s e a =
    record { verdict = AdmissionOutOfRange; applies = not (valid_slots s.count && valid_admission a) }
    ∷ record { verdict = AlreadyAdmitted; applies = holds s }
    ∷ record { verdict = NoEmptySlot; applies = not (holds e) }
    ∷ []

unfoldable pub admit_effect : (its_own first_empty : Slot) → Admission → Effect
admit_effect s e a =
    judged_effect s.count (first_of (admit_checks_of s e a))
    (record { at = e.at; rec = admitted a; replied = Number Done })

-- what an accepted ask replies, of the record found
abbrev pub replied_on : Reply → (before : Record) → Replied
replied_on the_record r = TheRecord
replied_on (the_alerts q) r = Alerts (alerts_on r q).top (alerts_on r q).bottom

-- of what is asked about the id of the slot
unfoldable pub effect_of : Slot → Ask → Effect
effect_of s x =
    judged_effect s.count (first_of (checks_on (is_known s) s.rec x))
    (record { at = s.at; rec = (rule_of x).made s.rec; replied = replied_on (rule_of x).reply s.rec })

abbrev pub evaluate_effect : Slot → Day → (rows : List ℤ) → Effect
evaluate_effect s d rows = effect_of s (evaluating d rows)

-- the table after an effect, and its answer
unfoldable pub done_by : List Record → Effect → Outcome
done_by t o = record { answer = answer_of o; table = set t o.at o.rec }
