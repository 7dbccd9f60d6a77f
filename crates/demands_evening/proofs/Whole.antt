-- An accepted call is broadcast whole: an accepted admission is in range, and the record that an accepted evaluation,
-- move or opening answers stands in the table, where every record is sound.
use mathlib.Core.Path.{◌≡◌, refl, subst}
use mathlib.Core.Bool.{true}
use mathlib.Core.List.{List, [], ◌∷◌, ◌++◌}
use Rattle.std.specs.declared.option.Option.{Option}
use Rattle.std.specs.declared.option.Option.TheVariants.{None, Some}
use Prim.Native.Nat.{ℕ}
use lib.IntN.{ℤ}
use lib.ListN.{length}
use Rattle.paper.specs.declared.Record.{Record}
use Rattle.paper.specs.declared.Admission.{Admission}
use Rattle.paper.specs.declared.Answer.{Answer}
use Rattle.paper.specs.declared.Day.{Day}
use Rattle.paper.specs.declared.Side.{Side}
use Rattle.paper.specs.Lists.{every}
use Rattle.paper.specs.Ranges.{valid_slots, valid_admission, sound}
use Rattle.paper.specs.Verdicts.{is_done, NoneApplies, also}
use Rattle.paper_desk.specs.Sides.{shows}
use Rattle.paper_desk.specs.Desk.{Ask, evaluating, quoting, moving, reading, opening, receiving}
use Rattle.paper_desk.specs.Desk.{Call, admit, about, id_of, known, rule_of, checks_of, admit_checks, step, run}
use Rattle.paper_desk.specs.History.{FreshTable}
use Rattle.paper_reasons.specs.declared.Reasons.{Reasons}
use Rattle.paper_messages.specs.Messages.{valid}
use Rattle.paper_messages.specs.declared.Message.{Message}
use Rattle.paper_messages.specs.Broadcast.{of_evaluation, of_move, of_opening, messages_of}
use Rattle.demands_evening.specs.Whole.{SentWhole}
use Rattle.paper.proofs.Logic.{and_left, and_right, not_false, ◌&◌}
use Rattle.paper_desk.proofs.Slots.{known_sound}
use Rattle.paper_desk.proofs.Refusals.{accepted_only}
use Rattle.paper_desk.proofs.PinnedLaws.{shown_stands}
use Rattle.demands.proofs.Asks.{WhereAny, ask_holds}
use Rattle.demands.proofs.Kept.{call_knows}
use Rattle.demands.proofs.Known.{stays_known}
use Rattle.demands.proofs.Order.{run_one_more, no_admission_shows}
use Rattle.demands_evening.proofs.Valid.{admission_valid, rates_valid, bands_valid, move_valid}
use Rattle.demands_evening.proofs.Valid.{reasons_valid, session_valid}

-- 4 does not apply to an accepted admission
admission_in_range : (a : Admission) (t : List Record) → NoneApplies (checks_of (admit a) t) → valid_admission a ≡ true
unfolding checks_of admit_checks
admission_in_range a t (also v rest) = and_right (valid_slots (length t)) (valid_admission a) (not_false _ v)

-- the record that an accepted call answers is sound, since it stands in the table after the call
shown_sound : (cs : List Call) (t : List Record) → FreshTable t → (c : Call) → shows c ≡ true
    → is_done (step c (run cs t)).answer.verdict ≡ true
    → sound (step c (run cs t)).answer.rec ≡ true
shown_sound cs t f c e d =
    let before : known (run cs t) (id_of c) ≡ true =
    call_knows c (run cs t) (no_admission_shows c e) (accepted_only c (run cs t) d) in
    let after : known (step c (run cs t)).table (id_of c) ≡ true =
    rw (run_one_more cs c t) at (stays_known cs (c ∷ []) t f.slots f.empty (id_of c) before) in
    subst (λ (r : Record). sound r ≡ true) (shown_stands c (run cs t) e d)
    (known_sound (step c (run cs t)).table (id_of c) after)

-- messages that are valid, and others behind them
both_valid : (ms more : List Message) → every valid ms ≡ true → every valid more ≡ true → every valid (ms ++ more) ≡ true
unfolding every
both_valid [] more v w = w
both_valid (m ∷ ms) more v w =
    and_left (valid m) (every valid ms) v & both_valid ms more (and_right (valid m) (every valid ms) v) w

-- the messages of an evaluation, of a move and of an opening are those of a sound record
evaluation_valid : (e : Option (Day × List ℤ)) (a : Answer) (y : Reasons) → WhereAny e (sound a.rec ≡ true)
    → every valid (of_evaluation e a y) ≡ true
unfolding every
evaluation_valid None a y se = refl
evaluation_valid (Some day) a y se = rates_valid _ se & (bands_valid _ se & (reasons_valid _ se y & refl))

moved_valid : (m : Option Side) (a : Answer) → WhereAny m (sound a.rec ≡ true) → every valid (of_move m a) ≡ true
unfolding every
moved_valid None a sm = refl
moved_valid (Some side) a sm = move_valid _ sm side & refl

opening_valid : (id : ℕ) (x : Ask) (a : Answer) → (shows (about id x) ≡ true → sound a.rec ≡ true)
    → every valid (of_opening x a) ≡ true
unfolding every
opening_valid id (evaluating d rows) a so = refl
opening_valid id (quoting q) a so = refl
opening_valid id (moving side) a so = refl
opening_valid id reading a so = refl
opening_valid id opening a so = session_valid _ (so refl) & refl
opening_valid id (receiving x) a so = refl

where_any : {A P Q : Type 0} (o : Option A) → (P → Q) → WhereAny o P → WhereAny o Q
where_any None f p = p
where_any (Some a) f p = f p

accepted_valid : (cs : List Call) (t : List Record) → FreshTable t → (c : Call)
    → is_done (step c (run cs t)).answer.verdict ≡ true
    → (y : Reasons)
    → every valid (messages_of c (step c (run cs t)).answer y) ≡ true
unfolding messages_of every
accepted_valid cs t f (admit a) d y =
    rw (admission_valid a (admission_in_range a (run cs t) (accepted_only (admit a) (run cs t) d)))
accepted_valid cs t f (about id x) d y =
    let a : Answer = (step (about id x) (run cs t)).answer in
    both_valid (of_evaluation (rule_of x).evaluates a y) (of_move (rule_of x).moves a ++ of_opening x a)
    (evaluation_valid (rule_of x).evaluates a y (where_any (rule_of x).evaluates shown (ask_holds x).evaluation_shows))
    (both_valid (of_move (rule_of x).moves a) (of_opening x a)
    (moved_valid (rule_of x).moves a (where_any (rule_of x).moves shown (ask_holds x).move_shows))
    (opening_valid id x a shown))
  where
    shown : shows (about id x) ≡ true → sound (step (about id x) (run cs t)).answer.rec ≡ true
    shown e = shown_sound cs t f (about id x) e d

-- AFTER EVERY LIST OF CALLS on a fresh table an accepted call is broadcast whole
pub sent_whole : (cs : List Call) (t : List Record) → FreshTable t → (c : Call) → SentWhole c (run cs t)
sent_whole cs t f c = record { all_valid = accepted_valid cs t f c }
