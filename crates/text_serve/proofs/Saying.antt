-- What a line is told as, by what the desk said to it, is what the evening tells it as.
use mathlib.Core.Path.{◌≡◌, refl, sym, ap, ◌∙◌}
use mathlib.Core.Bool.{Bool, true, false}
use mathlib.Core.List.{List, [], ◌∷◌, ◌++◌}
use Rattle.std.specs.declared.option.Option.{Option}
use Rattle.std.specs.declared.option.Option.TheVariants.{None, Some}
use Prim.Native.Nat.{ℕ}
use native.Mathlib.Omega.{arith}
use lib.Dec.{ltb}
use lib.IntN.{ℤ}
use lib.ListN.{length}
use Rattle.paper.specs.declared.Admission.{Admission}
use Rattle.paper.specs.declared.Answer.{Answer}
use Rattle.paper.specs.declared.AskedAbout.{AskedAbout}
use Rattle.paper.specs.declared.AskedAbout.TheVariants as about'
use Rattle.paper.specs.declared.Verdict.{Verdict}
use Rattle.paper.specs.Lists.{pick}
use Rattle.paper.proofs.Logic.{pick_same}
use Rattle.paper.specs.declared.Day.{Day}
use Rattle.paper.specs.declared.Record.{Record}
use Rattle.paper.specs.Ranges.{statics_of}
use Rattle.paper_desk.specs.Desk.{Ask as DeskAsk, ask_of, about, rule_of, step}
use Rattle.paper_reasons.specs.declared.Reasons.{Reasons as WhyReasons}
use Rattle.paper_reasons.specs.Why.{no_reasons, why_on}
use Rattle.text_protocol.specs.declared.AskedCall.{AskedCall}
use Rattle.text_protocol.specs.declared.AskedCall.TheVariants.{Admit, About}
use Rattle.text_protocol.specs.declared.Role.{Role}
use Rattle.text_protocol.specs.declared.Role.TheVariants as role
use Rattle.text_protocol.specs.declared.Ask.{Ask}
use Rattle.text_protocol.specs.declared.Ask.TheVariants as ask
use Rattle.text_protocol.specs.declared.Performed.{Performed}
use Rattle.text_protocol.specs.Answers.{call_text}
use Rattle.text_protocol.specs.Calls.{figures_behind, call_asked, role_about, role_of, deed_asked}
use Rattle.text_protocol.specs.Names.{evaluate_names}
use Rattle.text_protocol.specs.Reasons.{why_text}
use Rattle.text_protocol.specs.Roles.{shown_text, admitted_as, evaluated_as, moved_as, is_opening}
use Rattle.text_protocol.proofs.Variants.{of_id, role_by_rule, shown_by_role}
use Rattle.text_evening.specs.declared.Telling.{Telling}
use Rattle.text_evening.specs.declared.Telling.TheVariants.{Answers, Reasons, Messages}
use Rattle.paper_messages.specs.declared.Message.{Message}
use Rattle.paper_messages.specs.Records.{statics_message, rates_message, bands_message, reasons_message, session_message}
use Rattle.paper_messages.specs.Broadcast.{of_day, reasons_before, of_evaluation, of_move, of_opening, messages_of, messages_to}
use Rattle.paper_messages.specs.Broadcast.{all_sent}
use Rattle.text_evening.specs.Evening.{answer_to, reason_on, reason_to, messages_told, call_told, text_of, call_messages}
use Rattle.text_evening.specs.Evening.{messages_by}
use Rattle.text_broadcast.specs.Sent.{messages_shown, shown_to, broadcast_shown}
use Rattle.text_broadcast.proofs.Sending.{counted_is}
use Rattle.text_deed.specs.declared.Beside.{Beside}
use Rattle.text_deed.specs.Deeds.{BesideIs, asks_why, fault_shown, reason_for, reasons_in, call_said, line_text, ask_count}
use Rattle.text_deed.specs.Deeds.{line_count}
use Rattle.desk.specs.Promises.{Promised}
use Rattle.text_ask.specs.WithReasons.{explanation, Performs, Asks}

-- ---- each call is told by its role, since its role goes by its rule

module _ (rows : List ℤ) (a : Answer) (y : WhyReasons) where
  -- what is sent of a role: the statics, the rates, bands and reasons, the move, the session
  abbrev of_admission : Option Admission → List Message
  of_admission None = []
  of_admission (Some g) = statics_message g.id (statics_of g.given) ∷ []

  abbrev of_evaluated : Option (ℕ × (Day × List ℤ)) → List Message
  of_evaluated None = []
  of_evaluated (Some evaluated) = rates_message a.rec ∷ bands_message a.rec ∷ reasons_message a.rec y ∷ []

  abbrev of_opened : Bool → List Message
  of_opened opens = pick opens (session_message a.rec ∷ []) []

  sent_as : (x : Role)
      → messages_shown x a y
      ≡ of_admission (admitted_as x)
      ++ (of_evaluated (evaluated_as x rows) ++ (of_move (moved_as x) a ++ of_opened (is_opening x)))
  unfolding messages_shown admitted_as evaluated_as moved_as is_opening
  sent_as (role.Admission g) = refl
  sent_as (role.Evaluation id d) = refl
  sent_as role.Quote = refl
  sent_as (role.Move side) = refl
  sent_as role.Opening = refl
  sent_as role.Other = refl

  of_id_sends : (id : ℕ) (e : Option (Day × List ℤ)) → of_evaluated (of_id id e) ≡ of_evaluation e a y
  of_id_sends id None = refl
  of_id_sends id (Some dayAndRows) = refl

  -- an opening sends what an opening of the desk does
  opened_sends : (id : ℕ) (x : AskedAbout) → of_opened (is_opening (role_about id x)) ≡ of_opening (ask_of x rows) a
  unfolding is_opening role_about ask_of
  opened_sends id (about'.Evaluate d) = refl
  opened_sends id (about'.Quote q) = refl
  opened_sends id (about'.Move side) = refl
  opened_sends id about'.Read = refl
  opened_sends id about'.Open = refl
  opened_sends id (about'.Receive x) = refl
  opened_sends id (about'.Notify n) = refl

  messages_by_role : (c : AskedCall) → messages_shown (role_of c) a y ≡ messages_of (call_asked c rows) a y
  unfolding call_asked role_of messages_shown messages_of
  messages_by_role (Admit g) = refl
  messages_by_role (About id x) =
      let by = role_by_rule id x rows in
      sent_as (role_about id x)
      ∙ rw (
        by.admits,
        by.evaluates,
        by.moves,
        of_id_sends id (rule_of (ask_of x rows)).evaluates,
        opened_sends id x,
      )

  sent_by_role : (c : AskedCall) → shown_to (role_of c) a y ≡ messages_to (call_asked c rows) a y
  unfolding shown_to messages_to
  sent_by_role c = rw (messages_by_role c)

-- what a call of a role is told as with reasons: only an evaluation has them
unfoldable reason_shown : Option (ℕ × (Day × List ℤ)) → (answer : List ℕ) → List Record → List ℕ
reason_shown None answer t = answer
reason_shown (Some (id, (d, rows))) answer t = why_text (why_on t id d rows)

of_id_reasons : (id : ℕ) (x : DeskAsk) (e : Option (Day × List ℤ)) (t : List Record)
    → reason_shown (of_id id e) (answer_to (about id x) t) t ≡ reason_on id x e t
unfolding reason_shown
of_id_reasons id x None t = refl
of_id_reasons id x (Some (d, rows)) t = refl

-- of a call that is no admission
reasons_by_role : (c : AskedCall) (rows : List ℤ) (t : List Record) → admitted_as (role_of c) ≡ None
    → reason_shown (evaluated_as (role_of c) rows) (answer_to (call_asked c rows) t) t ≡ reason_to (call_asked c rows) t
unfolding call_asked role_of admitted_as evaluated_as reason_to reason_shown
reasons_by_role (Admit g) rows t e = absurd (let z : ◌≡◌ {A = ℕ} 0 1 = cc in omega arith)
reasons_by_role (About id x) rows t e =
    rw (role_by_rule id x rows).evaluates (of_id_reasons id (ask_of x rows) (rule_of (ask_of x rows)).evaluates t)

-- only an admission has a number at fault
fault_of_lem : (x : Role) (a : Answer) → admitted_as x ≡ None → fault_shown x a ≡ shown_text x a
unfolding fault_shown admitted_as
fault_of_lem (role.Admission g) a e = absurd (let z : ◌≡◌ {A = ℕ} 0 1 = cc in omega arith)
fault_of_lem (role.Evaluation id d) a e = refl
fault_of_lem role.Quote a e = refl
fault_of_lem (role.Move side) a e = refl
fault_of_lem role.Opening a e = refl
fault_of_lem role.Other a e = refl

-- the reasons of an evaluation on a table
abbrev reasons_at : Option (ℕ × (Day × List ℤ)) → List Record → WhyReasons
reasons_at None t = no_reasons
reasons_at (Some (id, (d, rows))) t = (why_on t id d rows).reasons

of_id_day : (id : ℕ) (e : Option (Day × List ℤ)) (t : List Record) → reasons_at (of_id id e) t ≡ of_day id e t
of_id_day id None t = refl
of_id_day id (Some (d, rows)) t = refl

-- ---- what is told from a line on

sent_pick : (before : Bool) (ms : List Message) → pick before [] (all_sent ms) ≡ all_sent (pick before [] ms)
unfolding all_sent
sent_pick true ms = refl
sent_pick false ms = refl

length_pick : (before : Bool) (ms : List Message) → pick before 0 (length ms) ≡ length (pick before [] ms)
length_pick true ms = refl
length_pick false ms = refl

-- what is no call of the desk has no message
uncounted : (telling : Telling) (n : ℕ) (a : Ask) (v : Verdict) → ask_count a v ≡ 0 → line_count telling a n v ≡ 0
unfolding line_count
uncounted Answers n a v e = refl
uncounted Reasons n a v e = refl
uncounted (Messages from) n a v e = ap (pick (ltb n from) 0) e ∙ pick_same (ltb n from) 0

-- ---- a call

module _ (rows : List ℤ) (p : Performed) (t t' : List Record) where
  answered : (c : AskedCall) → p.answer ≡ (step (call_asked c rows) t).answer
      → shown_text (role_of c) p.answer ≡ answer_to (call_asked c rows) t
  answered c e = shown_by_role c rows p.answer ∙ ap (call_text (call_asked c rows)) e

  -- one in the role of an evaluation is told why, and every other without reasons
  reason_of_lem : (x : Role) → p.why ≡ explanation x rows t
      → reason_for p.why x p ≡ reason_shown (evaluated_as x rows) (fault_shown x p.answer) t
  unfolding reason_for explanation reason_shown evaluated_as
  reason_of_lem (role.Admission g) y = rw y
  reason_of_lem (role.Evaluation id d) y = rw y
  reason_of_lem role.Quote y = rw y
  reason_of_lem (role.Move side) y = rw y
  reason_of_lem role.Opening y = rw y
  reason_of_lem role.Other y = rw y

  -- of an admission
  faulted : (g : Admission) → p.answer ≡ (step (call_asked (Admit g) rows) t).answer
      → p.why ≡ explanation (role_of (Admit g)) rows t
      → reason_for p.why (role_of (Admit g)) p ≡ reason_to (call_asked (Admit g) rows) t
  unfolding call_asked role_of reason_for fault_shown explanation reason_to
  faulted g e y = rw (y, e)

  -- and of every other call
  unfaulted : (c : AskedCall) → admitted_as (role_of c) ≡ None → p.answer ≡ (step (call_asked c rows) t).answer
      → p.why ≡ explanation (role_of c) rows t → reason_for p.why (role_of c) p ≡ reason_to (call_asked c rows) t
  unfaulted c n e y =
      reason_of_lem (role_of c) y
      ∙ ap (λ (text : List ℕ). reason_shown (evaluated_as (role_of c) rows) text t)
      (fault_of_lem (role_of c) p.answer n ∙ answered c e)
      ∙ reasons_by_role c rows t n

  reasoned : (c : AskedCall) → p.answer ≡ (step (call_asked c rows) t).answer → p.why ≡ explanation (role_of c) rows t
      → reason_for p.why (role_of c) p ≡ reason_to (call_asked c rows) t
  unfolding role_of
  reasoned (Admit g) e y = faulted g e y
  reasoned (About id x) e y = unfaulted (About id x) (role_by_rule id x rows).admits e y

  -- the reasons that were said are those of the table before
  reasons_in_lem : (x : Role) (e : Option (ℕ × (Day × List ℤ))) → evaluated_as x rows ≡ e → p.why ≡ explanation x rows t
      → reasons_in p.why ≡ reasons_at e t
  unfolding reasons_in explanation evaluated_as
  reasons_in_lem (role.Admission g) e is y = rw (y, ← is)
  reasons_in_lem (role.Evaluation id d) e is y = rw (y, ← is)
  reasons_in_lem role.Quote e is y = rw (y, ← is)
  reasons_in_lem (role.Move side) e is y = rw (y, ← is)
  reasons_in_lem role.Opening e is y = rw (y, ← is)
  reasons_in_lem role.Other e is y = rw (y, ← is)

  reasons_before_lem : (c : AskedCall) → p.why ≡ explanation (role_of c) rows t
      → reasons_in p.why ≡ reasons_before (call_asked c rows) t
  unfolding call_asked role_of evaluated_as reasons_before
  reasons_before_lem (Admit g) y = reasons_in_lem (role.Admission g) None refl y
  reasons_before_lem (About id x) y =
      reasons_in_lem (role_about id x) (of_id id (rule_of (ask_of x rows)).evaluates) (role_by_rule id x rows).evaluates y
      ∙ of_id_day id (rule_of (ask_of x rows)).evaluates t

  -- the messages that are told
  messages_told_lem : (from n : ℕ) (c : AskedCall)
      → Performs (Promised (call_asked c rows) t) true c rows t p t'
      → pick (ltb n from) [] (shown_to (role_of c) p.answer (reasons_in p.why))
      ≡ messages_told from n (call_asked c rows) t
  unfolding messages_told
  messages_told_lem from n c h =
      rw (
        sent_by_role rows p.answer (reasons_in p.why) c,
        reasons_before_lem c (h.why refl),
        h.promised.answer,
      )

  call_told_as : (telling : Telling) (n : ℕ) (c : AskedCall)
      → Performs (Promised (call_asked c rows) t) (asks_why telling) c rows t p t'
      → call_said telling n (role_of c) p ≡ call_told telling n (call_asked c rows) t
  unfolding asks_why call_said call_told broadcast_shown
  call_told_as Answers n c h = answered c h.promised.answer
  call_told_as Reasons n c h = reasoned c h.promised.answer (h.why refl)
  call_told_as (Messages from) n c h =
      sent_pick (ltb n from) (shown_to (role_of c) p.answer (reasons_in p.why)) ∙ ap all_sent (messages_told_lem from n c h)

  -- and how many they are
  call_counted_as : (telling : Telling) (n : ℕ) (c : AskedCall)
      → Performs (Promised (call_asked c rows) t) (asks_why telling) c rows t p t'
      → line_count telling (ask.Call c) n p.answer.verdict ≡ length (call_messages telling n (call_asked c rows) t)
  unfolding asks_why line_count ask_count call_messages
  call_counted_as Answers n c h = refl
  call_counted_as Reasons n c h = refl
  call_counted_as (Messages from) n c h =
      ap (pick (ltb n from) 0) (sym (counted_is (role_of c) p.answer (reasons_in p.why)))
      ∙ length_pick (ltb n from) (shown_to (role_of c) p.answer (reasons_in p.why))
      ∙ ap length (messages_told_lem from n c h)

-- ---- a line

pub told_as : (telling : Telling) (n : ℕ) (a : Ask) (zs : List ℤ) (b : Beside) (p : Performed) (t t' : List Record)
    → BesideIs (deed_asked a zs) b → Asks (asks_why telling) a (figures_behind evaluate_names zs) t p t'
    → line_text telling a n b p ≡ text_of telling n (deed_asked a zs) t
unfolding BesideIs Asks deed_asked line_text text_of
told_as telling n ask.Nothing zs b p t t' e h = refl
told_as telling n ask.NoCall zs b p t t' e h = refl
told_as telling n (ask.Call c) zs b p t t' e h =
    call_told_as (figures_behind evaluate_names zs) p t t' telling n c h
told_as telling n (ask.Interest i) zs b p t t' e h = rw e
told_as telling n (ask.Bond x) zs b p t t' e h = rw e

pub counted_as : (telling : Telling) (n : ℕ) (a : Ask) (zs : List ℤ) (p : Performed) (t t' : List Record)
    → Asks (asks_why telling) a (figures_behind evaluate_names zs) t p t'
    → line_count telling a n p.answer.verdict ≡ length (messages_by telling n (deed_asked a zs) t)
unfolding Asks deed_asked messages_by ask_count
counted_as telling n ask.Nothing zs p t t' h = uncounted telling n ask.Nothing p.answer.verdict refl
counted_as telling n ask.NoCall zs p t t' h = uncounted telling n ask.NoCall p.answer.verdict refl
counted_as telling n (ask.Call c) zs p t t' h = call_counted_as (figures_behind evaluate_names zs) p t t' telling n c h
counted_as telling n (ask.Interest i) zs p t t' h = uncounted telling n (ask.Interest i) p.answer.verdict refl
counted_as telling n (ask.Bond x) zs p t t' h = uncounted telling n (ask.Bond x) p.answer.verdict refl
