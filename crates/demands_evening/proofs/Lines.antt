-- A line that says a call, behind other lines of an evening: what it answers is what the history of its security gives,
-- since the table before it is the one that the calls before it made, and the record that it shows stands in the table
-- behind it. Its messages are whole, since the writer takes each of them.
use mathlib.Core.Path.{◌≡◌, refl, sym, ◌∙◌, ap, subst}
use mathlib.Core.Bool.{true, false}
use mathlib.Core.List.{List, [], ◌∷◌, ◌++◌}
use Rattle.std.specs.declared.option.Option.{Option}
use Rattle.std.specs.declared.option.Option.TheVariants.{None, Some}
use Prim.Native.Nat.{ℕ, ◌≤◌, ◌<◌}
use lib.Dec.{ltb}
use lib.IntN.{ℤ}
use borrow.Author.Tests.{lt-ltb, le-ltb}
use Rattle.paper.specs.declared.Record.{Record}
use Rattle.paper.specs.declared.Admission.{Admission}
use Rattle.paper.specs.declared.Day.{Day}
use Rattle.paper.specs.declared.Verdict.TheVariants.{Done}
use Rattle.paper.specs.Lists.{pick, every}
use Rattle.paper.specs.Ranges.{is_live}
use Rattle.paper.specs.Verdicts.{is_done}
use Rattle.paper_desk.specs.Sides.{shows}
use Rattle.paper_desk.specs.Desk.{Call, admit, about, evaluate, id_of, place, found, known, rule_of, step}
use Rattle.paper_desk.specs.History.{is_admission}
use Rattle.paper_reasons.specs.AdmissionFaults.{field_at_fault}
use Rattle.paper_messages.specs.declared.Message.{Message}
use Rattle.paper_messages.specs.Messages.{encode, valid}
use Rattle.demands.specs.Demands.{answered, FiguresHold}
use Rattle.demands.specs.Order.{InOrder}
use Rattle.demands_evening.specs.Whole.{SentWhole}
use Rattle.text_bytes.specs.Numbers.{spaced, answer_text}
use Rattle.text_protocol.specs.Calls.{Deed, call}
use Rattle.text_protocol.specs.Answers.{figures_answered, call_text}
use Rattle.text_protocol.specs.Reasons.{field_words, spelled, words_text, field_text}
use Rattle.text_evening.specs.declared.Telling.{Telling}
use Rattle.text_evening.specs.declared.Telling.TheVariants.{Answers, Reasons, Messages}
use Rattle.paper_messages.specs.Broadcast.{reasons_before, messages_of, messages_to, sent, all_sent}
use Rattle.text_evening.specs.Evening.{Evening, start_evening, table_after, answer_to, reason_on, reason_to, messages_told}
use Rattle.text_evening.specs.Evening.{call_told}
use Rattle.text_evening.specs.Evening.{text_of, asked_by, after, answer}
use Rattle.demands_evening.specs.Holds.{own_table, evening_behind, table_behind, calls_behind, encodings}
use Rattle.demands_evening.specs.Holds.{HistoryHolds, RecordHolds, LineHolds}
use Rattle.paper.proofs.Logic.{and_left, and_right, pick_true, pick_false, pick_same}
use Rattle.paper_desk.proofs.Rules.{OnlyEvaluation, rule_holds}
use Rattle.paper_desk.proofs.Refusals.{accepted_only}
use Rattle.paper_desk.proofs.PinnedLaws.{shown_stands}
use Rattle.demands.proofs.Kept.{call_knows}
use Rattle.demands.proofs.Known.{stays_known}
use Rattle.demands.proofs.Order.{no_admission_shows, shown_in_order}
use Rattle.demands.proofs.Demands.{demand_1}
use Rattle.demands_evening.proofs.Whole.{sent_whole}
use Rattle.text_evening.proofs.OneMore.{after_one_more}
use Rattle.demands_evening.proofs.Calls.{calls_one_more}
use Rattle.demands_evening.proofs.Tables.{own_table_fresh, table_made, known_holds}

-- messages that the writer takes, each of them, are sent whole
valid_sent : (ms : List Message) → every valid ms ≡ true → all_sent ms ≡ encodings ms
unfolding all_sent sent encodings every
valid_sent [] v = refl
valid_sent (m ∷ ms) v =
    rw (and_left (valid m) (every valid ms) v)
    (ap (λ (rest : List ℕ). encode m ++ rest) (valid_sent ms (and_right (valid m) (every valid ms) v)))

-- all calls but an evaluation, and an admission with a number at fault, are told with why as they are answered
reasons_are_answers : (c : Call) (t : List Record)
    → ((id : ℕ) (d : Day) (rows : List ℤ) → c ≡ evaluate id d rows → ⊥)
    → ((a : Admission) → c ≡ admit a → field_at_fault a ≡ None) → reason_to c t ≡ answer_to c t
unfolding reason_to field_text field_words words_text spelled call_text figures_answered answer_text spaced
reasons_are_answers (admit a) t other unnamed =
    rw (unnamed a refl, pick_same {A = List ℤ} (is_done (step (admit a) t).answer.verdict) [])
reasons_are_answers (about id x) t other unnamed = go (rule_of x).evaluates refl
  where
    go : (o : Option (Day × List ℤ)) → (rule_of x).evaluates ≡ o → reason_on id x o t ≡ answer_to (about id x) t
    go None e = refl
    go (Some (d, rows)) e =
        absurd (other id d rows (ap (about id) (subst (OnlyEvaluation x) e (rule_holds x).evaluation)))

module _ (before : List (List ℕ)) (l : List ℕ) (c : Call) (asked : asked_by l (evening_behind before) ≡ call c) where
  -- the table before the line, and the lines with it
  abbrev t : List Record
  t = table_behind before

  abbrev up_to : List (List ℕ)
  up_to = before ++ l ∷ []

  table_behind_lem : table_behind up_to ≡ (step c t).table
  unfolding after table_after
  table_behind_lem =
      ap (λ (e : Evening). e.table) (after_one_more before l (start_evening own_table))
      ∙ ap (λ (d : Deed). table_after d t) asked

  calls_behind_lem : calls_behind up_to ≡ calls_behind before ++ c ∷ []
  calls_behind_lem = calls_one_more before l (start_evening own_table) c asked

  abbrev number : ℕ
  number = (evening_behind before).number

  told : (telling : Telling) → answer telling l (evening_behind before) ≡ call_told telling number c t
  unfolding answer text_of
  told telling = ap (λ (d : Deed). text_of telling (evening_behind before).number d t) asked

  -- ---- what it answers

  module _ (about : is_admission c ≡ false) (done : answered c t ≡ Done) where
    known_before : known t (id_of c) ≡ true
    unfolding is_done
    known_before = call_knows c t about (accepted_only c t (ap is_done done))

    known_behind : known (table_behind up_to) (id_of c) ≡ true
    known_behind =
        rw (table_made up_to, calls_behind_lem)
        (stays_known (calls_behind before) (c ∷ []) own_table own_table_fresh.slots own_table_fresh.empty (id_of c)
        (rw (table_made before) at known_before))

  record_holds : shows c ≡ true → answered c t ≡ Done → RecordHolds up_to (id_of c) (step c t).answer.rec
  unfolding is_done
  record_holds shown done =
      record {
        by = k;
        figures = subst (FiguresHold k.admission k.events) same k.demand_2.figures;
        stands = same;
        order = λ live.
            subst (λ (u : List Record). InOrder u (place u (id_of c)) r) (sym table_behind_lem) (in_order live);
      }
    where
      r : Record
      r = (step c t).answer.rec

      k : HistoryHolds up_to (id_of c)
      k = known_holds up_to (id_of c) (known_behind (no_admission_shows c shown) done)

      same : found (table_behind up_to) (id_of c) ≡ r
      same = ap (λ (u : List Record). found u (id_of c)) table_behind_lem ∙ shown_stands c t shown (ap is_done done)

      in_order : is_live r.standing ≡ true → InOrder (step c t).table (place (step c t).table (id_of c)) r
      in_order =
          subst (λ (u : List Record). is_live (step c u).answer.rec.standing ≡ true
          → InOrder (step c u).table (place (step c u).table (id_of c)) (step c u).answer.rec)
          (sym (table_made before)) (shown_in_order (calls_behind before) own_table own_table_fresh c)

  -- ---- what is sent of it

  whole : SentWhole c t
  whole = rw (table_made before) (sent_whole (calls_behind before) own_table own_table_fresh c)

  -- from the line of a number on
  told_messages : (from : ℕ)
      → answer (Messages from) l (evening_behind before)
      ≡ all_sent (pick (ltb number from) [] (messages_to c (step c t).answer (reasons_before c t)))
  unfolding call_told messages_told
  told_messages from = told (Messages from)

  sent_of_accepted : (from : ℕ) → from ≤ number → answered c t ≡ Done
      → answer (Messages from) l (evening_behind before)
      ≡ encodings (messages_of c (step c t).answer (reasons_before c t))
  unfolding messages_to is_done
  sent_of_accepted from h done =
      told_messages from
      ∙ ap all_sent (pick_false (ltb number from) _ _ (le-ltb number from h)
      ∙ pick_true (is_done (answered c t)) _ _ (ap is_done done))
      ∙ valid_sent _ (whole.all_valid (ap is_done done) (reasons_before c t))

  sent_of_refused : (from : ℕ) → is_done (answered c t) ≡ false → answer (Messages from) l (evening_behind before) ≡ []
  unfolding messages_to all_sent
  sent_of_refused from refused =
      told_messages from
      ∙ ap all_sent (ap (pick (ltb number from) []) (pick_false (is_done (answered c t)) _ _ refused)
      ∙ pick_same (ltb number from) [])

  sent_before : (from : ℕ) → number < from → answer (Messages from) l (evening_behind before) ≡ []
  unfolding all_sent
  sent_before from h = told_messages from ∙ ap all_sent (pick_true (ltb number from) _ _ (lt-ltb number from h))

  -- an admission is told with why by its number, and the number at fault
  fault_told : (a : Admission) → c ≡ admit a → reason_to c t ≡ field_text (answered c t) (field_at_fault a)
  unfolding reason_to
  fault_told a e = rw e

  -- OF A LINE THAT SAYS A CALL
  pub line_holds : LineHolds before l c
  unfolding call_told
  line_holds =
      record {
        said = calls_behind_lem;
        demand_1 = demand_1 c t;
        printed = told Answers;
        printed_by_why = λ other unnamed. told Reasons ∙ reasons_are_answers c t other unnamed;
        fault_by_why = λ a e. told Reasons ∙ fault_told a e;
        shown = record_holds;
        says = λ about done. known_holds before (id_of c) (known_before about done);
        whole = whole;
        sent = sent_of_accepted;
        unsent = sent_of_refused;
        untold = sent_before;
      }
