-- What holds of an evening, whatever bytes it is delivered: the customer's demands of the table at its end, and of each
-- of its calls that what is told is what the security's history gives. proofs/Holds.antt proves it, for every list of
-- bytes, and proofs/Served.antt ties it to the running programs.
use Rattle.std.specs.Prelude.{◌≡◌, true, false, List, [], ◌∷◌, ◌++◌, ℕ, ◌≤◌, ◌<◌, ℤ, replicate}
use Rattle.paper.specs.declared.Record.{Record}
use Rattle.paper.specs.declared.Admission.{Admission}
use Rattle.paper.specs.declared.Day.{Day}
use Rattle.paper.specs.declared.Verdict.TheVariants.{Done}
use Rattle.paper.specs.Numbers.{slots_most}
use Rattle.paper.specs.Ranges.{statics_of, is_live}
use Rattle.paper.specs.Verdicts.{is_done}
use Rattle.paper_desk.specs.Sides.{shows}
use Rattle.paper_desk.specs.Desk.{Ask, Call, admit, evaluate, id_of, blank, place, found, step, run}
use Rattle.paper_desk.specs.History.{FreshTable, History, since, history_of, is_admission, evaluations}
use Rattle.paper_desk.specs.Sequences.{on_day, last_evaluated}
use Rattle.paper_desk.specs.Exact.{exact_square, NearExact}
use Rattle.std.specs.declared.option.Option.TheVariants.{None}
use Rattle.paper_reasons.specs.AdmissionFaults.{field_at_fault}
use Rattle.paper_messages.specs.declared.Message.{Message}
use Rattle.paper_messages.specs.Messages.{encode}
use Rattle.demands.specs.Demands.{answered, Demand1, FiguresHold, Demand2, TableKept, BandsInOrder}
use Rattle.demands.specs.Inside.{BandsInside, NineExactly}
use Rattle.demands.specs.Order.{slot_at, HoldsLive, InOrder}
use Rattle.demands_evening.specs.Whole.{SentWhole}
use Rattle.text_bytes.specs.Bytes.{lines}
use Rattle.text_protocol.specs.Calls.{call}
use Rattle.text_protocol.specs.Answers.{call_text}
use Rattle.text_protocol.specs.Reasons.{field_text}
use Rattle.text_evening.specs.declared.Telling.{Telling}
use Rattle.text_evening.specs.declared.Telling.TheVariants.{Answers, Reasons, Messages}
use Rattle.paper_messages.specs.Broadcast.{reasons_before, messages_of}
use Rattle.text_evening.specs.Evening.{Evening, start_evening, asked_by, answer, after_all, answers}
use Rattle.demands_evening.specs.Calls.{calls_of}

-- ---- an evening of a program

-- the programs' own table, which `text_serve::fresh` makes: 512 slots, and every one of them empty
unfoldable pub own_table : List Record
own_table = replicate slots_most blank

-- behind some lines, from the first line of a program on: the evening, its table, and the calls that they have said
abbrev pub evening_behind : (lines : List (List ℕ)) → Evening
evening_behind ls = after_all ls (start_evening own_table)

abbrev pub table_behind : (lines : List (List ℕ)) → List Record
table_behind ls = (evening_behind ls).table

abbrev pub calls_behind : (lines : List (List ℕ)) → List Call
calls_behind ls = calls_of ls (start_evening own_table)

-- the history of a security in those calls
abbrev pub history_behind : (lines : List (List ℕ)) → (id : ℕ) → History
history_behind ls id = history_of id (calls_behind ls) own_table

-- all that is told of those lines, in one of the three ways
abbrev pub told_of : Telling → (lines : List (List ℕ)) → List ℕ
told_of telling ls = answers telling ls (start_evening own_table)

-- messages one after the other, each of them whole
unfoldable pub encodings : List Message → List ℕ
encodings [] = []
encodings (m ∷ ms) = encode m ++ encodings ms

-- ---- one line of it

-- THE SECURITY id HAS A HISTORY in the calls of these lines, and demand 2 holds of it: every figure of its record, and
-- what the next accepted call about it answers, a quote its two alerts
pub record HistoryHolds (lines : List (List ℕ)) (id : ℕ) : Type 0 where
  pub admission : Admission
  pub events : List Ask
  pub history : history_behind lines id ≡ since admission events
  pub demand_2 : Demand2 id admission events (table_behind lines)

-- THE RECORD r IS THE ONE OF THAT HISTORY: every figure of it is the one that document 01 defines, it stands in the
-- table, and where it is live it is in order (W-213)
pub record RecordHolds (lines : List (List ℕ)) (id : ℕ) (r : Record) : Type 0 where
  pub by : HistoryHolds lines id
  pub figures : FiguresHold by.admission by.events r
  pub stands : found (table_behind lines) id ≡ r
  pub order : is_live r.standing ≡ true → InOrder (table_behind lines) (place (table_behind lines) id) r

-- OF THE LINE l, WHICH SAYS THE CALL c behind the lines `before`
pub record LineHolds (before : List (List ℕ)) (l : List ℕ) (c : Call) : Type 0 where
  -- c is the last of the calls up to this line
  pub said : calls_behind (before ++ l ∷ []) ≡ calls_behind before ++ c ∷ []
  -- it is answered or refused by document 01's list
  pub demand_1 : Demand1 c (table_behind before)
  -- it is told with the text of that answer by the program `evening`: 0 and its figures, or the number of the refusal
  -- alone; and so by `why`, unless it is an evaluation, or an admission with a number at fault: that one is told with
  -- its number and with the place of the number at fault in the line
  pub printed : answer Answers l (evening_behind before) ≡ call_text c (step c (table_behind before)).answer
  pub printed_by_why : ((id : ℕ) (d : Day) (rows : List ℤ) → c ≡ evaluate id d rows → ⊥)
      → ((a : Admission) → c ≡ admit a → field_at_fault a ≡ None)
      → answer Reasons l (evening_behind before) ≡ call_text c (step c (table_behind before)).answer
  pub fault_by_why : (a : Admission) → c ≡ admit a
      → answer Reasons l (evening_behind before) ≡ field_text (answered c (table_behind before)) (field_at_fault a)
  -- the record of an accepted call, where it shows one, is the one of its history with this call
  pub shown : shows c ≡ true → answered c (table_behind before) ≡ Done
      → RecordHolds (before ++ l ∷ []) (id_of c) (step c (table_behind before)).answer.rec
  -- and what it answers, a quote's two alerts too, is what demand 2 says of the history before it
  pub says : is_admission c ≡ false → answered c (table_behind before) ≡ Done → HistoryHolds before (id_of c)
  -- by `broadcast`, from the line of a number on, it is told with every message of an accepted call, each whole, and with
  -- nothing of a refused one; and before that line with nothing
  pub whole : SentWhole c (table_behind before)
  pub sent : (from : ℕ) → from ≤ (evening_behind before).number → answered c (table_behind before) ≡ Done
      → answer (Messages from) l (evening_behind before)
      ≡ encodings (messages_of c (step c (table_behind before)).answer (reasons_before c (table_behind before)))
  pub unsent : (from : ℕ) → is_done (answered c (table_behind before)) ≡ false
      → answer (Messages from) l (evening_behind before) ≡ []
  pub untold : (from : ℕ) → (evening_behind before).number < from → answer (Messages from) l (evening_behind before) ≡ []

-- ---- all of it

-- THE EVENING THAT IS DELIVERED THE BYTES `got` AND LEAVES THE TABLE t
pub record EveningHolds (got : List ℕ) (t : List Record) : Type 0 where
  -- t is what the calls of its lines make of a fresh table
  pub fresh : FreshTable own_table
  pub made : t ≡ run (calls_behind (lines got)) own_table
  -- the demands, of t and of every security that these calls admitted. Demand 3 of the interest side goes over that
  -- side's own sequences, which stand beside the table: `Demand3` has it, in its `interest`
  pub demand_1 : (c : Call) → Demand1 c t
  pub demand_2 : (id : ℕ) (a : Admission) (es : List Ask) → history_behind (lines got) id ≡ since a es
      → Demand2 id a es t
  pub demand_3 : (id : ℕ) (a : Admission) (es : List Ask) → history_behind (lines got) id ≡ since a es
      → (statics_of a.given).ewma ≡ true → NearExact (evaluations es) (found t id).s (exact_square a es)
  -- what stands beneath them: the table, the bands, and the order of every live record (W-213)
  pub table_kept : TableKept (calls_behind (lines got)) own_table
  pub bands_in_order : (id : ℕ) (a : Admission) (es : List Ask) → history_behind (lines got) id ≡ since a es
      → BandsInOrder (found t id)
  -- W-209: the bands of a live record in the exact bands of its last evaluation and the moves since, and when the next
  -- evaluation of a security is refused 9
  pub bands_inside : (id : ℕ) (a : Admission) (es : List Ask) → history_behind (lines got) id ≡ since a es
      → is_live (found t id).standing ≡ true
      → (d : Day) × (last_evaluated es ≡ on_day d) × BandsInside a es d (found t id)
  pub nine_exactly : (id : ℕ) (a : Admission) (es : List Ask) → history_behind (lines got) id ≡ since a es
      → NineExactly id a es t
  pub live_in_order : (slot : ℕ) → HoldsLive t slot → InOrder t slot (slot_at t slot)
  -- what is told of each line stands at its place in all that is told, behind what is told of the lines before it
  pub place_told : (before later : List (List ℕ)) (l : List ℕ) → lines got ≡ before ++ l ∷ later → (telling : Telling)
      → told_of telling (lines got)
      ≡ told_of telling before ++ answer telling l (evening_behind before)
      ++ answers telling later (evening_behind (before ++ l ∷ []))
  -- and of each line that says a call it is what the history gives
  pub each_line : (before later : List (List ℕ)) (l : List ℕ) → lines got ≡ before ++ l ∷ later
      → (c : Call) → asked_by l (evening_behind before) ≡ call c → LineHolds before l c
