-- The customer's demands, a record each. proofs/Demands.antt proves them, a theorem each, for every sequence of calls
-- on every fresh table.
use Rattle.std.specs.Prelude.{◌≡◌, true, false, List, [], ◌∷◌, ◌++◌, map, ℕ, ◌+◌, ◌<◌, length, get_or}
use Rattle.paper.specs.declared.Statics.{Statics}
use Rattle.paper.specs.declared.Side.TheVariants.{Upper, Lower}
use Rattle.paper.specs.declared.Record.{Record}
use Rattle.paper.specs.declared.Admission.{Admission}
use Rattle.paper.specs.declared.Day.{Day}
use Rattle.paper.specs.declared.Quote.{Quote}
use Rattle.paper.specs.declared.Answer.{Answer}
use Rattle.paper.specs.declared.Verdict.{Verdict}
use Rattle.paper.specs.declared.Verdict.TheVariants.{Done, NoSuchId, AlreadyAdmitted}
use Rattle.paper.specs.Lists.{pick}
use Rattle.paper.specs.Ranges.{statics_of, valid_admission, valid_slots, sound, no_limits, not_near, term_at, rate_at}
use Rattle.paper_desk.specs.Rates.{minimum_of, AtLeastRequired, HeldLeast}
use Rattle.paper_desk.specs.Limits.{crossed}
use Rattle.paper_desk.specs.Alerts.{alert}
use Rattle.paper_desk.specs.Evening.{alert_seconds}
use Rattle.paper.specs.Verdicts.{number_of, is_done, Check, FirstAt, NoneApplies, Exactly}
use Rattle.paper_desk.specs.Desk.{Ask, evaluating, quoting, moving, reading, opening, receiving, Call, admit, about}
use Rattle.paper_desk.specs.Desk.{quote, id_of, saying, showing, alerting, found, known, checks_of, step, run}
use Rattle.paper_desk.specs.Kept.{every_slot}
use Rattle.paper_desk.specs.Sides.{shows}
use Rattle.paper_desk.specs.History.{FreshTable, unknown, since, history_of, was_admitted, is_admission, evaluations}
use Rattle.paper_desk.specs.Sequences.{carries, on_day, last_evaluated, moves_of, standing_now, term_now, range_now, band_now}
use Rattle.paper_desk.specs.Sequences.{near_since, near_now, last_second, session_now, external_now}
use Rattle.paper_desk.specs.Exact.{exact_square, NearExact}
use Rattle.paper_interest.specs.InterestExact.{Evening, Carried, carried_after, Follow, exact_repo_square}

-- the number, as a verdict, that a call gets from a table
abbrev pub answered : Call → List Record → Verdict
answered c t = (step c t).answer.verdict

-- ---- Demand 1

-- "First that applies: admit 4, 2, 3; evaluate 1, 6, 5, 7, 8, 9; quote 1, 6, 10, 11, 13; move 1, 6, 10, 11, 12; read
-- 1"; W-205: "16, after 6 and before 5 in an evaluation"; W-210: "18 .. after 11 and before 12; 19 .. after 10";
-- W-211: "20 .. on receipt, after 1"
-- The numbers stand here once more, apart from the rules of Desk: a rule of another order is refused
abbrev pub order_asked : Ask → List ℕ
order_asked (evaluating d rows) = 1 ∷ 6 ∷ 16 ∷ 5 ∷ 7 ∷ 8 ∷ 9 ∷ []
order_asked (quoting q) = 1 ∷ 6 ∷ 10 ∷ 11 ∷ 13 ∷ []
order_asked (moving side) = 1 ∷ 6 ∷ 10 ∷ 11 ∷ 18 ∷ 12 ∷ []
order_asked reading = 1 ∷ []
order_asked opening = 1 ∷ 10 ∷ 19 ∷ []
order_asked (receiving x) = 1 ∷ 20 ∷ []

abbrev pub order_of : Call → List ℕ
order_of (admit a) = 4 ∷ 2 ∷ 3 ∷ []
order_of (about id x) = order_asked x

-- "Any input gets an answer. Every call refuses by a number from document 01's list, exactly when the list says so; a
-- refused call leaves the table as it found it." Of any call, with any values, on any table at all: of no slots or of
-- 513, with damaged records, or made by calls
pub record Demand1 (c : Call) (t : List Record) : Type 0 where
  -- the numbers by which the call may refuse, in the paper's order; Desk's `checks_of` has the condition of each
  pub order : map (λ (x : Check). number_of x.verdict) (checks_of c t) ≡ order_of c
  -- it refuses by a number exactly when that number's condition holds and no earlier one in the order does
  pub refused : (v : Verdict) → is_done v ≡ false → Exactly (answered c t ≡ v) (FirstAt v (checks_of c t))
  -- it answers 0 exactly when no condition holds
  pub accepted : Exactly (answered c t ≡ Done) (NoneApplies (checks_of c t))
  -- "A refusal returns its number with all figures 0 .. and writes nothing."
  pub left : is_done (answered c t) ≡ false → step c t ≡ record { answer = saying (answered c t); table = t }
  -- "an admission the number 0 alone": an admission answers its number alone, accepted or not; what every other call
  -- answers where it is accepted is demand 2's
  pub admission : (a : Admission) → c ≡ admit a → (step c t).answer ≡ saying (answered c t)
  -- it answers 1 exactly where the id is not known: "no such id (0 included)", or the first slot with it is damaged
  pub not_known : is_admission c ≡ false → Exactly (answered c t ≡ NoSuchId) (known t (id_of c) ≡ false)
  -- "A table of no slots, or over 512, is refused 4 by admit and 1 by the rest."
  pub bad_table : valid_slots (length t) ≡ false → number_of (answered c t) ≡ pick (is_admission c) 4 1
  -- on a table that calls made of a fresh one, 1 is for ids that were never admitted, 0 and ids out of range among them
  pub no_such_id : is_admission c ≡ false → (cs : List Call) (empty : List Record) → FreshTable empty → t ≡ run cs empty
      → Exactly (answered c t ≡ NoSuchId) (history_of (id_of c) cs empty ≡ unknown)
  -- and 2, where the admission is in range, is for ids that were admitted
  pub already : (a : Admission) → c ≡ admit a → valid_admission a ≡ true
      → (cs : List Call) (empty : List Record) → FreshTable empty → t ≡ run cs empty
      → Exactly (answered c t ≡ AlreadyAdmitted) (was_admitted (history_of a.id cs empty) ≡ true)

-- ---- Demand 2

-- every figure of the record r of a security that a admitted, with its accepted calls es since, is the one that
-- document 01 defines from them
pub record FiguresHold (a : Admission) (es : List Ask) (r : Record) : Type 0 where
  pub id : r.id ≡ a.id
  pub statics : r.statics ≡ statics_of a.given
  pub standing : r.standing ≡ standing_now a (last_evaluated es)
  -- the two latest evaluations, s, the tentative rate with its age, and the three rates, carried on by the accepted
  -- evaluations
  pub p1 : r.p1.units ≡ (carries a es).p1
  pub p2 : r.p2.units ≡ (carries a es).p2
  pub s : r.s ≡ (carries a es).s
  pub tentative : r.tentative ≡ (carries a es).tentative
  pub rates : r.rates ≡ (carries a es).rates
  -- "c the moves of that side since the evaluation"; the terms of the last evaluation, and the ranges and bands of it
  -- and of those moves
  pub moves : r.moves ≡ moves_of es
  pub ranges : (i : ℕ) → i < 3 → get_or r.ranges i no_limits ≡ range_now a es (last_evaluated es) i
  pub terms : (k : ℕ) → k < 3 → term_at r.terms k ≡ term_now (last_evaluated es) k
  pub bands : (k : ℕ) → k < 3 → get_or r.bands k no_limits ≡ band_now a es (last_evaluated es) k
  -- the second of the first of the unbroken near quotes, and that of the last accepted quote
  pub near : (k : ℕ) → k < 3 → get_or r.near k not_near ≡ near_now a es k
  pub second : r.second ≡ last_second es
  -- main, or the evening with its moves since it was opened
  pub session : r.session ≡ session_now es
  -- the outside prices that were received last
  pub external : r.external ≡ external_now es

-- "A rate set with the model on is the least multiple of the step that covers the requirement and the minimum, held at
-- the maximum": with m non-trading days ahead, each level's; covering the requirement is the inequality of real
-- numbers. "With isEWMA no, the three rates are the minima"
pub record RatesHold (st : Statics) (m : ℕ) (r : Record) : Type 0 where
  pub modelled : st.ewma ≡ true → (i : ℕ) → i < 3
      → HeldLeast st.h (minimum_of st (i + 1)) st.smax (AtLeastRequired st r.tentative.bp m (i + 1))
      (rate_at r.rates i)
  pub minima : st.ewma ≡ false → (i : ℕ) → i < 3 → rate_at r.rates i ≡ minimum_of st (i + 1)

-- "a quote its two alerts": an alert is "near, and at least u seconds since that second"; W-210: in the evening by "its
-- own seconds u"
abbrev pub alerts_then : Admission → List Ask → Quote → Answer
alerts_then a es q =
    let u : ℕ = alert_seconds (statics_of a.given) (session_now es) in
    alerting (alert u (near_since a Upper q.term (quoting q ∷ es)) q.second)
    (alert u (near_since a Lower q.term (quoting q ∷ es)) q.second)

-- "Each evaluation, rate, range and band is the one document 01 defines. .. For every sequence of admissions,
-- evaluations, quotes and moves"; W-210: "over sequences that contain openings"; W-211: "these calls too". Of a
-- security whose history in the calls that made the table t is its admission a and its accepted calls es
pub record Demand2 (id : ℕ) (a : Admission) (es : List Ask) (t : List Record) : Type 0 where
  pub is_known : known t id ≡ true
  pub figures : FiguresHold a es (found t id)
  -- of the last accepted evaluation, with its m
  pub rates : (d : Day) → last_evaluated es ≡ on_day d → RatesHold (statics_of a.given) d.m (found t id)
  -- of the next call about the security, if it is accepted. "Accepted evaluations, moves and reads return the record as
  -- it then stands", W-210: "An accepted opening returns the record.", W-211: so does each receipt; the record that then
  -- stands is that of the longer sequence
  pub answers : (c : Call) → id_of c ≡ id → shows c ≡ true → answered c t ≡ Done
      → (step c t).answer ≡ showing (found (step c t).table id)
  pub alerts : (q : Quote) → answered (quote id q) t ≡ Done → (step (quote id q) t).answer ≡ alerts_then a es q

-- ---- Demand 3

-- "After n accepted evaluations with the model on, the carried volatility is never below the exact one and less than
-- n+1 millionths above it; at n = 0 they are equal."
pub record Demand3 : Type 0 where
  -- of a security with the model on, in millionths: n is its accepted evaluations
  pub share : (id : ℕ) (cs : List Call) (t : List Record) → FreshTable t → (a : Admission) (es : List Ask)
      → history_of id cs t ≡ since a es → (statics_of a.given).ewma ≡ true
      → NearExact (evaluations es) (found (run cs t) id).s (exact_square a es)
  -- of a key maturity of the interest side, in bp: n is the accepted evenings, "each evening given the last one's
  -- figures"
  pub interest : (first : Carried) (es : List Evening) → Follow first es
      → NearExact (length es) (carried_after first es).volatility (exact_repo_square first es)

-- ---- beneath the demands: what calls leave of a fresh table

pub record TableKept (cs : List Call) (t : List Record) : Type 0 where
  -- every slot is empty or sound, so that no call finds a damaged record
  pub slots : every_slot sound (run cs t) ≡ true
  -- an id is known exactly if it was admitted
  pub admitted_known : (id : ℕ) → known (run cs t) id ≡ was_admitted (history_of id cs t)
  -- and stays known, whatever is called later
  pub stays_known : (later : List Call) (id : ℕ) → known (run cs t) id ≡ true → known (run (cs ++ later) t) id ≡ true

-- W-209: "a moved band that was not crossed is not crossed", and 9 refuses an evaluation whose bands would be: so in a
-- record r that calls made of a fresh table each band's lower limit is not above its upper one
pub record BandsInOrder (r : Record) : Type 0 where
  pub in_order : (k : ℕ) → k < 3 → crossed (get_or r.bands k no_limits) ≡ false
