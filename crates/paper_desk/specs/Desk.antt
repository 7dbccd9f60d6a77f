-- Document 01, "What the desk covers" and "Numbers a member may see": the calls over the table, and sequences of
-- them.
use Rattle.std.specs.Prelude.{Bool, true, false, not, ◌&&◌, List, [], ◌∷◌, ℕ, suc, leb, ltb, eqb, length, get_or, set, ℤ}
use Rattle.std.specs.declared.option.Option.{Option}
use Rattle.std.specs.declared.option.Option.TheVariants.{None, Some}
use Rattle.paper.specs.declared.Statics.{Statics}
use Rattle.paper.specs.declared.Standing.TheVariants.{Admitted, Live}
use Rattle.paper.specs.declared.Session.{Session}
use Rattle.paper.specs.declared.Session.TheVariants.{Main, Evening}
use Rattle.paper.specs.declared.External.{External}
use Rattle.paper.specs.declared.Side.{Side}
use Rattle.paper.specs.declared.Side.TheVariants.{Upper, Lower}
use Rattle.paper.specs.declared.Moves.{Moves}
use Rattle.paper.specs.declared.Limits.{Limits}
use Rattle.paper.specs.declared.NearSeconds.{NearSeconds}
use Rattle.paper.specs.declared.Record.{Record}
use Rattle.paper.specs.declared.Admission.{Admission}
use Rattle.paper.specs.declared.Day.{Day}
use Rattle.paper.specs.declared.Quote.{Quote}
use Rattle.paper.specs.declared.AskedAbout.{AskedAbout}
use Rattle.paper.specs.declared.AskedAbout.TheVariants as asked
use Rattle.paper.specs.declared.Answer.{Answer}
use Rattle.paper.specs.declared.Verdict.{Verdict}
use Rattle.paper.specs.declared.Verdict.TheVariants.{Done, NoSuchId, AlreadyAdmitted, NoEmptySlot, AdmissionOutOfRange}
use Rattle.paper.specs.declared.Verdict.TheVariants.{DayNotAfter, OutOfRange, PriceOutOfRange, MoveTooLarge}
use Rattle.paper.specs.declared.Verdict.TheVariants.{BandCrossed, NotLive, NotMonitored, MovesUsedUp, SecondEarlier}
use Rattle.paper.specs.declared.Verdict.TheVariants.{RowCrossed, NoEveningMove, OpenedTwice, BadFloat}
use Rattle.paper.specs.Lists.{pick, three, for_levels, all_three, every}
use Rattle.paper.specs.Numbers.{moves_most}
use Rattle.paper.specs.Ranges.{grid_of, given_of, statics_of, valid_admission, valid_day, valid_quote, valid_side, side_of}
use Rattle.paper.specs.Ranges.{last_day, sound, valid_slots, no_rate, no_limits, not_near, no_term, term_at, rate_at}
use Rattle.paper.specs.Ranges.{is_live, no_external}
use Rattle.paper.specs.Terms.{day_of}
use Rattle.paper_desk.specs.Evaluation.{day_rows, evaluation_of, has_crossed_row, evaluation_fits, used_pair}
use Rattle.paper_desk.specs.External.{Receipt, together, notice, is_bad, kept_after}
use Rattle.paper.specs.declared.Figures.{Figures}
use Rattle.paper_desk.specs.Rates.{move_of, minimum_of, figures_of, move_too_large}
use Rattle.paper_desk.specs.Limits.{range_of, band_of, crossed, delta_of, one_more, same_side, count_of}
use Rattle.paper_desk.specs.Limits.{range_moved_by, band_moved}
use Rattle.paper_desk.specs.Alerts.{is_near, near_after, alert, near_cleared}
use Rattle.paper_desk.specs.Evening.{is_evening, alert_seconds, move_allowed, session_moved}
use Rattle.paper.specs.Verdicts.{is_done, Check, first_of}

-- ---- records and answers

abbrev pub no_moves : Moves
no_moves = record { upper = 0; lower = 0 }

-- the statics of no numbers: each 0, or no
unfoldable pub no_statics : Statics
unfolding given_of statics_of
no_statics = statics_of (given_of [])

-- "all figures 0 (flags no, nothing near, admitted only)", in the main session
unfoldable pub blank : Record
unfolding no_statics
blank =
    record {
      id = 0;
      statics = no_statics;
      standing = Admitted 0;
      p1 = record { units = 0 };
      p2 = record { units = 0 };
      s = 0;
      tentative = record { bp = 0; age = 0 };
      rates = three (λ i. no_rate);
      ranges = three (λ i. no_limits);
      terms = three (λ k. no_term);
      bands = three (λ k. no_limits);
      moves = no_moves;
      near = three (λ k. not_near);
      second = 0;
      session = Main;
      external = no_external;
    }

-- "A refusal returns its number with all figures 0"; "an admission the number 0 alone"
unfoldable pub saying : Verdict → Answer
saying v = record { verdict = v; rec = blank; top = false; bottom = false }

-- "Accepted evaluations, moves and reads return the record as it then stands"; W-210: "An accepted opening returns the
-- record", and so does each receipt of outside prices (W-211)
unfoldable pub showing : Record → Answer
showing r = record { verdict = Done; rec = r; top = false; bottom = false }

-- "a quote its two alerts"
unfoldable pub alerting : (top bottom : Bool) → Answer
alerting top bottom = record { verdict = Done; rec = blank; top = top; bottom = bottom }

-- ---- what each call writes

-- "The three rates start at their minima; age, limits, counts, terms and the last quote second at 0, with no near
-- seconds."
unfoldable pub admitted : Admission → Record
admitted a =
    record {
      id = a.id;
      statics = statics_of a.given;
      standing = Admitted a.day;
      p1 = record { units = a.p1 };
      p2 = record { units = a.p2 };
      s = a.s;
      tentative = record { bp = a.tentative; age = 0 };
      rates = for_levels (λ l. record { bp = minimum_of (statics_of a.given) l });
      ranges = three (λ i. no_limits);
      terms = three (λ k. no_term);
      bands = three (λ k. no_limits);
      moves = no_moves;
      near = three (λ k. not_near);
      second = 0;
      session = Main;
      external = no_external;
    }

-- the outside prices that count in an evaluation (W-211); the evaluation P of a day, the move r to it, and the figures
-- of 7.1
unfoldable pub used_by : Record → External
used_by r = used_pair r.statics r.external

unfoldable pub price_on : Record → (rows : List ℤ) → ℕ
price_on r rows = evaluation_of (grid_of r.statics.lot) r.p1.units (used_by r) (day_rows rows)

unfoldable pub move_on : Record → (rows : List ℤ) → ℕ
move_on r rows = move_of (price_on r rows) r.p1.units r.p2.units

unfoldable pub figures_on : Record → Day → (rows : List ℤ) → Figures
figures_on r d rows =
    figures_of r.statics d.b d.m (rate_at r.rates 0) (move_on r rows) r.s r.tentative

-- "An evaluation clears both counts, all near seconds and the last quote second (to 0)." The security is then live;
-- W-210: "An evaluation puts the record back in main."
unfoldable pub evaluated : Record → Day → (rows : List ℤ) → Record
evaluated r d rows =
    let f : Figures = figures_on r d rows in
    let p : ℕ = price_on r rows in
    record {
      id = r.id;
      statics = r.statics;
      standing = Live d.day;
      p1 = record { units = p };
      p2 = r.p1;
      s = f.s;
      tentative = f.tentative;
      rates = f.rates;
      ranges = three (λ i. range_of r.statics p (rate_at f.rates i));
      terms = three (λ k. term_at d.terms k);
      bands = three (λ k. band_of r.statics p (rate_at f.rates 0) no_moves (term_at d.terms k));
      moves = no_moves;
      near = three (λ k. not_near);
      second = 0;
      session = Main;
      external = r.external;
    }

-- the record with other near seconds, another last quote second, another session and another outside pair: a quote, an
-- opening of the evening and a receipt of outside prices leave the rest of it
abbrev pub watching : Record → (near : List NearSeconds) → (second : ℕ) → Session → External → Record
watching r near second session external =
    record {
      id = r.id;
      statics = r.statics;
      standing = r.standing;
      p1 = r.p1;
      p2 = r.p2;
      s = r.s;
      tentative = r.tentative;
      rates = r.rates;
      ranges = r.ranges;
      terms = r.terms;
      bands = r.bands;
      moves = r.moves;
      near = near;
      second = second;
      session = session;
      external = external;
    }

-- "One quote touches one term only."
unfoldable pub near_on : Record → Quote → NearSeconds
near_on r q =
    let x : Limits = get_or r.bands q.term no_limits in
    let n : NearSeconds = get_or r.near q.term not_near in
    record {
      top = near_after (is_near Upper r.statics.w x q.bid) n.top q.second;
      bottom = near_after (is_near Lower r.statics.w x q.ask) n.bottom q.second;
    }

unfoldable pub quoted : Record → Quote → Record
quoted r q = watching r (set r.near q.term (near_on r q)) q.second r.session r.external

-- "The answer has two yes/no alerts, one for the top and one for the bottom"; W-210: in the evening by "its own seconds
-- u"
unfoldable pub alerts_on : Record → Quote → Answer
alerts_on r q =
    let u : ℕ = alert_seconds r.statics r.session in
    alerting (alert u (near_on r q).top q.second) (alert u (near_on r q).bottom q.second)

-- "It adds one to c, remakes that side's three band limits, and shifts its three range limits by delta. It clears that
-- side's near seconds in all terms."
unfoldable pub moved : Record → Side → Record
moved r side =
    let c : Moves = one_more side r.moves in
    let s1 : ℕ = rate_at r.rates 0 in
    record {
      id = r.id;
      statics = r.statics;
      standing = r.standing;
      p1 = r.p1;
      p2 = r.p2;
      s = r.s;
      tentative = r.tentative;
      rates = r.rates;
      ranges = three (λ i. range_moved_by side (delta_of r.statics s1 r.p1.units) (get_or r.ranges i no_limits));
      terms = r.terms;
      bands =
          three (λ k. band_moved side (band_of r.statics r.p1.units s1 c (term_at r.terms k))
          (get_or r.bands k no_limits));
      moves = c;
      near = three (λ k. near_cleared side (get_or r.near k not_near));
      second = r.second;
      session = session_moved r.session;
      external = r.external;
    }

-- W-210: "Opening the evening clears the near seconds and keeps c"; "The evening keeps the main session's limits
-- (11.3)"
unfoldable pub evening_opened : Record → Record
evening_opened r = watching r (three (λ k. not_near)) r.second (Evening 0) r.external

-- W-211: what is received changes the kept pair alone
unfoldable pub received : Record → Receipt → Record
received r x = watching r r.near r.second r.session (kept_after r.external x)

-- ---- the table

-- the place of the first slot with an id, or the number of slots: "Where an id stands in several slots the first alone
-- counts"
unfoldable pub place : List Record → (id : ℕ) → ℕ
place [] id = 0
place (r ∷ t) id = pick (eqb r.id id) 0 (suc (place t id))

unfoldable pub stands : List Record → (id : ℕ) → Bool
stands t id = ltb (place t id) (length t)

unfoldable pub found : List Record → (id : ℕ) → Record
found t id = get_or t (place t id) blank

-- 1: "no such id (0 included)", a damaged record, a table of no slots or over 512
unfoldable pub known : List Record → (id : ℕ) → Bool
known t id = valid_slots (length t) && stands t id && sound (found t id)

-- ---- the calls

-- what is asked about one security
pub data Ask : Type 0 where
  evaluating : Day → (rows : List ℤ) → Ask
  quoting : Quote → Ask
  moving : (side : ℕ) → Ask
  reading : Ask
  opening : Ask
  receiving : Receipt → Ask

-- the same, as the code is asked: the row figures are lent beside it
unfoldable pub ask_of : AskedAbout → (rows : List ℤ) → Ask
ask_of (asked.Evaluate d) rows = evaluating (day_of d) rows
ask_of (asked.Quote q) rows = quoting q
ask_of (asked.Move side) rows = moving side
ask_of asked.Read rows = reading
ask_of asked.Open rows = opening
ask_of (asked.Receive sent) rows = receiving (together sent)
ask_of (asked.Notify n) rows = receiving (notice n)

-- a call admits a security, or asks something about the one with an id
pub data Call : Type 0 where
  admit : Admission → Call
  about : (id : ℕ) → Ask → Call

abbrev pub evaluate : (id : ℕ) → Day → (rows : List ℤ) → Call
evaluate id d rows = about id (evaluating d rows)

abbrev pub quote : (id : ℕ) → Quote → Call
quote id q = about id (quoting q)

abbrev pub move : (id : ℕ) → (side : ℕ) → Call
move id side = about id (moving side)

abbrev pub read : (id : ℕ) → Call
read id = about id reading

abbrev pub open_evening : (id : ℕ) → Call
open_evening id = about id opening

abbrev pub receive : (id : ℕ) → Receipt → Call
receive id x = about id (receiving x)

-- the id that a call is about
abbrev pub id_of : Call → ℕ
id_of (admit a) = a.id
id_of (about id x) = id

-- ---- "First that applies"

-- "admit 4, 2, 3"
unfoldable pub admit_checks : List Record → Admission → List Check
admit_checks t a =
    record { verdict = AdmissionOutOfRange; applies = not (valid_slots (length t) && valid_admission a) }
    ∷ record { verdict = AlreadyAdmitted; applies = stands t a.id }
    ∷ record { verdict = NoEmptySlot; applies = not (stands t 0) }
    ∷ []

-- whatever is asked, 1 comes first; the lists below have what comes behind it
abbrev pub one_then : (there : Bool) → List Check → List Check
one_then there behind = record { verdict = NoSuchId; applies = not there } ∷ behind

-- "evaluate 1, 6, 5, 7, 8, 9"; W-205: "16, after 6 and before 5 in an evaluation"
abbrev pub evaluating_checks : Record → Day → (rows : List ℤ) → List Check
evaluating_checks r d rows =
    record { verdict = OutOfRange; applies = not (valid_day d rows) }
    ∷ record { verdict = RowCrossed; applies = has_crossed_row (day_rows rows) }
    ∷ record { verdict = DayNotAfter; applies = leb d.day (last_day r.standing) }
    ∷ record {
      verdict = PriceOutOfRange;
      applies =
          not (evaluation_fits (grid_of r.statics.lot) r.p1.units (used_by r) (day_rows rows));
    }
    ∷ record { verdict = MoveTooLarge; applies = move_too_large r.statics (move_on r rows) }
    ∷ record {
      verdict = BandCrossed;
      applies =
          not (all_three (λ k. not (crossed (get_or (evaluated r d rows).bands k no_limits))));
    }
    ∷ []

-- "quote 1, 6, 10, 11, 13"
abbrev pub quoting_checks : Record → Quote → List Check
quoting_checks r q =
    record { verdict = OutOfRange; applies = not (valid_quote q) }
    ∷ record { verdict = NotLive; applies = not (is_live r.standing) }
    ∷ record { verdict = NotMonitored; applies = not r.statics.monitoring }
    ∷ record { verdict = SecondEarlier; applies = ltb q.second r.second }
    ∷ []

-- "move 1, 6, 10, 11, 12"; W-210: "18, evening moves not allowed or used up, after 11 and before 12"
abbrev pub moving_checks : Record → (side : ℕ) → List Check
moving_checks r side =
    record { verdict = OutOfRange; applies = not (valid_side side) }
    ∷ record { verdict = NotLive; applies = not (is_live r.standing) }
    ∷ record { verdict = NotMonitored; applies = not r.statics.monitoring }
    ∷ record { verdict = NoEveningMove; applies = not (move_allowed r.statics r.session) }
    ∷ record { verdict = MovesUsedUp; applies = eqb (count_of (side_of side) r.moves) moves_most }
    ∷ []

-- W-210, the opening: 1 and 10 as in document 01; "19, evening opened twice, after 10"
abbrev pub opening_checks : Record → List Check
opening_checks r =
    record { verdict = NotLive; applies = not (is_live r.standing) }
    ∷ record { verdict = OpenedTwice; applies = is_evening r.session }
    ∷ []

-- W-211: "20 .. on receipt, after 1"
abbrev pub receiving_checks : Receipt → List Check
receiving_checks x = record { verdict = BadFloat; applies = is_bad x } ∷ []

-- ---- the rule of each ask

-- what an accepted ask answers: the record as it then stands, or the two alerts of a quote
pub data Reply : Type 0 where
  the_record : Reply
  the_alerts : Quote → Reply

abbrev pub reply_on : Reply → (before after : Record) → Answer
reply_on the_record r made = showing made
reply_on (the_alerts q) r made = alerts_on r q

-- the rule of an ask: its checks behind 1, the record that it makes of the one found, and its answer. Below them is
-- what an accepted ask leaves in the history of its security, from which Sequences works the figures out again
pub record Rule : Type 0 where
  pub checks : Record → List Check
  pub made : Record → Record
  pub reply : Reply
  -- an evaluation: its day and its rows
  pub evaluates : Option (Day × List ℤ)
  -- a move: its side
  pub moves : Option Side
  -- a quote
  pub quotes : Option Quote
  -- the sides whose near seconds it clears in all terms
  pub clears : Side → Bool
  -- the session after it
  pub session : Session → Session
  -- a receipt of outside prices
  pub receives : Option Receipt

-- an ask more has its rule here
abbrev pub rule_of : Ask → Rule
-- "An evaluation clears both counts, all near seconds and the last quote second (to 0)." W-210: "An evaluation puts the
-- record back in main."
rule_of (evaluating d rows) =
    record {
      checks = λ r. evaluating_checks r d rows;
      made = λ r. evaluated r d rows;
      reply = the_record;
      evaluates = Some (d, rows);
      moves = None;
      quotes = None;
      clears = λ side. true;
      session = λ x. Main;
      receives = None;
    }
rule_of (quoting q) =
    record {
      checks = λ r. quoting_checks r q;
      made = λ r. quoted r q;
      reply = the_alerts q;
      evaluates = None;
      moves = None;
      quotes = Some q;
      clears = λ side. false;
      session = λ x. x;
      receives = None;
    }
-- "It clears that side's near seconds in all terms."
rule_of (moving side) =
    record {
      checks = λ r. moving_checks r side;
      made = λ r. moved r (side_of side);
      reply = the_record;
      evaluates = None;
      moves = Some (side_of side);
      quotes = None;
      clears = same_side (side_of side);
      session = session_moved;
      receives = None;
    }
-- "read 1"; a read leaves everything
rule_of reading =
    record {
      checks = λ r. [];
      made = λ r. r;
      reply = the_record;
      evaluates = None;
      moves = None;
      quotes = None;
      clears = λ side. false;
      session = λ x. x;
      receives = None;
    }
-- W-210: "Opening the evening clears the near seconds and keeps c"
rule_of opening =
    record {
      checks = λ r. opening_checks r;
      made = λ r. evening_opened r;
      reply = the_record;
      evaluates = None;
      moves = None;
      quotes = None;
      clears = λ side. true;
      session = λ x. Evening 0;
      receives = None;
    }
rule_of (receiving x) =
    record {
      checks = λ r. receiving_checks x;
      made = λ r. received r x;
      reply = the_record;
      evaluates = None;
      moves = None;
      quotes = None;
      clears = λ side. false;
      session = λ x. x;
      receives = Some x;
    }

-- all the checks of an ask, of an id that is there or not, and of its record
abbrev pub checks_on : (there : Bool) → Record → Ask → List Check
checks_on there r x = one_then there ((rule_of x).checks r)

-- those of an evaluation, which is also asked why it was refused
unfoldable pub evaluate_checks : (there : Bool) → Record → Day → (rows : List ℤ) → List Check
evaluate_checks there r d rows = checks_on there r (evaluating d rows)

unfoldable pub checks_of : Call → List Record → List Check
checks_of (admit a) t = admit_checks t a
checks_of (about id x) t = checks_on (known t id) (found t id) x

-- ---- what a call answers, and the table after it

pub record Outcome : Type 0 where
  pub answer : Answer
  pub table : List Record

-- "A refusal returns its number with all figures 0 and writes nothing."
unfoldable pub judged : Verdict → List Record → Outcome → Outcome
judged v t accepted = pick (is_done v) accepted (record { answer = saying v; table = t })

-- "An accepted call writes one record, except a read, which writes none": a read makes the record that it finds, so that
-- the table is as it was (`read_writes_nothing`). "Admission takes the first empty slot."
unfoldable pub accepted_of : Call → List Record → Outcome
accepted_of (admit a) t = record { answer = saying Done; table = set t (place t 0) (admitted a) }
accepted_of (about id x) t =
    let made : Record = (rule_of x).made (found t id) in
    record { answer = reply_on (rule_of x).reply (found t id) made; table = set t (place t id) made }

-- one call
unfoldable pub step : Call → List Record → Outcome
step c t = judged (first_of (checks_of c t)) t (accepted_of c t)

-- a sequence of calls
unfoldable pub run : List Call → List Record → List Record
run [] t = t
run (c ∷ cs) t = run cs (step c t).table

-- "A fresh table has every slot empty."
unfoldable pub fresh : List Record → Bool
fresh t = every (λ r. eqb r.id 0) t
