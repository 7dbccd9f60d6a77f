-- General sentences of document 01, as laws of the definitions: what a quote, a move and an evaluation change and
-- leave, what a refusal and a read answer, who is refused with 1. Their figures stand in the tables of specs/Pinned...
-- It may use every definition of document 01, and the laws of Slots and Refusals.
use mathlib.Core.Path.{◌≡◌, refl, sym, ◌∙◌, ap}
use mathlib.Core.Logic.{◌≢◌}
use mathlib.Core.Bool.{Bool, true, false, not, ◌&&◌, and-false}
use mathlib.Core.List.{List, [], ◌∷◌, map}
use Rattle.std.specs.declared.option.Option.TheVariants.{None, Some}
use Prim.Native.Nat.{ℕ, zero, suc, ◌+◌, ◌≤◌, ◌<◌}
use native.Mathlib.Omega.{arith}
use lib.Dec.{leb, eqb}
use lib.IntN.{ℤ}
use lib.ListN.{length, get_or, set}
use lib.Seq.{get_or-set_other, set-get_or}
use borrow.Author.Tests.{eqb-false, le-leb, lt-leb}
use Rattle.paper.specs.declared.Standing.TheVariants.{Live}
use Rattle.paper.specs.declared.Session.TheVariants.{Main, Evening}
use Rattle.paper.specs.declared.Side.{Side}
use Rattle.paper.specs.declared.Side.TheVariants.{Upper, Lower}
use Rattle.paper.specs.declared.Limits.{Limits}
use Rattle.std.specs.declared.option.Option.{Option}
use Rattle.paper.specs.declared.External.{External}
use Rattle.paper.specs.declared.Admission.{Admission}
use Rattle.paper.specs.declared.Day.{Day}
use Rattle.paper.specs.declared.Quote.{Quote}
use Rattle.paper.specs.declared.Record.{Record}
use Rattle.paper.specs.declared.Answer.{Answer}
use Rattle.paper.specs.declared.Verdict.{Verdict}
use Rattle.paper.specs.declared.Verdict.TheVariants.{NoSuchId, AdmissionOutOfRange}
use Rattle.paper.specs.Lists.{pick, three}
use Rattle.paper.specs.Ranges.{no_limits, not_near, term_at, valid_slots, sound, rate_at}
use Rattle.paper_desk.specs.Limits.{band_limit, band_of, one_more, count_of, range_moved_by, band_moved}
use Rattle.paper_desk.specs.Alerts.{is_near, kept_since, near_after, alert, near_cleared}
use Rattle.paper_desk.specs.Evening.{session_moved}
use Rattle.paper_desk.specs.External.{Receipt, kept_after}
use Rattle.paper.specs.Verdicts.{number_of, is_done, first_of, FirstAt, here, NoneApplies, also}
use Rattle.paper_desk.specs.Desk.{blank, saying, showing, alerting, alerts_on, evaluated, price_on, quoted, moved}
use Rattle.paper_desk.specs.Desk.{evening_opened, received, place, stands, found, known, Call, admit, about}
use Rattle.paper_desk.specs.Desk.{evaluate, quote, move, read, open_evening, receive, id_of, checks_of, admit_checks}
use Rattle.paper_desk.specs.Desk.{Reply, the_record, the_alerts, reply_on, rule_of, judged, accepted_of, step}
use Rattle.paper.specs.PinnedValues.{record_from}
use Rattle.paper_desk.specs.PinnedSequence.{blank_is_zero}
use Rattle.paper_desk.specs.History.{is_admission}
use Rattle.paper_desk.specs.Sequences.{kept_then}
use Rattle.paper_desk.specs.Sides.{other, limit_on, near_second_on, repo_on, delta_for, shows_record, shows}
use Rattle.paper_desk.specs.Sides.{is_received, is_receipt}
use Rattle.paper.proofs.Logic.{not_false, not_true_and_false}
use Rattle.paper_desk.proofs.Slots.{found_stored, known_stands}
use Rattle.paper_desk.proofs.Rules.{rule_holds}
use Rattle.paper_desk.proofs.Refusals.{verdict_first, refused_always, refused_leaves, accepted_step}
use Rattle.paper_desk.proofs.Refusals.{accepted_only}
use Rattle.paper_desk.proofs.Others.{holds_after_step}

-- each of three is what is made for its place
pub three_gives_each : {A : Type 0} (f : ℕ → A) (default : A) (i : ℕ) → i < 3 → get_or (three f) i default ≡ f i
three_gives_each f default zero l = refl
three_gives_each f default (suc zero) l = refl
three_gives_each f default (suc (suc zero)) l = refl
three_gives_each f default (suc (suc (suc i))) l = absurd (omega arith)

-- ---- near sides and alerts

-- "bid present", "likewise" the ask
pub missing_not_near : (side : Side) (w : ℕ) (x : Limits) → is_near side w x 0 ≡ false
unfolding is_near
missing_not_near side w x = refl

-- "A near side keeps the second at which it became near"
pub near_begins : (second : ℕ) → near_after true None second ≡ Some second
unfolding near_after kept_since
near_begins second = refl

pub near_kept : (earlier second : ℕ) → near_after true (Some earlier) second ≡ Some earlier
unfolding near_after kept_since
near_kept earlier second = refl

-- "a quote that isn't near clears it"
pub near_cleared_lem : (old : Option ℕ) (second : ℕ) → near_after false old second ≡ None
unfolding near_after
near_cleared_lem old second = refl

-- "near, and at least u seconds since that second"
pub alert_from_u : (u since second : ℕ) → since + u ≤ second → alert u (Some since) second ≡ true
unfolding alert
alert_from_u u since second l = le-leb (since + u) second l

pub no_alert_before_u : (u since second : ℕ) → second < since + u → alert u (Some since) second ≡ false
unfolding alert
no_alert_before_u u since second l = lt-leb (since + u) second l

pub no_alert_unless_near : (u second : ℕ) → alert u None second ≡ false
unfolding alert
no_alert_unless_near u second = refl

-- "One quote touches one term only."
pub one_quote_one_term : (r : Record) (q : Quote) (k : ℕ) → k ≢ q.term
    → get_or (quoted r q).near k not_near ≡ get_or r.near k not_near
unfolding quoted
one_quote_one_term r q k n = get_or-set_other r.near q.term k _ not_near n

-- a quote leaves the limits, the counts, the standing and the session, and its second is the last
pub quote_leaves : (r : Record) (q : Quote)
    → ((quoted r q).ranges ≡ r.ranges)
    × ((quoted r q).terms ≡ r.terms)
    × ((quoted r q).bands ≡ r.bands)
    × ((quoted r q).moves ≡ r.moves)
    × ((quoted r q).standing ≡ r.standing)
    × ((quoted r q).session ≡ r.session)
    × ((quoted r q).second ≡ q.second)
unfolding quoted
quote_leaves r q = (refl, refl, refl, refl, refl, refl, refl)

-- ---- moves

-- "It adds one to c", "c the moves of that side"
pub move_counts : (r : Record) (side : Side) → count_of side (moved r side).moves ≡ count_of side r.moves + 1
unfolding moved one_more
move_counts r Upper = refl
move_counts r Lower = refl

pub move_leaves_count : (r : Record) (side : Side)
    → count_of (other side) (moved r side).moves ≡ count_of (other side) r.moves
unfolding moved one_more
move_leaves_count r Upper = refl
move_leaves_count r Lower = refl

-- a level's range, a term's band and its near seconds after a move
range_after_lem : (r : Record) (side : Side) (i : ℕ) → i < 3
    → get_or (moved r side).ranges i no_limits ≡ range_moved_by side (delta_for r) (get_or r.ranges i no_limits)
unfolding moved
range_after_lem r side i l = three_gives_each (λ i. range_moved_by side (delta_for r) (get_or r.ranges i no_limits)) no_limits i l

band_after_lem : (r : Record) (side : Side) (k : ℕ) → k < 3
    → get_or (moved r side).bands k no_limits
    ≡ band_moved side
    (band_of r.statics r.p1.units (rate_at r.rates 0) (moved r side).moves (term_at r.terms k))
    (get_or r.bands k no_limits)
unfolding moved
band_after_lem r side k l =
    three_gives_each
    (λ k. band_moved side
    (band_of r.statics r.p1.units (rate_at r.rates 0) (one_more side r.moves) (term_at r.terms k))
    (get_or r.bands k no_limits))
    no_limits k l

near_after_lem : (r : Record) (side : Side) (k : ℕ) → k < 3
    → get_or (moved r side).near k not_near ≡ near_cleared side (get_or r.near k not_near)
unfolding moved
near_after_lem r side k l = three_gives_each (λ k. near_cleared side (get_or r.near k not_near)) not_near k l

-- "remakes that side's three band limits": by one move more of that side
pub move_remakes : (r : Record) (side : Side) (k : ℕ) → k < 3
    → limit_on side (get_or (moved r side).bands k no_limits)
    ≡ band_limit r.statics r.p1.units (rate_at r.rates 0) (term_at r.terms k).k
    (repo_on side (term_at r.terms k)) (count_of side r.moves + 1) side
unfolding moved band_moved band_of one_more
move_remakes r Upper k l = ap (limit_on Upper) (band_after_lem r Upper k l)
move_remakes r Lower k l = ap (limit_on Lower) (band_after_lem r Lower k l)

pub move_leaves_band : (r : Record) (side : Side) (k : ℕ) → k < 3
    → limit_on (other side) (get_or (moved r side).bands k no_limits) ≡ limit_on (other side) (get_or r.bands k no_limits)
unfolding band_moved
move_leaves_band r Upper k l = ap (limit_on Lower) (band_after_lem r Upper k l)
move_leaves_band r Lower k l = ap (limit_on Upper) (band_after_lem r Lower k l)

-- "shifts its three range limits by delta": the upper ones up
pub upper_moves_up : (r : Record) (i : ℕ) → i < 3
    → (get_or (moved r Upper).ranges i no_limits).upper ≡ (get_or r.ranges i no_limits).upper + delta_for r
unfolding range_moved_by
upper_moves_up r i l = ap (limit_on Upper) (range_after_lem r Upper i l)

-- the lower ones down, "lower ones stopping at 0 (18.4)"
pub lower_moves_down : (r : Record) (i : ℕ) → i < 3 → delta_for r ≤ (get_or r.ranges i no_limits).lower
    → (get_or (moved r Lower).ranges i no_limits).lower + delta_for r ≡ (get_or r.ranges i no_limits).lower
unfolding range_moved_by
lower_moves_down r i l enough = omega (arith, ap (limit_on Lower) (range_after_lem r Lower i l))

pub lower_stops_at_zero : (r : Record) (i : ℕ) → i < 3 → (get_or r.ranges i no_limits).lower ≤ delta_for r
    → (get_or (moved r Lower).ranges i no_limits).lower ≡ 0
unfolding range_moved_by
lower_stops_at_zero r i l short = omega (arith, ap (limit_on Lower) (range_after_lem r Lower i l))

pub move_leaves_range : (r : Record) (side : Side) (i : ℕ) → i < 3
    → limit_on (other side) (get_or (moved r side).ranges i no_limits) ≡ limit_on (other side) (get_or r.ranges i no_limits)
unfolding range_moved_by
move_leaves_range r Upper i l = ap (limit_on Lower) (range_after_lem r Upper i l)
move_leaves_range r Lower i l = ap (limit_on Upper) (range_after_lem r Lower i l)

-- "It clears that side's near seconds in all terms."
pub move_clears : (r : Record) (side : Side) (k : ℕ) → k < 3
    → near_second_on side (get_or (moved r side).near k not_near) ≡ None
unfolding near_cleared
move_clears r Upper k l = ap (near_second_on Upper) (near_after_lem r Upper k l)
move_clears r Lower k l = ap (near_second_on Lower) (near_after_lem r Lower k l)

pub move_leaves_near : (r : Record) (side : Side) (k : ℕ) → k < 3
    → near_second_on (other side) (get_or (moved r side).near k not_near)
    ≡ near_second_on (other side) (get_or r.near k not_near)
unfolding near_cleared
move_leaves_near r Upper k l = ap (near_second_on Lower) (near_after_lem r Upper k l)
move_leaves_near r Lower k l = ap (near_second_on Upper) (near_after_lem r Lower k l)

-- a move leaves everything else
pub move_leaves : (r : Record) (side : Side)
    → ((moved r side).id ≡ r.id)
    × ((moved r side).statics ≡ r.statics)
    × ((moved r side).standing ≡ r.standing)
    × ((moved r side).p1 ≡ r.p1)
    × ((moved r side).p2 ≡ r.p2)
    × ((moved r side).s ≡ r.s)
    × ((moved r side).tentative ≡ r.tentative)
    × ((moved r side).rates ≡ r.rates)
    × ((moved r side).terms ≡ r.terms)
    × ((moved r side).second ≡ r.second)
    × ((moved r side).external ≡ r.external)
unfolding moved
move_leaves r side = (refl, refl, refl, refl, refl, refl, refl, refl, refl, refl, refl)

-- W-210: "the evening moves made" are one more after a move of either side, and in main there are none
pub evening_move_counts : (r : Record) (side : Side) (made : ℕ) → r.session ≡ Evening made
    → (moved r side).session ≡ Evening (made + 1)
unfolding moved session_moved
evening_move_counts r side made e = rw e

pub main_move_stays : (r : Record) (side : Side) → r.session ≡ Main → (moved r side).session ≡ Main
unfolding moved session_moved
main_move_stays r side e = rw e

-- ---- the opening of the evening

-- W-210: "Opening the evening clears the near seconds", and no evening move is made yet
pub opening_clears : (r : Record)
    → ((evening_opened r).near ≡ three (λ k. not_near)) × ((evening_opened r).session ≡ Evening 0)
unfolding evening_opened
opening_clears r = (refl, refl)

-- "and keeps c", "The evening keeps the main session's limits (11.3)": it leaves everything else
pub opening_leaves : (r : Record)
    → ((evening_opened r).moves ≡ r.moves)
    × ((evening_opened r).ranges ≡ r.ranges)
    × ((evening_opened r).bands ≡ r.bands)
    × ((evening_opened r).terms ≡ r.terms)
    × ((evening_opened r).rates ≡ r.rates)
    × ((evening_opened r).second ≡ r.second)
    × ((evening_opened r).id ≡ r.id)
    × ((evening_opened r).statics ≡ r.statics)
    × ((evening_opened r).standing ≡ r.standing)
    × ((evening_opened r).p1 ≡ r.p1)
    × ((evening_opened r).p2 ≡ r.p2)
    × ((evening_opened r).s ≡ r.s)
    × ((evening_opened r).tentative ≡ r.tentative)
unfolding evening_opened
opening_leaves r = (refl, refl, refl, refl, refl, refl, refl, refl, refl, refl, refl, refl, refl)

-- ---- the receipt of outside prices

-- W-211: it changes the kept pair, and leaves everything else
pub receipt_leaves : (r : Record) (x : Receipt)
    → ((received r x).external ≡ kept_after r.external x)
    × ((received r x).id ≡ r.id)
    × ((received r x).statics ≡ r.statics)
    × ((received r x).standing ≡ r.standing)
    × ((received r x).p1 ≡ r.p1)
    × ((received r x).p2 ≡ r.p2)
    × ((received r x).s ≡ r.s)
    × ((received r x).tentative ≡ r.tentative)
    × ((received r x).rates ≡ r.rates)
    × ((received r x).ranges ≡ r.ranges)
    × ((received r x).terms ≡ r.terms)
    × ((received r x).bands ≡ r.bands)
    × ((received r x).moves ≡ r.moves)
    × ((received r x).near ≡ r.near)
    × ((received r x).second ≡ r.second)
    × ((received r x).session ≡ r.session)
unfolding received
receipt_leaves r x = (refl, refl, refl, refl, refl, refl, refl, refl, refl, refl, refl, refl, refl, refl, refl, refl)

-- of the seven calls the last alone is a receipt
pub receipt_is_one_call : (a : Admission) (id : ℕ) (d : Day) (rows : List ℤ) (q : Quote) (side : ℕ) (x : Receipt)
    → map is_receipt (admit a ∷ evaluate id d rows ∷ quote id q ∷ move id side ∷ read id ∷ open_evening id
    ∷ receive id x ∷ []) ≡ false ∷ false ∷ false ∷ false ∷ false ∷ false ∷ true ∷ []
receipt_is_one_call a id d rows q side x = refl

unreceived : (o : Option Receipt) (kept : External) → is_received o ≡ false → kept_then o kept ≡ kept
unreceived None kept s = refl
unreceived (Some told) kept s = absurd (not_true_and_false true refl s)

-- and no call on a record but a receipt changes the pair, accepted or refused
pub pair_left : (c : Call) (t : List Record) → is_admission c ≡ false → is_receipt c ≡ false
    → (found (step c t).table (id_of c)).external ≡ (found t (id_of c)).external
unfolding accepted_of checks_of
pair_left c t looks s =
    holds_after_step (λ u. (found u (id_of c)).external ≡ (found t (id_of c)).external) c t refl
    (λ _ n. accepted c looks s n)
  where
    -- what is written in the slot of a known id is what is then found there
    written : (id : ℕ) (x : Record) → not (known t id) ≡ false → x.id ≡ (found t id).id
        → x.external ≡ (found t id).external
        → (found (set t (place t id) x) id).external ≡ (found t id).external
    written id x q same pair =
        ap (λ (r : Record). r.external) (found_stored t id x (known_stands t id (not_false (known t id) q)) same)
        ∙ pair

    accepted : (c : Call) → is_admission c ≡ false → is_receipt c ≡ false → NoneApplies (checks_of c t)
        → (found (accepted_of c t).table (id_of c)).external ≡ (found t (id_of c)).external
    accepted (admit a) looks s n = absurd (let z : ◌≡◌ {A = ℕ} 0 1 = cc in omega arith)
    accepted (about id x) looks s (also q n) =
        let made : Record = (rule_of x).made (found t id) in
        written id made q ((rule_holds x).id (found t id))
        ((rule_holds x).external (found t id) ∙ unreceived (rule_of x).receives (found t id).external s)

-- ---- evaluations

-- "An evaluation clears both counts, all near seconds and the last quote second (to 0)."
pub evaluation_clears : (r : Record) (d : Day) (rows : List ℤ)
    → ((evaluated r d rows).moves.upper ≡ 0)
    × ((evaluated r d rows).moves.lower ≡ 0)
    × ((evaluated r d rows).near ≡ three (λ k. not_near))
    × ((evaluated r d rows).second ≡ 0)
unfolding evaluated
evaluation_clears r d rows = (refl, refl, refl, refl)

-- W-210: "An evaluation puts the record back in main."
pub evaluation_in_main : (r : Record) (d : Day) (rows : List ℤ) → (evaluated r d rows).session ≡ Main
unfolding evaluated
evaluation_in_main r d rows = refl

-- "live with its day number", and "the two latest evaluations" are then this one and the one before it
pub evaluation_is_latest : (r : Record) (d : Day) (rows : List ℤ)
    → ((evaluated r d rows).standing ≡ Live d.day)
    × ((evaluated r d rows).p1.units ≡ price_on r rows)
    × ((evaluated r d rows).p2 ≡ r.p1)
unfolding evaluated
evaluation_is_latest r d rows = (refl, refl, refl)

-- ---- who is refused with 1, and the tables that every call refuses

-- a security that is not known is refused with 1 whatever else holds
pub unknown_refused : (c : Call) (t : List Record) → is_admission c ≡ false → known t (id_of c) ≡ false
    → (step c t).answer.verdict ≡ NoSuchId
unfolding checks_of
unknown_refused c t looks e = refused_always c t NoSuchId (first c looks e)
  where
    first : (c : Call) → is_admission c ≡ false → known t (id_of c) ≡ false → FirstAt NoSuchId (checks_of c t)
    first (admit a) looks e = absurd (let z : ◌≡◌ {A = ℕ} 0 1 = cc in omega arith)
    first (about id x) looks e = here refl (ap not e)

-- "Where an id stands in several slots the first alone counts": no slot before it has the id
pub none_before_first : (t : List Record) (id i : ℕ) → i < place t id → (get_or t i blank).id ≡ id → ⊥
unfolding place
none_before_first [] id i l e = omega arith
none_before_first (r ∷ t) id i l e = go (eqb r.id id) refl i l e (λ i. none_before_first t id i)
  where
    go : (b : Bool) → eqb r.id id ≡ b → (i : ℕ) → i < pick b 0 (suc (place t id)) → (get_or (r ∷ t) i blank).id ≡ id
        → ((i : ℕ) → i < place t id → (get_or t i blank).id ≡ id → ⊥) → ⊥
    go true q i l e rest = omega arith
    go false q zero l e rest = eqb-false r.id id q e
    go false q (suc i) l e rest = rest i (omega arith) e

-- "even if it is damaged": it is found, and refused with 1, whatever stands behind it
pub damaged_refused : (c : Call) (t : List Record) → is_admission c ≡ false → sound (found t (id_of c)) ≡ false
    → (step c t).answer.verdict ≡ NoSuchId
unfolding known
damaged_refused c t looks e = unknown_refused c t looks (rw e (and-false (valid_slots (length t) && stands t (id_of c))))

-- "A table of no slots, or over 512, is refused 4 by admit and 1 by the rest."
pub bad_table_refused : (c : Call) (t : List Record) → valid_slots (length t) ≡ false
    → number_of (step c t).answer.verdict ≡ pick (is_admission c) 4 1
unfolding checks_of admit_checks known
bad_table_refused c t s = go c
  where
    unknown : (id : ℕ) → known t id ≡ false
    unknown id = rw s

    go : (c : Call) → number_of (step c t).answer.verdict ≡ pick (is_admission c) 4 1
    go (admit a) = ap number_of (refused_always (admit a) t AdmissionOutOfRange (here refl (rw s)))
    go (about id x) = ap number_of (unknown_refused (about id x) t refl (unknown id))

pub no_slots_invalid : (t : List Record) → length t ≡ 0 → valid_slots (length t) ≡ false
unfolding valid_slots
no_slots_invalid t e = rw e

pub slots_over_512_invalid : (t : List Record) → 512 < length t → valid_slots (length t) ≡ false
unfolding valid_slots
slots_over_512_invalid t l = rw (lt-leb (length t) 512 l) (and-false (leb 1 (length t)))

-- ---- what is written and what is answered

-- "An accepted call writes one record, except a read, which writes none."
pub read_writes_nothing : (id : ℕ) (t : List Record) → (step (read id) t).table ≡ t
unfolding accepted_of found
read_writes_nothing id t =
    holds_after_step (λ (u : List Record). u ≡ t) (read id) t refl (λ _ _. set-get_or t (place t id) blank)

-- "A refusal returns its number with all figures 0 (flags no, nothing near, admitted only)": no number but 0
pub refused_zero : (c : Call) (t : List Record) → is_done (step c t).answer.verdict ≡ false
    → ((step c t).answer.rec ≡ record_from []) × ((step c t).answer.top ≡ false) × ((step c t).answer.bottom ≡ false)
unfolding saying
refused_zero c t e =
    let zeros : (step c t).answer ≡ saying (step c t).answer.verdict = (refused_leaves c t e).1 in
    let shown : (step c t).answer.rec ≡ blank = ap (λ (a : Answer). a.rec) zeros in
    (shown ∙ blank_is_zero, ap (λ (a : Answer). a.top) zeros, ap (λ (a : Answer). a.bottom) zeros)

-- a record is shown with no alert: only a quote has one
pub shown_without_alert : (r : Record) → ((showing r).top ≡ false) × ((showing r).bottom ≡ false)
unfolding showing
shown_without_alert r = (refl, refl)

-- a record that is shown is the one made
shown : (k : Reply) (r made : Record) → shows_record k ≡ true → made ≡ (reply_on k r made).rec
unfolding showing
shown the_record r made s = refl
shown (the_alerts q) r made s = absurd (not_true_and_false false s refl)

unshown : (k : Reply) (r made : Record) → shows_record k ≡ false → (reply_on k r made).rec ≡ blank
unfolding alerts_on alerting
unshown the_record r made s = absurd (not_true_and_false true refl s)
unshown (the_alerts q) r made s = refl

-- of the seven calls all but an admission and a quote show a record
pub five_calls_show : (a : Admission) (id : ℕ) (d : Day) (rows : List ℤ) (q : Quote) (side : ℕ) (x : Receipt)
    → map shows (admit a ∷ evaluate id d rows ∷ quote id q ∷ move id side ∷ read id ∷ open_evening id ∷ receive id x ∷ [])
    ≡ false ∷ true ∷ false ∷ true ∷ true ∷ true ∷ true ∷ []
five_calls_show a id d rows q side x = refl

-- "Accepted evaluations, moves and reads return the record as it then stands"
pub shown_stands : (c : Call) (t : List Record) → shows c ≡ true → is_done (step c t).answer.verdict ≡ true
    → found (step c t).table (id_of c) ≡ (step c t).answer.rec
unfolding accepted_of checks_of
shown_stands c t s e =
    let done : is_done (first_of (checks_of c t)) ≡ true = ap is_done (sym (verdict_first c t)) ∙ e in
    rw (accepted_step c t done) (accepted c s (accepted_only c t e))
  where
    accepted : (c : Call) → shows c ≡ true → NoneApplies (checks_of c t)
        → found (accepted_of c t).table (id_of c) ≡ (accepted_of c t).answer.rec
    accepted (admit a) s w = absurd (not_true_and_false false s refl)
    accepted (about id x) s (also q w) =
        found_stored t id ((rule_of x).made (found t id)) (known_stands t id (not_false (known t id) q))
        ((rule_holds x).id (found t id))
        ∙ shown (rule_of x).reply (found t id) ((rule_of x).made (found t id)) s

-- "a quote its two alerts, an admission the number 0 alone": neither shows a record
pub no_record_shown : (c : Call) (t : List Record) → shows c ≡ false → (step c t).answer.rec ≡ record_from []
unfolding step judged accepted_of saying
no_record_shown c t s = go c s (first_of (checks_of c t)) (is_done (first_of (checks_of c t))) ∙ blank_is_zero
  where
    go : (c : Call) → shows c ≡ false → (v : Verdict) (b : Bool)
        → (pick b (accepted_of c t) (record { answer = saying v; table = t })).answer.rec ≡ blank
    go (admit a) s v true = refl
    go (admit a) s v false = refl
    go (about id x) s v true = unshown (rule_of x).reply (found t id) ((rule_of x).made (found t id)) s
    go (about id x) s v false = refl

-- an admission gives no alert either
pub admission_number_alone : (a : Admission) (t : List Record)
    → (step (admit a) t).answer ≡ saying (step (admit a) t).answer.verdict
unfolding step judged accepted_of saying
admission_number_alone a t = go (first_of (checks_of (admit a) t)) (is_done (first_of (checks_of (admit a) t)))
  where
    go : (v : Verdict) (b : Bool)
        → (pick b (accepted_of (admit a) t) (record { answer = saying v; table = t })).answer
        ≡ saying (pick b (accepted_of (admit a) t) (record { answer = saying v; table = t })).answer.verdict
    go v true = refl
    go v false = refl
