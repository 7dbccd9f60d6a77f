-- W-213: the order of every live record, after every list of calls on a fresh table. A live record's figures are those
-- that its own statics, evaluation, rates, terms and moves give (demand 2), so that each line is a law of single
-- figures (paper_desk/proofs/Order.antt).
use mathlib.Core.Path.{◌≡◌, refl, sym, ◌∙◌, ap, subst}
use mathlib.Core.Logic.{◌≢◌}
use mathlib.Core.Bool.{Bool, true, false}
use mathlib.Core.List.{List, [], ◌∷◌, ◌++◌}
use Prim.Native.Nat.{ℕ, ◌+◌, ◌%◌, ◌≤◌, ◌<◌}
use native.Mathlib.Omega.{arith}
use lib.Dec.{leb}
use lib.IntN.{pos}
use lib.Signed.{le_z}
use borrow.Author.Tests.{le-leb, eqb-true}
use Rattle.paper.specs.declared.Statics.{Statics}
use Rattle.paper.specs.declared.Side.{Side}
use Rattle.paper.specs.declared.Side.TheVariants.{Upper, Lower}
use Rattle.paper.specs.declared.Limits.{Limits}
use Rattle.paper.specs.declared.Term.{Term}
use Rattle.paper.specs.declared.Record.{Record}
use Rattle.paper.specs.declared.Admission.{Admission}
use Rattle.paper.specs.declared.Day.{Day}
use Rattle.paper.specs.declared.Answer.{Answer}
use Rattle.paper.specs.Numbers.{limit_most}
use Rattle.paper.specs.Ranges.{within, grid_of, is_price, is_grid_price, is_live, valid_limits, is_limit, term_at, rate_at}
use Rattle.paper.specs.Ranges.{range_at, band_at}
use Rattle.paper_desk.specs.Rates.{minimum_of}
use Rattle.paper_desk.specs.Limits.{band_of, Outward}
use Rattle.paper.specs.PinnedValues.{record_from}
use Rattle.paper.specs.Verdicts.{is_done}
use Rattle.paper_desk.specs.Sides.{limit_on, repo_on, shows, PastZero}
use Rattle.paper_desk.specs.Desk.{Ask, Call, admit, about, id_of, place, found, known, step, run}
use Rattle.paper_desk.specs.History.{FreshTable, is_admission}
use Rattle.paper_desk.specs.Sequences.{LastDay, no_day, on_day, last_evaluated, standing_now, term_now, range_after, range_now}
use Rattle.paper_desk.specs.Sequences.{band_now}
use Rattle.demands.specs.Demands.{FiguresHold, RatesHold, BandsInOrder}
use Rattle.demands.specs.Order.{never_falls, rates_of, ranges_around, holds_zero, at_most, slot_at, HoldsLive, InOrder}
use Rattle.paper.proofs.Logic.{not_true_and_false, and_left, and_right, and_both, each_of_three}
use Rattle.paper_desk.proofs.LimitSizes.{valid_limit_statics}
use Rattle.paper_desk.proofs.Level.{stepping}
use Rattle.paper_desk.proofs.Order.{levels_in_order, level_rates_ascend, moved_range_around, moved_range_outward}
use Rattle.paper_desk.proofs.Order.{band_around_lem}
use Rattle.paper_desk.proofs.Others.{other_records_stay}
use Rattle.paper_desk.proofs.PinnedLaws.{refused_zero, shown_stands, no_record_shown}
use Rattle.paper_desk.proofs.Refusals.{accepted_only}
use Rattle.paper_kept.proofs.Sound.{Parts, sound_has_parts}
use Rattle.paper_kept.proofs.Good.{good_sound}
use Rattle.demands.proofs.Kept.{call_knows}
use Rattle.demands.proofs.Histories.{record_of, Lawful}
use Rattle.demands.proofs.Known.{lawful_good, stays_known}
use Rattle.demands.proofs.Figures.{lawful_figures, lawful_statics, rates_hold}
use Rattle.demands.proofs.Bands.{lawful_uncrossed}
use Rattle.demands.proofs.SlotHistories.{known_has_id, full_slot_made}

-- ---- a live record's figures, from its own

-- it is sound, its rates were made with some m, its limits by its own statics, evaluation, rates, terms and moves
record Worked (r : Record) (m : ℕ) : Type 0 where
  parts : Parts r
  rates : RatesHold r.statics m r
  ranges : (i : ℕ) → i < 3
      → range_at r i
      ≡ range_after r.statics r.p1.units (rate_at r.rates 0) (rate_at r.rates i) r.moves
  bands : (k : ℕ) → k < 3
      → band_at r k ≡ band_of r.statics r.p1.units (rate_at r.rates 0) r.moves (term_at r.terms k)
  uncrossed : BandsInOrder r

-- a live record was evaluated
pub live_has_day : (a : Admission) (x : LastDay) → is_live (standing_now a x) ≡ true → (d : Day) × (x ≡ on_day d)
unfolding standing_now is_live
live_has_day a no_day live = absurd (not_true_and_false false live refl)
live_has_day a (on_day d) live = (d, refl)

module _ (a : Admission) (es : List Ask) (l : Lawful a es) where
  figures_hold : FiguresHold a es (record_of a es)
  figures_hold = lawful_figures a es l

  worked_on : (d : Day) → last_evaluated es ≡ on_day d → Worked (record_of a es) d.m
  unfolding range_now band_now term_now
  worked_on d e =
      let k : FiguresHold a es (record_of a es) = figures_hold in
      record {
        parts = sound_has_parts (record_of a es) (good_sound (record_of a es) (lawful_good a es l));
        rates =
            subst (λ (st : Statics). RatesHold st d.m (record_of a es)) (sym k.statics)
            (rates_hold a es (record_of a es) d (lawful_statics a es l) k e);
        ranges = λ i h. rw (k.statics, k.p1, k.rates, k.moves) (rw e at (k.ranges i h));
        bands = λ j h.
            rw (k.statics, k.p1, k.rates, k.moves, k.terms j h, e) (rw e at (k.bands j h));
        uncrossed = record { in_order = lawful_uncrossed a es l };
      }

  live_worked : is_live (record_of a es).standing ≡ true → (m : ℕ) × Worked (record_of a es) m
  live_worked live =
      let on = live_has_day a (last_evaluated es) (sym (ap is_live figures_hold.standing) ∙ live) in
      (on.0.m, worked_on on.0 on.1)

-- ---- the lines

-- a rate lies between the minimum of its level and the maximum, and is a multiple of h
record Between (st : Statics) (level rate : ℕ) : Type 0 where
  low : minimum_of st level ≤ rate
  high : rate ≤ st.smax
  multiple : rate % st.h ≡ 0

-- numbers that never fall: the last of them, and one more before them
one_never_falls : (x : ℕ) → never_falls (x ∷ []) ≡ true
unfolding never_falls
one_never_falls x = refl

lesser_first_never_falls : (x y : ℕ) (rest : List ℕ) → x ≤ y → never_falls (y ∷ rest) ≡ true
    → never_falls (x ∷ y ∷ rest) ≡ true
unfolding never_falls
lesser_first_never_falls x y rest l v = and_both (leb x y) (never_falls (y ∷ rest)) (le-leb x y l) v

module _ (r : Record) (m : ℕ) (w : Worked r m) where
  on_grid_lem : r.p1.units % grid_of r.statics.lot ≡ 0
  unfolding is_grid_price
  on_grid_lem = eqb-true _ _ (and_right (is_price r.p1.units) _ w.parts.p1)

  -- the rate of the next level is not the lesser
  next_rate_not_less : (i : ℕ) → i < 2 → rate_at r.rates i ≤ rate_at r.rates (i + 1)
  next_rate_not_less i l = go r.statics.ewma refl
    where
      go : (on : Bool) → r.statics.ewma ≡ on → rate_at r.rates i ≤ rate_at r.rates (i + 1)
      go true on =
          level_rates_ascend r.statics (i + 1) (i + 1 + 1) r.tentative.bp m _ _
          (levels_in_order r.statics i w.parts.statics l)
          (w.rates.modelled on i (omega arith)) (w.rates.modelled on (i + 1) (omega arith))
      go false off =
          omega (
            arith,
            (levels_in_order r.statics i w.parts.statics l).minima,
            w.rates.minima off i (omega arith),
            w.rates.minima off (i + 1) (omega arith),
          )

  rates_in_order : never_falls (rates_of r) ≡ true
  rates_in_order =
      lesser_first_never_falls _ _ _ (next_rate_not_less 0 (omega arith))
      (lesser_first_never_falls _ _ _ (next_rate_not_less 1 (omega arith)) (one_never_falls _))

  rate_between : (i : ℕ) → i < 3 → Between r.statics (i + 1) (rate_at r.rates i)
  rate_between i l = go r.statics.ewma refl
    where
      go : (on : Bool) → r.statics.ewma ≡ on → Between r.statics (i + 1) (rate_at r.rates i)
      go true on =
          let k = w.rates.modelled on i l in
          record { low = k.low; high = k.held; multiple = k.multiple }
      go false off =
          let k = stepping r.statics (i + 1) w.parts.statics in
          rw (w.rates.minima off i l) (record { low = omega arith; high = k.low; multiple = k.minimum })

  -- the ranges, on either side
  next_range_outward : (side : Side) (i : ℕ) → i < 2
      → Outward side (limit_on side (range_at r (i + 1))) (limit_on side (range_at r i))
  next_range_outward side i l =
      rw (w.ranges i (omega arith), w.ranges (i + 1) (omega arith))
      (moved_range_outward r.statics side r.p1.units (rate_at r.rates 0) (rate_at r.rates i)
      (rate_at r.rates (i + 1)) r.moves (next_rate_not_less i l))

  first_range_around : (side : Side) → Outward side (limit_on side (range_at r 0)) r.p1.units
  first_range_around side =
      rw (w.ranges 0 (omega arith))
      (moved_range_around r.statics side r.p1.units (rate_at r.rates 0) (rate_at r.rates 0) r.moves
      on_grid_lem)

  ranges_in_order : never_falls (ranges_around r) ≡ true
  ranges_in_order =
      lesser_first_never_falls _ _ _ (next_range_outward Lower 1 (omega arith))
      (lesser_first_never_falls _ _ _ (next_range_outward Lower 0 (omega arith))
      (lesser_first_never_falls _ _ _ (first_range_around Lower)
      (lesser_first_never_falls _ _ _ (first_range_around Upper)
      (lesser_first_never_falls _ _ _ (next_range_outward Upper 0 (omega arith))
      (lesser_first_never_falls _ _ _ (next_range_outward Upper 1 (omega arith)) (one_never_falls _))))))

  -- the evaluation lies on the inner side of each limit
  band_holds_price : (k : ℕ) → k < 3 → holds_zero (term_at r.terms k) ≡ true
      → within (band_at r k).lower (band_at r k).upper r.p1.units ≡ true
  band_holds_price k l z =
      rw (w.bands k l)
      (and_both _ _
      (le-leb _ _ (one Lower (and_left (le_z x.low (pos 0)) _ z)))
      (le-leb _ _ (one Upper (and_right (le_z x.low (pos 0)) _ z))))
    where
      x : Term
      x = term_at r.terms k

      one : (side : Side) → PastZero side (repo_on side x)
          → Outward side (limit_on side (band_of r.statics r.p1.units (rate_at r.rates 0) r.moves x))
          r.p1.units
      one side past =
          band_around_lem r.statics side r.p1.units (rate_at r.rates 0) r.moves x
          (valid_limit_statics r.statics w.parts.statics) on_grid_lem past

  -- a sound record's limits
  limits_at_most : (x : Limits) → valid_limits (grid_of r.statics.lot) x ≡ true → at_most limit_most x ≡ true
  unfolding valid_limits is_limit
  limits_at_most x v =
      and_both (leb x.lower limit_most) (leb x.upper limit_most) (search (v, and_left, and_right))
      (search (v, and_left, and_right))

  worked_in_order : (t : List Record) (slot : ℕ)
      → ((c : Call) → r.id ≢ id_of c → slot_at (step c t).table slot ≡ r) → InOrder t slot r
  worked_in_order t slot others =
      record {
        rates_ascend = rates_in_order;
        rates_between = λ i l. and_both _ _ (le-leb _ _ (rate_between i l).low) (le-leb _ _ (rate_between i l).high);
        rates_multiples = λ i l. (rate_between i l).multiple;
        ranges_ascend = ranges_in_order;
        bands = w.uncrossed;
        evaluation_within = band_holds_price;
        ranges_most = λ i l.
            limits_at_most (range_at r i)
            (each_of_three (λ i. valid_limits (grid_of r.statics.lot) (range_at r i)) w.parts.ranges i l);
        bands_most = λ k l.
            limits_at_most (band_at r k)
            (each_of_three (λ k. valid_limits (grid_of r.statics.lot) (band_at r k)) w.parts.bands k l);
        others = others;
      }

-- ---- the theorem

pub live_in_order : (cs : List Call) (t : List Record) → FreshTable t → (slot : ℕ) → HoldsLive (run cs t) slot
    → InOrder (run cs t) slot (slot_at (run cs t) slot)
live_in_order cs t f slot k =
    let made = full_slot_made cs t f slot k.full in
    let live : is_live (record_of made.admission made.events).standing ≡ true =
    sym (ap (λ (r : Record). is_live r.standing) made.same) ∙ k.live in
    let w = live_worked made.admission made.events made.lawful live in
    worked_in_order (slot_at (run cs t) slot) w.0
    (subst (λ (r : Record). Worked r w.0) (sym made.same) w.1) (run cs t) slot
    (λ c other. other_records_stay c (run cs t) slot k.full other)

-- so is the live record that is found by its id
found_in_order : (cs : List Call) (t : List Record) → FreshTable t → (id : ℕ) → known (run cs t) id ≡ true
    → is_live (found (run cs t) id).standing ≡ true
    → InOrder (run cs t) (place (run cs t) id) (found (run cs t) id)
unfolding found
found_in_order cs t f id there live =
    live_in_order cs t f (place (run cs t) id) (record { full = known_has_id (run cs t) id there; live = live })

-- ---- what a member sees

pub run_one_more : (cs : List Call) (c : Call) (t : List Record) → run (cs ++ (c ∷ [])) t ≡ (step c (run cs t)).table
unfolding run
run_one_more [] c t = refl
run_one_more (d ∷ cs) c t = run_one_more cs c (step d t).table

-- a call that is refused, or that shows no record, answers a blank one, which is not live
not_live : (r : Record) → r ≡ record_from [] → is_live r.standing ≡ true → ⊥
unfolding record_from is_live
not_live r e live = not_true_and_false false (sym (ap (λ (x : Record). is_live x.standing) e) ∙ live) refl

-- a call that shows a record is no admission
pub no_admission_shows : (c : Call) → shows c ≡ true → is_admission c ≡ false
no_admission_shows (admit a) e = absurd (not_true_and_false false e refl)
no_admission_shows (about id x) e = refl

-- Every live record that a call answers is in order, in the table after the call
pub shown_in_order : (cs : List Call) (t : List Record) → FreshTable t → (c : Call)
    → is_live (step c (run cs t)).answer.rec.standing ≡ true
    → InOrder (step c (run cs t)).table (place (step c (run cs t)).table (id_of c)) (step c (run cs t)).answer.rec
shown_in_order cs t f c live = go (shows c) refl (is_done answer.verdict) refl
  where
    u : List Record
    u = (step c (run cs t)).table

    answer : Answer
    answer = (step c (run cs t)).answer

    go : (shown : Bool) → shows c ≡ shown → (done : Bool) → is_done answer.verdict ≡ done
        → InOrder u (place u (id_of c)) answer.rec
    go false e done d = absurd (not_live answer.rec (no_record_shown c (run cs t) e) live)
    go true e false d = absurd (not_live answer.rec (refused_zero c (run cs t) d).0 live)
    go true e true d =
        let same : found u (id_of c) ≡ answer.rec = shown_stands c (run cs t) e d in
        let before : known (run cs t) (id_of c) ≡ true =
        call_knows c (run cs t) (no_admission_shows c e) (accepted_only c (run cs t) d) in
        let there : known (run (cs ++ (c ∷ [])) t) (id_of c) ≡ true =
        stays_known cs (c ∷ []) t f.slots f.empty (id_of c) before in
        subst (λ (r : Record). InOrder u (place u (id_of c)) r) same
        (subst (λ (x : List Record). known x (id_of c) ≡ true → is_live (found x (id_of c)).standing ≡ true
        → InOrder x (place x (id_of c)) (found x (id_of c))) (run_one_more cs c t)
        (found_in_order (cs ++ (c ∷ [])) t f (id_of c)) (rw (run_one_more cs c t) at there)
        (ap (λ (r : Record). is_live r.standing) same ∙ live))
