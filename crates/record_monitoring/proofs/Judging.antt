-- How the rules of a quote and of a move judge: the first check that applies refuses, and where none applies the call
-- is accepted.
use mathlib.Core.Path.{◌≡◌, refl, sym}
use mathlib.Core.Bool.{Bool, true, false, not}
use mathlib.Core.List.{List, [], ◌∷◌, ◌++◌}
use Prim.Native.Nat.{ℕ, ◌<◌}
use native.Mathlib.Omega.{arith}
use lib.Dec.{ltb, eqb}
use Rattle.paper.specs.declared.Quote.{Quote}
use Rattle.paper.specs.declared.Record.{Record}
use Rattle.paper.specs.declared.Side.{Side}
use Rattle.paper.specs.declared.Side.TheVariants.{Upper, Lower}
use Rattle.paper.specs.declared.Verdict.{Verdict}
use Rattle.paper.specs.declared.Verdict.TheVariants.{MovesUsedUp, SecondEarlier, NoEveningMove}
use Rattle.paper.specs.Lists.{pick, every}
use Rattle.paper.specs.Numbers.{moves_most}
use Rattle.paper.specs.Ranges.{valid_quote, valid_side, side_of, is_live, sound}
use Rattle.paper_desk.specs.Limits.{count_of}
use Rattle.paper_desk.specs.Evening.{move_allowed}
use Rattle.paper.specs.Verdicts.{is_done, Check, first_of, NoneApplies, none, also, all_refusals}
use Rattle.paper_desk.specs.Desk.{the_alerts, quoted, moved, quoting, moving}
use Rattle.paper.proofs.Logic.{not_true_and_false, not_false, pick_false}
use Rattle.paper_desk.proofs.Refusals.{done_means_none_applies}
use Rattle.record_soundness.proofs.Facts.{sound_facts}
use Rattle.record_answers.specs.declared.Slot.{Slot}
use Rattle.record_answers.specs.declared.Effect.{Effect}
use Rattle.record_answers.specs.declared.Replied.TheVariants.{TheRecord}
use Rattle.record_answers.specs.Effects.{is_known, refused_effect, judged_effect, replied_on, effect_of}
use Rattle.std.specs.Prelude.{Result, Ok, Err, ⊤}
use Rattle.record_monitoring.specs.SharedChecks.{shared_checks, passed_by}

-- ---- quote 1, 6, 10, 11, 13; move 1, 6, 10, 11, 18, 12

-- a refusal of the first checks is that of all
first_stays : (cs more : List Check) → is_done (first_of cs) ≡ false → first_of (cs ++ more) ≡ first_of cs
unfolding first_of is_done
first_stays [] more n = absurd (not_true_and_false true refl n)
first_stays (c ∷ cs) more n = go c.applies n (first_stays cs more)
  where
    go : (b : Bool) → is_done (pick b c.verdict (first_of cs)) ≡ false
        → (is_done (first_of cs) ≡ false → first_of (cs ++ more) ≡ first_of cs)
        → pick b c.verdict (first_of (cs ++ more)) ≡ pick b c.verdict (first_of cs)
    go true m rest = refl
    go false m rest = rest m

effect_stays : (count : ℕ) (cs more : List Check) (accepted : Effect) → is_done (first_of cs) ≡ false
    → refused_effect count (first_of cs) ≡ judged_effect count (first_of (cs ++ more)) accepted
unfolding judged_effect
effect_stays count cs more accepted n =
    rw (first_stays cs more n) (sym (pick_false (is_done (first_of cs)) accepted (refused_effect count (first_of cs)) n))

-- what checks give says whether one of them applies, and which
ok_apart : {u : ⊤} {v : Verdict} → ◌≡◌ {A = Result ⊤ Verdict} (Ok u) (Err v) → ⊥
ok_apart e = let z : ◌≡◌ {A = ℕ} 0 1 = cc in omega arith

let_through : {u : ⊤} (v : Verdict) → Ok u ≡ passed_by v → is_done v ≡ true
let_through {u} v e = go (is_done v) e
  where
    go : (b : Bool) → ◌≡◌ {A = Result ⊤ Verdict} (Ok u) (pick b (Ok tt) (Err v)) → b ≡ true
    go true e = refl
    go false e = absurd (ok_apart e)

pub stopped_by : (v w : Verdict) → Err w ≡ passed_by v → (is_done v ≡ false) × (w ≡ v)
stopped_by v w e = go (is_done v) e
  where
    go : (b : Bool) → ◌≡◌ {A = Result ⊤ Verdict} (Err w) (pick b (Ok tt) (Err v)) → (b ≡ false) × (w ≡ v)
    go true e = absurd (ok_apart (sym e))
    go false e = (refl, cc)

-- 1, 6, 10 and 11 do not apply
pub record Passed (there in_range : Bool) (r : Record) : Type 0 where
  pub known : there ≡ true
  pub valid : in_range ≡ true
  pub live : is_live r.standing ≡ true
  pub monitored : r.statics.monitoring ≡ true

pub past_shared : (there in_range : Bool) (r : Record) → is_done (first_of (shared_checks there in_range r)) ≡ true
    → Passed there in_range r
unfolding shared_checks all_refusals every is_done
past_shared there in_range r e = go (done_means_none_applies (shared_checks there in_range r) refl e)
  where
    go : NoneApplies (shared_checks there in_range r) → Passed there in_range r
    go (also a (also b (also c (also d none)))) =
        record { known = not_false _ a; valid = not_false _ b; live = not_false _ c; monitored = not_false _ d }

pub passed : {there tested in_range : Bool} {r : Record} {u : ⊤} → tested ≡ in_range
    → Ok u ≡ passed_by (first_of (shared_checks there tested r)) → Passed there in_range r
passed e p = past_shared _ _ _ (let_through _ (rw e at p))

module _ (s : Slot) (q : Quote) where
  pub quote_stopped : is_done (first_of (shared_checks (is_known s) (valid_quote q) s.rec)) ≡ false
      → refused_effect s.count (first_of (shared_checks (is_known s) (valid_quote q) s.rec)) ≡ effect_of s (quoting q)
  unfolding effect_of shared_checks
  quote_stopped n =
      effect_stays s.count (shared_checks (is_known s) (valid_quote q) s.rec)
      (record { verdict = SecondEarlier; applies = ltb q.second s.rec.second } ∷ [])
      (record { at = s.at; rec = quoted s.rec q; replied = replied_on (the_alerts q) s.rec })
      n

  module _ (o : Passed (is_known s) (valid_quote q) s.rec) where
    pub quote_earlier : ltb q.second s.rec.second ≡ true → refused_effect s.count SecondEarlier
        ≡ effect_of s (quoting q)
    unfolding effect_of judged_effect first_of is_done
    quote_earlier t = rw (o.known, o.valid, o.live, o.monitored, t)

    pub quote_accepted : ltb q.second s.rec.second ≡ false
        → record { at = s.at; rec = quoted s.rec q; replied = replied_on (the_alerts q) s.rec }
        ≡ effect_of s (quoting q)
    unfolding effect_of judged_effect first_of is_done
    quote_accepted t = rw (o.known, o.valid, o.live, o.monitored, t)

module _ (s : Slot) (side : ℕ) where
  pub move_stopped : is_done (first_of (shared_checks (is_known s) (valid_side side) s.rec)) ≡ false
      → refused_effect s.count (first_of (shared_checks (is_known s) (valid_side side) s.rec)) ≡ effect_of s (moving side)
  unfolding effect_of shared_checks
  move_stopped n =
      effect_stays s.count (shared_checks (is_known s) (valid_side side) s.rec)
      (record { verdict = NoEveningMove; applies = not (move_allowed s.rec.statics s.rec.session) }
      ∷ record { verdict = MovesUsedUp; applies = eqb (count_of (side_of side) s.rec.moves) moves_most }
      ∷ [])
      (record { at = s.at; rec = moved s.rec (side_of side); replied = TheRecord })
      n

  module _ (o : Passed (is_known s) (valid_side side) s.rec) where
    pub move_not_allowed : move_allowed s.rec.statics s.rec.session ≡ false
        → refused_effect s.count NoEveningMove ≡ effect_of s (moving side)
    unfolding effect_of judged_effect first_of is_done
    move_not_allowed t = rw (t, o.known, o.valid, o.live, o.monitored)

    module _ (allowed : move_allowed s.rec.statics s.rec.session ≡ true) where
      pub move_used_up : eqb (count_of (side_of side) s.rec.moves) moves_most ≡ true
          → refused_effect s.count MovesUsedUp ≡ effect_of s (moving side)
      unfolding effect_of judged_effect first_of is_done
      move_used_up t = rw (allowed, o.known, o.valid, o.live, o.monitored, t)

      pub move_accepted : eqb (count_of (side_of side) s.rec.moves) moves_most ≡ false
          → record { at = s.at; rec = moved s.rec (side_of side); replied = TheRecord } ≡ effect_of s (moving side)
      unfolding effect_of judged_effect first_of is_done
      move_accepted t = rw (allowed, o.known, o.valid, o.live, o.monitored, t)

-- c is not 50, so a move is left
pub a_move_is_left : (r : Record) (side : Side) → sound r ≡ true → (count_of side r.moves ≡ moves_most → ⊥)
    → count_of side r.moves < moves_most
a_move_is_left r Upper v n = omega (arith, (sound_facts r v).moves_upper)
a_move_is_left r Lower v n = omega (arith, (sound_facts r v).moves_lower)
