-- The reasons by what is in hand are those of the paper, and what an accepted evaluation gives in hand.
use mathlib.Core.Path.{◌≡◌, refl, sym, ap, ◌∙◌}
use mathlib.Core.Bool.{Bool, true, false, ◌||◌}
use mathlib.Core.List.{List, [], ◌∷◌, map}
use Prim.Native.Nat.{ℕ, ◌+◌, ◌*◌, ◌≤◌}
use native.Mathlib.Omega.{arith}
use lib.Dec.{ltb}
use lib.IntN.{ℤ}
use lib.ListN.{get_or}
use borrow.Author.Tests.{ltb-true, ltb-false, lt-ltb}
use Rattle.paper.specs.declared.Record.{Record}
use Rattle.paper.specs.declared.Day.{Day}
use Rattle.paper.specs.declared.External.{External}
use Rattle.paper.specs.declared.Roubles.{Roubles}
use Rattle.paper.specs.declared.Rate.{Rate}
use Rattle.paper.specs.declared.Statics.{Statics}
use Rattle.paper.specs.declared.Tentative.{Tentative}
use Rattle.paper.specs.declared.Figures.{Figures}
use Rattle.paper.specs.Lists.{pick, every, some, for_levels}
use Rattle.paper.specs.Ranges.{is_price, valid_statics, valid_tentative, sound, rate_at, no_rate}
use Rattle.paper_desk.specs.Evaluation.{roubles_of, weights, row_fits, evaluation_fits, day_rows}
use Rattle.paper_desk.specs.Rates.{model_of, weight_of, weighted, tentative_rate_of, move_too_large, level_rate, modelled}
use Rattle.paper_desk.specs.Rates.{figures_of}
use Rattle.paper.specs.Numbers.{millionths_in_bp, volatility_most, ahead_most}
use Rattle.paper.specs.Verdicts.{is_done, first_of, NoneApplies, none, also, all_refusals}
use Rattle.paper_desk.specs.Desk.{used_by, price_on, move_on, figures_on, evaluated, evaluate_checks}
use Rattle.paper.proofs.Logic.{and_left, and_right, and_right_false, not_false, pick_true}
use Rattle.paper.proofs.Logic.{pick_false}
use Rattle.paper_desk.proofs.Bounds.{volatility_high}
use Rattle.paper_desk.proofs.TentativeRange.{valid_tentative_within_top, tentative_rate_in, modelled_stays}
use Rattle.paper_desk.proofs.Refusals.{done_means_none_applies}
use Rattle.evaluation.specs.Evaluation.{price_figures, priced_of}
use Rattle.record_soundness.proofs.Facts.{sound_facts}
use Rattle.inputs.proofs.Facts.{day_facts}
use Rattle.rates_level.specs.RateStatics.{tentative_bound}
use Rattle.rates_level.proofs.Statics.{within_tentative_bound}
use Rattle.rates.specs.RateRanges.{FigureRanges}
use Rattle.rates.proofs.Statics.{sound_figures_in_ranges, rates_weighing}
use Rattle.record_writing.specs.declared.figures.Made.{Made}
use Rattle.record_writing.specs.Evaluates.{move_to, figures_at, made_of}
use Rattle.record_answers.specs.declared.Slot.{Slot}
use Rattle.record_answers.specs.Effects.{is_known}
use Rattle.record_evaluation.specs.Workings.{priced_on}
use Rattle.record_answers.proofs.Tests.{known_sound}
use Rattle.record_evaluation.proofs.Evaluations.{day_valid_parts}
use Rattle.paper_reasons.specs.declared.PriceReason.{PriceReason}
use Rattle.paper_reasons.specs.declared.WeightReason.{WeightReason}
use Rattle.paper_reasons.specs.declared.WeightReason.TheVariants as weight
use Rattle.paper_reasons.specs.declared.ReplacementReason.{ReplacementReason}
use Rattle.paper_reasons.specs.declared.ReplacementReason.TheVariants as replacement
use Rattle.paper_reasons.specs.declared.TentativeReason.{TentativeReason}
use Rattle.paper_reasons.specs.declared.TentativeReason.TheVariants as tentative
use Rattle.paper_reasons.specs.declared.LevelReason.{LevelReason}
use Rattle.paper_reasons.specs.declared.Deciding.{Deciding}
use Rattle.std.specs.declared.option.Option.TheVariants.{None, Some}
use Rattle.paper_reasons.specs.Reasons.{first_that_holds, is_traded, price_set_by, price_reason, weight_given, weight_reasons}
use Rattle.paper_reasons.specs.Reasons.{weight_reason, replacement_was, replacement_reasons, replacement_reason}
use Rattle.paper_reasons.specs.Reasons.{tentative_did, tentative_reasons, tentative_reason, level_reason}
use Rattle.paper_reasons.specs.Figures.{replacement_taken}
use Rattle.paper_reasons.proofs.Figures.{won_is}
use Rattle.paper_reasons.specs.Why.{replaced_on, step_on, deciding_on, level_on, reasons_of}
use Rattle.record_reasons.specs.Reasoned.{set_by, reason_from, replaced_at, step_at, deciding_at, level_at}
use Rattle.record_reasons.specs.Reasoned.{unmodelled_with, modelled_with, reasons_at, Accepted}

-- the weights together are above 0 where some row's is
weights_traded : (rs : List Roubles) → ltb 0 (weights rs) ≡ is_traded rs
unfolding weights is_traded some
weights_traded [] = refl
weights_traded (r ∷ rs) = go (ltb 0 r.weight) refl (ltb 0 (weights rs)) refl (weights_traded rs)
  where
    go : (here : Bool) → ltb 0 r.weight ≡ here → (behind : Bool) → ltb 0 (weights rs) ≡ behind
        → ltb 0 (weights rs) ≡ is_traded rs → ltb 0 (r.weight + weights rs) ≡ (here || is_traded rs)
    go true h behind k e = lt-ltb 0 (r.weight + weights rs) (omega (arith, ltb-true 0 r.weight h))
    go false h behind k e =
        let same : r.weight + weights rs ≡ weights rs = omega (arith, ltb-false 0 r.weight h) in
        rw same e

reason_from_lem : (previous : ℕ) (used : External) (rs : List Roubles)
    → reason_from previous (price_figures previous used rs) ≡ price_reason previous used rs
unfolding reason_from price_reason set_by price_set_by price_figures
reason_from_lem previous used rs = rw (weights_traded rs)

-- THE REASONS of the rows of a day
pub reasons_are : (r : Record) (d : Day) (rows : List ℤ)
    → reasons_at r d (price_on r rows) (priced_on r rows).figures ≡ reasons_of r d rows
unfolding priced_of modelled_with reasons_of move_to move_on figures_at figures_on replaced_at replaced_on step_at step_on
    deciding_at deciding_on level_at level_on
reasons_are r d rows = rw (reason_from_lem r.p1.units (used_by r) (map roubles_of (day_rows rows)))

-- WHERE NO NUMBER APPLIES
pub accepted : (s : Slot) (d : Day) (rows : List ℤ)
    → is_done (first_of (evaluate_checks (is_known s) s.rec d rows)) ≡ true
    → Accepted s.rec d (made_of (evaluated s.rec d rows))
unfolding evaluate_checks all_refusals every is_done evaluation_fits price_on evaluated move_to move_on figures_at figures_on
accepted s d rows e = go (done_means_none_applies (evaluate_checks (is_known s) s.rec d rows) refl e)
  where
    go : NoneApplies (evaluate_checks (is_known s) s.rec d rows)
        → Accepted s.rec d (made_of (evaluated s.rec d rows))
    go (also k (also v (also c (also l (also f (also m (also b none))))))) =
        let valid = day_valid_parts d rows (not_false _ v) in
        record {
          sound_record = known_sound s (not_false _ k);
          day = valid.0;
          price =
              and_right (every row_fits (day_rows rows)) (is_price (price_on s.rec rows)) (not_false _ f);
          near = m;
          volatility = refl;
          tentative = refl;
          rates = refl;
        }

-- ---- with isEWMA yes

-- 8 does not apply, so the move is in range
pub allowed_move_within_most : (st : Statics) (r : ℕ) → st.ewma ≡ true → move_too_large st r ≡ false → r ≤ volatility_most
unfolding move_too_large
allowed_move_within_most st r on e = ltb-false volatility_most r (and_right_false st.ewma (ltb volatility_most r) e on)

-- the figures are those of the model
pub figures_modelled : (r : Record) (d : Day) (p : ℕ) → r.statics.ewma ≡ true → figures_at r d p
    ≡ modelled r.statics d.b d.m (rate_at r.rates 0) (move_to r p) r.s r.tentative
unfolding figures_at figures_of
figures_modelled r d p on = pick_true r.statics.ewma _ _ on

-- a sound record's tentative rate is in its range
tentative_valid : (r : Record) → sound r ≡ true → valid_tentative r.statics.h r.tentative.bp ≡ true
unfolding sound
tentative_valid r v = search (v, and_left, and_right) depth 40

module _ (old : Record) (d : Day) (new : Made) (a : Accepted old d new) (on : old.statics.ewma ≡ true) where
  abbrev made : Figures
  made = modelled old.statics d.b d.m (rate_at old.rates 0) (move_to old new.p1.units) old.s
      old.tentative

  is_made : figures_at old d new.p1.units ≡ made
  is_made = figures_modelled old d new.p1.units on

  pub figures_in_ranges : FigureRanges old.statics d.m (get_or old.rates 0 no_rate) old.s old.tentative
  figures_in_ranges = sound_figures_in_ranges old d.m a.sound_record (day_facts d a.day).m_most

  tentative_is : new.tentative ≡ made.tentative
  tentative_is = a.tentative ∙ ap (λ (f : Figures). f.tentative) is_made

  move_high : move_to old new.p1.units ≤ volatility_most
  move_high = allowed_move_within_most old.statics _ on a.near

  -- new s is a volatility
  pub made_volatility_high : new.s ≤ volatility_most
  unfolding modelled
  made_volatility_high =
      rw (a.volatility ∙ ap (λ (f : Figures). f.s) is_made)
      (volatility_high _ _ _ _ _ _ (rates_weighing _ figures_in_ranges.statics) figures_in_ranges.volatility
      move_high)

  -- t is in the tentative rate's range
  pub step_high : step_at old d new.p1.units ≤ tentative_bound
  unfolding step_at
  step_high =
      let st = figures_in_ranges.statics in
      within_tentative_bound st (valid_tentative_within_top _ _ (tentative_rate_in _ _ _ _ st.step_low
      st.multiplier_high move_high (rw a.volatility at made_volatility_high)))

  pub tentative_high : new.tentative.bp ≤ tentative_bound
  tentative_high =
      let stays =
      modelled_stays old.statics d.b d.m _ _ old.s old.tentative
      (sound_facts old a.sound_record).valid move_high figures_in_ranges.volatility
      (tentative_valid old a.sound_record) in
      rw tentative_is (within_tentative_bound figures_in_ranges.statics (valid_tentative_within_top _ _ stays))

  -- the rate of each level, of the tentative rate that was made
  pub rates_made : new.rates
      ≡ for_levels (λ l. record { bp = level_rate old.statics new.tentative.bp d.m l })
  unfolding modelled
  rates_made = rw tentative_is (a.rates ∙ ap (λ (f : Figures). f.rates) is_made)

  -- what is asked of each level
  pub levels_may_be_asked : ((valid_statics old.statics ≡ true) × (old.statics.ewma ≡ true))
      × ((d.m ≤ ahead_most) × (new.tentative.bp ≤ tentative_bound))
  levels_may_be_asked = (((sound_facts old a.sound_record).valid, on), (figures_in_ranges.ahead, tentative_high))

  pub rates_are_level_rates : (i : ℕ) → rate_at new.rates i
      ≡ rate_at (for_levels (λ l. record { bp = level_rate old.statics new.tentative.bp d.m l })) i
  rates_are_level_rates i = ap (λ (rs : List Rate). rate_at rs i) rates_made

-- the reason of a level, of what was made of the record
pub level_at_lem : (old : Record) (d : Day) (new : Made) → Accepted old d new → (l i : ℕ)
    → level_reason old.statics new.tentative.bp d.m l (rate_at new.rates i)
    ≡ level_at old d new.p1.units l i
unfolding level_at
level_at_lem old d new a l i = rw (a.tentative, a.rates)

-- each reason where isEWMA is yes
pub weight_by : (st : Statics) (b r s : ℕ) → st.ewma ≡ true
    → first_that_holds weight.None (weight_given b r s) weight_reasons ≡ weight_reason st b r s
unfolding weight_reason
weight_by st b r s on = sym (pick_true st.ewma _ _ on)

pub replacement_by : (st : Statics) (won : Bool) → st.ewma ≡ true
    → first_that_holds replacement.None (replacement_was won) replacement_reasons ≡ replacement_reason st won
unfolding replacement_reason
replacement_by st won on = sym (pick_true st.ewma _ _ on)

pub tentative_by : (st : Statics) (t : ℕ) (old : Tentative) → st.ewma ≡ true
    → first_that_holds tentative.None (tentative_did st.h st.wait t old) tentative_reasons ≡ tentative_reason st t old
unfolding tentative_reason
tentative_by st t old on = sym (pick_true st.ewma _ _ on)

-- ---- what the code has worked out is what was asked for

module _ (old : Record) (d : Day) (new : Made) (a : Accepted old d new) (on : old.statics.ewma ≡ true) where
  abbrev p : ℕ
  p = new.p1.units

  -- y won where it is above x
  won_at : ltb (deciding_at old d p).x (deciding_at old d p).y ≡ replaced_at old d p
  unfolding deciding_at replaced_at
  won_at = won_is (model_of old.statics) d.b (move_to old p) (millionths_in_bp * rate_at old.rates 0) old.s

  -- THE FIGURES THAT DECIDED, each from those before it
  pub deciding_is : (r x y t : ℕ) → r ≡ move_to old p
      → x ≡ weighted (weight_of (model_of old.statics) d.b r old.s) old.s r
      → y ≡ replacement_taken (model_of old.statics) d.b r (millionths_in_bp * rate_at old.rates 0)
      → t ≡ tentative_rate_of old.statics (ltb x y) r new.s
      → record { r = r; before = old.s; x = x; y = y; s = new.s; t = t } ≡ deciding_at old d p
  unfolding deciding_at step_at
  deciding_is r x y t r-is x-is y-is t_is = rw (t_is, x-is, y-is, r-is, a.volatility, ← won_at)

  -- THE REASONS, by the figures that decided
  pub modelled_is : (x : PriceReason) (f : Deciding) (w : WeightReason) (c : ReplacementReason) (k : TentativeReason)
      (level1 level2 level3 : LevelReason)
      → f ≡ deciding_at old d p
      → w ≡ first_that_holds weight.None (weight_given d.b f.r old.s) weight_reasons
      → c ≡ first_that_holds replacement.None (replacement_was (ltb f.x f.y)) replacement_reasons
      → k ≡ first_that_holds tentative.None (tentative_did old.statics.h old.statics.wait f.t old.tentative)
      tentative_reasons
      → level1 ≡ level_reason old.statics new.tentative.bp d.m 1 (rate_at new.rates 0)
      → level2 ≡ level_reason old.statics new.tentative.bp d.m 2 (rate_at new.rates 1)
      → level3 ≡ level_reason old.statics new.tentative.bp d.m 3 (rate_at new.rates 2)
      → record {
        price = x;
        weight = w;
        replacement = c;
        tentative = k;
        level1 = level1;
        level2 = level2;
        level3 = level3;
        figures = Some f;
      } ≡ modelled_with x old d p
  unfolding modelled_with deciding_at
  modelled_is x f w c k level1 level2 level3 f-is w-is c-is k_is is1 is2 is3 =
      rw (
        (rw f-is at w-is) ∙ weight_by old.statics _ _ _ on,
        (rw (f-is, won_at) at c-is) ∙ replacement_by old.statics _ on,
        (rw f-is at k_is) ∙ tentative_by old.statics _ _ on,
        is1 ∙ level_at_lem old d new a 1 0,
        is2 ∙ level_at_lem old d new a 2 1,
        is3 ∙ level_at_lem old d new a 3 2,
        ap Some f-is ∙ sym (pick_true old.statics.ewma (Some (deciding_at old d p)) None on),
      )

-- and where it is no
pub unmodelled_is : (x : PriceReason) (r : Record) (d : Day) (p : ℕ) → r.statics.ewma ≡ false
    → unmodelled_with x ≡ modelled_with x r d p
unfolding modelled_with weight_reason replacement_reason tentative_reason level_at level_reason
unmodelled_is x r d p off =
    rw (
      none_picked _ _ off,
      none_picked _ _ off,
      none_picked _ _ off,
      none_picked _ _ off,
      none_picked _ _ off,
      none_picked _ _ off,
      none_picked _ _ off,
    )
  where
    none_picked : {A : Type 0} (a b : A) → r.statics.ewma ≡ false → pick r.statics.ewma a b ≡ b
    none_picked a b e = pick_false r.statics.ewma a b e
