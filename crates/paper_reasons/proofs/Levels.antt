-- The rate of a level: the requirement, the minimum or the maximum sets it; and one comparison a step below a rate that
-- covers the requirement tells whether it is the least.
use mathlib.Core.Path.{◌≡◌, refl, sym, subst, ◌∙◌}
use mathlib.Core.Logic.{◌⊎◌, inl, inr}
use mathlib.Core.Bool.{Bool, true, false, not, ◌&&◌}
use Prim.Native.Nat.{ℕ, ◌+◌, ◌-◌, ◌*◌, ◌/◌, ◌≤◌, ◌<◌}
use native.Mathlib.Nat.{le_antisymm, mul-le-mul_right, lt_of_mul-lt-mul_right, mod-eq-sub-mod}
use native.Mathlib.Omega.{arith}
use lib.Dec.{eqb}
use borrow.Author.Tests.{eq-eqb, ne_eqb}
use Rattle.paper.specs.declared.Statics.{Statics}
use Rattle.paper.specs.Lists.{pick}
use Rattle.paper.specs.Ranges.{valid_statics}
use Rattle.paper_desk.specs.Rates.{days_of, minimum_of, covers, level_rate, AtLeastRequired, HeldLeast}
use Rattle.paper.specs.Verdicts.{NoneApplies, none, also}
use Rattle.paper.proofs.Logic.{not_true_and_false, and_both, le_or_lt, pick_true, pick_false}
use Rattle.paper.proofs.StaticsFacts.{statics_facts}
use Rattle.paper.proofs.Search.{multiple_holds, multiple_least, multiple_is_multiple}
use Rattle.paper_desk.proofs.TentativeRange.{statics_step_positive}
use Rattle.paper_desk.proofs.Level.{covers_more, meets_real, real_meets, quotient_times_is, level_rate_is}
use Rattle.paper_reasons.specs.declared.LevelReason.TheVariants as level
use Rattle.paper_reasons.specs.Reasons.{is_in_order, first_that_holds, requirement_step, level_set_by, level_reasons}
use Rattle.paper_reasons.specs.Reasons.{level_reason, TrueReason}
use Rattle.paper_reasons.proofs.First.{true_reason}

module _ (st : Statics) (v : valid_statics st ≡ true) where
  days_positive : 0 < st.rh1
  days_positive = (statics_facts st v).rh1.least

  most_whole : st.smax / st.h * st.h ≡ st.smax
  most_whole = quotient_times_is st.smax st.h (statics_facts st v).smax_multiple

  minimum_whole : (l : ℕ) → minimum_of st l / st.h * st.h ≡ minimum_of st l
  unfolding minimum_of
  minimum_whole l = go (eqb l 1) (eqb l 2)
    where
      go : (x y : Bool)
          → let minimum = pick x st.min1 (pick y st.min2 st.min3) in minimum / st.h * st.h ≡ minimum
      go true y = quotient_times_is st.min1 st.h (statics_facts st v).min1_multiple
      go false true = quotient_times_is st.min2 st.h (statics_facts st v).min2_multiple
      go false false = quotient_times_is st.min3 st.h (statics_facts st v).min3_multiple

-- with isEWMA yes
pub level_reason_is_first : (st : Statics) (l m t rate : ℕ) → st.ewma ≡ true
    → level_reason st t m l rate ≡ first_that_holds level.None (level_set_by st t m l rate) level_reasons
unfolding level_reason
level_reason_is_first st l m t rate e = pick_true st.ewma _ _ e

module _ (st : Statics) (l m t : ℕ) (v : valid_statics st ≡ true) where
  held : HeldLeast st.h (minimum_of st l) st.smax (AtLeastRequired st t m l) (level_rate st t m l)
  held = level_rate_is st l m t v

  covers_real : (w : ℕ) → covers st t m l w ≡ true → AtLeastRequired st t m l w
  unfolding covers
  covers_real w e = meets_real st.rh1 (days_of st l) st.liq m t w (days_positive st v) e

  real_covers : (w : ℕ) → AtLeastRequired st t m l w → covers st t m l w ≡ true
  unfolding covers
  real_covers w c = real_meets st.rh1 (days_of st l) st.liq m t w (days_positive st v) c

  -- where S_max covers the requirement, the rate does
  rate_covers : covers st t m l st.smax ≡ true → covers st t m l (level_rate st t m l) ≡ true
  rate_covers e = go held.covers_or_held
    where
      go : AtLeastRequired st t m l (level_rate st t m l)
          ⊎ ((level_rate st t m l ≡ st.smax) × (AtLeastRequired st t m l st.smax → ⊥))
          → covers st t m l (level_rate st t m l) ≡ true
      go (inl c) = real_covers _ c
      go (inr (q, f)) = absurd (f (covers_real _ e))

  -- and then the least multiple of h that covers it is at most the rate
  step_covers : covers st t m l st.smax ≡ true → covers st t m l (requirement_step st t m l) ≡ true
  unfolding requirement_step
  step_covers e =
      multiple_holds st.h (st.smax / st.h) (λ w. covers st t m l w) (rw (most_whole st v) e)

  step_least : (w : ℕ) → w / st.h * st.h ≡ w → covers st t m l w ≡ true → requirement_step st t m l ≤ w
  unfolding requirement_step
  step_least w whole c =
      rw (sym whole) (multiple_least st.h (st.smax / st.h) (λ w. covers st t m l w) (w / st.h) (rw whole c))

  rate_whole : level_rate st t m l / st.h * st.h ≡ level_rate st t m l
  rate_whole = quotient_times_is (level_rate st t m l) st.h held.multiple

  -- a rate that is not 0 is a step at least
  pub rate_at_least_a_step : 0 < level_rate st t m l → st.h ≤ level_rate st t m l
  rate_at_least_a_step p = go (le_or_lt 1 (level_rate st t m l / st.h))
    where
      go : (1 ≤ level_rate st t m l / st.h) ⊎ (level_rate st t m l / st.h < 1) → st.h ≤ level_rate st t m l
      go (inl k) = omega (arith, rate_whole, mul-le-mul_right st.h k)
      go (inr k) =
          let no_steps : level_rate st t m l / st.h ≡ 0 = omega arith in
          absurd (omega (arith, rw no_steps at rate_whole))

  step_whole : (j : ℕ) × (requirement_step st t m l ≡ j * st.h)
  unfolding requirement_step
  step_whole = multiple_is_multiple st.h (st.smax / st.h) (λ w. covers st t m l w)

  -- a step that is not below the minimum is the rate
  step_is_rate : covers st t m l st.smax ≡ true → minimum_of st l ≤ requirement_step st t m l
      → level_rate st t m l ≡ requirement_step st t m l
  step_is_rate e low =
      let at = step_whole in
      let below : level_rate st t m l ≤ requirement_step st t m l =
      rw at.1 (held.least at.0 (rw at.1 at low) (covers_real _ (rw at.1 at (step_covers e)))) in
      le_antisymm below (step_least _ rate_whole (rate_covers e))

  -- and below the minimum it leaves the minimum
  minimum_is_rate : covers st t m l st.smax ≡ true → requirement_step st t m l < minimum_of st l
      → level_rate st t m l ≡ minimum_of st l
  minimum_is_rate e short =
      let whole = minimum_whole st v l in
      let covered : covers st t m l (minimum_of st l) ≡ true =
      covers_more st l m t (requirement_step st t m l) (minimum_of st l) (omega arith) (step_covers e) in
      let below : level_rate st t m l ≤ minimum_of st l / st.h * st.h =
      held.least (minimum_of st l / st.h) (omega (arith, whole)) (covers_real _ (rw whole covered)) in
      omega (arith, whole, held.low)

  most_is_rate : covers st t m l st.smax ≡ false → level_rate st t m l ≡ st.smax
  unfolding level_rate
  most_is_rate e = pick_false (covers st t m l st.smax) _ _ e

  one_set_it : NoneApplies (is_in_order (level_set_by st t m l (level_rate st t m l)) level_reasons) → ⊥
  unfolding level_set_by
  one_set_it (also a (also b (also c none))) = go (covers st t m l st.smax) refl
    where
      set : covers st t m l st.smax ≡ true
          → (minimum_of st l ≤ requirement_step st t m l) ⊎ (requirement_step st t m l < minimum_of st l) → ⊥
      set e (inl low) = not_true_and_false _ (and_both _ _ e (eq-eqb _ _ (step_is_rate e low))) a
      set e (inr short) = not_true_and_false _ (eq-eqb _ _ (minimum_is_rate e short)) b

      go : (covered : Bool) → covers st t m l st.smax ≡ covered → ⊥
      go true e = set e (le_or_lt (minimum_of st l) (requirement_step st t m l))
      go false e = not_true_and_false _ (eq-eqb _ _ (most_is_rate e)) c

  pub level_named_lem : st.ewma ≡ true
      → TrueReason (level_set_by st t m l (level_rate st t m l)) level_reasons (level_reason st t m l (level_rate st t m l))
  level_named_lem ewma =
      subst (TrueReason (level_set_by st t m l (level_rate st t m l)) level_reasons)
      (sym (level_reason_is_first st l m t (level_rate st t m l) ewma))
      (true_reason level.None (level_set_by st t m l (level_rate st t m l)) level_reasons one_set_it)

  -- where neither the requirement nor the minimum set it, the maximum did
  pub maximum_left : st.ewma ≡ true → level_set_by st t m l (level_rate st t m l) level.Requirement ≡ false
      → level_set_by st t m l (level_rate st t m l) level.Minimum ≡ false
      → level.Maximum ≡ level_reason st t m l (level_rate st t m l)
  maximum_left ewma r low = go (level_set_by st t m l (level_rate st t m l) level.Maximum) refl
    where
      go : (b : Bool) → level_set_by st t m l (level_rate st t m l) level.Maximum ≡ b
          → level.Maximum ≡ level_reason st t m l (level_rate st t m l)
      go true e = sym (level_reason_is_first st l m t (level_rate st t m l) ewma ∙ rw (r, low, e))
      go false e = absurd (one_set_it (also r (also low (also e none))))

  -- ---- whether the rate is the least that covers the requirement, by a comparison a step below it

  -- the requirement set the rate
  abbrev pub by_self : Bool
  by_self = level_set_by st t m l (level_rate st t m l) level.Requirement

  pub uncovered_not_required : covers st t m l (level_rate st t m l) ≡ false → by_self ≡ false
  unfolding level_set_by
  uncovered_not_required n = go (covers st t m l st.smax) refl
    where
      go : (b : Bool) → covers st t m l st.smax ≡ b
          → (b && eqb (level_rate st t m l) (requirement_step st t m l)) ≡ false
      go true e = absurd (not_true_and_false _ (rate_covers e) n)
      go false e = refl

  module _ (covered : covers st t m l (level_rate st t m l) ≡ true) where
    most_covers : covers st t m l st.smax ≡ true
    most_covers = covers_more st l m t (level_rate st t m l) st.smax held.held covered

    step_below : requirement_step st t m l ≤ level_rate st t m l
    step_below = step_least _ rate_whole covered

    pub zero_required : level_rate st t m l ≡ 0 → by_self ≡ true
    unfolding level_set_by
    zero_required z =
        and_both _ _ most_covers (eq-eqb (level_rate st t m l) (requirement_step st t m l) (omega (arith, step_below)))

    pub a_step_below : 0 < level_rate st t m l → by_self ≡ not (covers st t m l (level_rate st t m l - st.h))
    unfolding level_set_by
    a_step_below p = go (covers st t m l (level_rate st t m l - st.h)) refl
      where
        below_whole : (level_rate st t m l - st.h) / st.h * st.h ≡ level_rate st t m l - st.h
        below_whole = quotient_times_is _ st.h (sym (mod-eq-sub-mod (rate_at_least_a_step p)) ∙ held.multiple)

        -- two multiples of h are a step apart
        apart : requirement_step st t m l < level_rate st t m l → requirement_step st t m l ≤ level_rate st t m l - st.h
        apart k =
            let at = step_whole in
            let less : at.0 * st.h < level_rate st t m l / st.h * st.h = omega (arith, rate_whole, at.1) in
            let fewer : at.0 < level_rate st t m l / st.h = lt_of_mul-lt-mul_right st.h less in
            let more : (at.0 + 1) * st.h ≤ level_rate st t m l / st.h * st.h =
            mul-le-mul_right st.h (omega arith) in
            omega (arith, rate_whole, at.1)

        go : (b : Bool) → covers st t m l (level_rate st t m l - st.h) ≡ b
            → (covers st t m l st.smax && eqb (level_rate st t m l) (requirement_step st t m l)) ≡ not b
        go true e =
            let short : requirement_step st t m l ≤ level_rate st t m l - st.h = step_least _ below_whole e in
            let differ : eqb (level_rate st t m l) (requirement_step st t m l) ≡ false =
            ne_eqb (level_rate st t m l) (requirement_step st t m l) (λ q. omega (arith, statics_step_positive st v)) in
            rw (most_covers, differ)
        go false e = rw most_covers (same (le_or_lt (level_rate st t m l) (requirement_step st t m l)))
          where
            same : (level_rate st t m l ≤ requirement_step st t m l) ⊎ (requirement_step st t m l < level_rate st t m l)
                → eqb (level_rate st t m l) (requirement_step st t m l) ≡ true
            same (inl k) = eq-eqb _ _ (le_antisymm k step_below)
            same (inr k) =
                absurd (not_true_and_false _ (covers_more st l m t _ _ (apart k) (step_covers most_covers)) e)
