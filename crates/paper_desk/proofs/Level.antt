-- Demand 2's rate: the exact comparison is the inequality of real numbers, and the rate of a level is the least
-- multiple of the step that covers the requirement and the minimum, held at the maximum.
use mathlib.Core.Path.{◌≡◌, refl, sym, ◌∙◌, ap}
use mathlib.Core.Logic.{◌⊎◌, inl, inr}
use mathlib.Core.Bool.{Bool, true, false, ◌&&◌}
use Prim.Native.Nat.{ℕ, ◌+◌, ◌-◌, ◌*◌, ◌/◌, ◌%◌, ◌≤◌, ◌<◌}
use native.Mathlib.Nat.{mul-le-mul, mul-le-mul_left, mul-le-mul_right, le_of_mul-le-mul_left, mul-pos, le_trans}
use native.Mathlib.Nat.{div-add-mod', mul-mod_left}
use native.Mathlib.Omega.{arith}
use lib.Dec.{leb, eqb, leb-zero}
use lib.IntN.{pos, sub_ℕ, ◌*ℤ◌}
use lib.Signed.{le_z}
use borrow.Author.Tests.{leb-true, le-leb, lt-leb, le-ltb, lt-ltb}
use Rattle.paper.specs.declared.Statics.{Statics}
use Rattle.paper.specs.Lists.{pick}
use Rattle.paper.specs.Least.{least_multiple}
use Rattle.paper.specs.Ranges.{valid_statics}
use Rattle.paper_desk.specs.Rates.{meets_requirement, days_of, minimum_of, covers, level_rate, AtLeastRoots}
use Rattle.paper_desk.specs.Rates.{volatile_part, liquid_part, AtLeastRequired, HeldLeast, has, volatile_need}
use Rattle.paper_desk.specs.Rates.{liquid_need, roots_within, Stepping}
use Rattle.paper.proofs.Logic.{not_true_and_false, and_left, and_right, and_both, le_or_lt}
use Rattle.paper.proofs.StaticsFacts.{StaticsFacts, statics_facts}
use Rattle.paper.proofs.Search.{Mono, multiple_holds, multiple_least, multiple_within_bound, multiple_is_multiple}
use Rattle.paper_desk.proofs.Roots.{roots_covered, Floor, root_has_floor, no_room_over_sum, no_room_over_cross}

-- ---- the comparison, without signs

-- A ≥ 0 and A² ≥ cross, with A = have - need
pub signed_test_is : (have need cross : ℕ)
    → (le_z (pos 0) (sub_ℕ have need) && le_z (pos cross) (sub_ℕ have need *ℤ sub_ℕ have need))
    ≡ (leb need have && leb cross ((have - need) * (have - need)))
signed_test_is have need cross = go (le_or_lt need have)
  where
    go : (need ≤ have) ⊎ (have < need)
        → (le_z (pos 0) (sub_ℕ have need) && le_z (pos cross) (sub_ℕ have need *ℤ sub_ℕ have need))
        ≡ (leb need have && leb cross ((have - need) * (have - need)))
    go (inl h) = rw (le-ltb have need h, le-leb need have h, leb-zero)
    go (inr h) = rw (lt-ltb have need h, lt-leb need have h)

pub meets_roots : (rh1 rh liq m tentative v : ℕ)
    → meets_requirement rh1 rh liq tentative m v
    ≡ roots_within (has rh1 v) (volatile_need rh1 rh m tentative) (liquid_need rh1 rh liq)
unfolding meets_requirement roots_within
meets_roots rh1 rh liq m tentative v =
    let x : ℕ = volatile_need rh1 rh m tentative in
    let y : ℕ = liquid_need rh1 rh liq in
    let cross : 4 * (rh * rh) * (tentative * tentative) * (liq * liq) * rh1 * (rh1 + m) ≡ 4 * x * y = omega arith in
    signed_test_is (has rh1 v) (x + y) (4 * (rh * rh) * (tentative * tentative) * (liq * liq) * rh1 * (rh1 + m))
    ∙ ap (λ (z : ℕ). leb (x + y) (has rh1 v) && leb z ((has rh1 v - (x + y)) * (has rh1 v - (x + y)))) cross

pub within_covers : (have x y : ℕ) → roots_within have x y ≡ true
    → (x + y ≤ have) × (4 * x * y ≤ (have - (x + y)) * (have - (x + y)))
unfolding roots_within
within_covers have x y e =
    (leb-true _ _ (and_left (leb (x + y) have) _ e), leb-true _ _ (and_right (leb (x + y) have) _ e))

-- more covers what less covers
pub within_more : (have have' x y : ℕ) → have ≤ have' → roots_within have x y ≡ true → roots_within have' x y ≡ true
unfolding roots_within
within_more have have' x y l e =
    let p = within_covers have x y e in
    let d : have - (x + y) ≤ have' - (x + y) = omega arith in
    and_both _ _ (le-leb (x + y) have' (omega (arith, p.0))) (le-leb (4 * x * y) _ (le_trans p.1 (mul-le-mul d d)))

pub meets_more : (rh1 rh liq m tentative v v' : ℕ) → v ≤ v' → meets_requirement rh1 rh liq tentative m v ≡ true
    → meets_requirement rh1 rh liq tentative m v' ≡ true
meets_more rh1 rh liq m tentative v v' l e =
    meets_roots rh1 rh liq m tentative v'
    ∙ within_more (has rh1 v) (has rh1 v') _ _ (mul-le-mul_right (rh1 * rh1) (mul-le-mul l l))
    (sym (meets_roots rh1 rh liq m tentative v) ∙ e)

pub covers_more : (st : Statics) (level m tentative : ℕ) → Mono (covers st tentative m level)
unfolding covers
covers_more st level m tentative v v' l e = meets_more st.rh1 (days_of st level) st.liq m tentative v v' l e

-- ---- the comparison is the inequality of real numbers

module _ (rh1 rh liq m tentative v : ℕ) (days : 0 < rh1) where
  W : ℕ
  W = v * rh1

  X : ℕ
  X = volatile_need rh1 rh m tentative

  Y : ℕ
  Y = liquid_need rh1 rh liq

  pub meets_real : meets_requirement rh1 rh liq tentative m v ≡ true
      → AtLeastRoots v (volatile_part rh1 rh tentative m) (liquid_part rh1 rh liq)
  unfolding W X Y
  meets_real e =
      let p = within_covers (has rh1 v) X Y (sym (meets_roots rh1 rh liq m tentative v) ∙ e) in
      record { bounds = λ a b d h x y. go a b d x y p }
    where
      go : (a b d : ℕ) → a * a * (rh1 * rh1) ≤ X * (d * d) → b * b * rh1 ≤ rh * (liq * liq) * (d * d)
          → (X + Y ≤ has rh1 v) × (4 * X * Y ≤ (has rh1 v - (X + Y)) * (has rh1 v - (X + Y))) → a + b ≤ v * d
      go a b d x y p =
          let sum : W * W ≡ X + Y + (has rh1 v - (X + Y)) = omega (arith, p.0) in
          let first : a * rh1 * (a * rh1) ≤ X * (d * d) = omega arith in
          let second : b * rh1 * (b * rh1) ≤ Y * (d * d) = omega (arith, mul-le-mul_left rh1 y) in
          let total : a * rh1 + b * rh1 ≤ W * d =
          roots_covered W X Y (has rh1 v - (X + Y)) (a * rh1) (b * rh1) d sum p.1 first second in
          let scaled : rh1 * (a + b) ≤ rh1 * (v * d) = omega arith in
          le_of_mul-le-mul_left scaled days

  -- two whole roots at a scale d are fractions over rh_1·d, so their sum is covered
  scaled : AtLeastRoots v (volatile_part rh1 rh tentative m) (liquid_part rh1 rh liq) → (d a b : ℕ) → 0 < d
      → Floor (X * (d * d)) a → Floor (Y * (d * d)) b → a + b ≤ W * d
  unfolding W X Y
  scaled real d a b h p q =
      let first : a * a * (rh1 * rh1) ≤ X * (rh1 * d * (rh1 * d)) =
      omega (arith, mul-le-mul_right (rh1 * rh1) p.below) in
      let second : b * b * rh1 ≤ rh * (liq * liq) * (rh1 * d * (rh1 * d)) =
      omega (arith, mul-le-mul_right rh1 q.below) in
      omega (arith, real.bounds a b (rh1 * d) (mul-pos days h) first second)

  pub real_meets : AtLeastRoots v (volatile_part rh1 rh tentative m) (liquid_part rh1 rh liq)
      → meets_requirement rh1 rh liq tentative m v ≡ true
  unfolding W X Y roots_within
  real_meets real = meets_roots rh1 rh liq m tentative v
      ∙ and_both _ _ (le-leb _ _ enough) (le-leb _ _ (cross (le_or_lt (4 * X * Y) (A * A))))
    where
      A : ℕ
      A = has rh1 v - (X + Y)

      no_less : W * W < X + Y → ⊥
      no_less l =
          let d : ℕ = 4 * W + 4 in
          let a = root_has_floor (X * (d * d)) in
          let b = root_has_floor (Y * (d * d)) in
          no_room_over_sum W X Y a.0 b.0 l a.1 b.1
          (scaled real (4 * W + 4) a.0 b.0 (omega arith) a.1 b.1)

      enough : X + Y ≤ has rh1 v
      enough = go (le_or_lt (X + Y) (has rh1 v))
        where
          go : (X + Y ≤ has rh1 v) ⊎ (has rh1 v < X + Y) → X + Y ≤ has rh1 v
          go (inl h) = h
          go (inr h) = absurd (no_less (omega arith))

      D : ℕ
      D = 2 * A * (4 * W + 4) + (4 * W + 4) + 1

      cross : (4 * X * Y ≤ A * A) ⊎ (A * A < 4 * X * Y) → 4 * X * Y ≤ A * A
      cross (inl h) = h
      cross (inr h) =
          let sum : W * W ≡ X + Y + A = omega (arith, enough) in
          let a = root_has_floor (X * (D * D)) in
          let b = root_has_floor (Y * (D * D)) in
          absurd (no_room_over_cross W X Y A D a.0 b.0 sum h refl a.1 b.1
          (scaled real D a.0 b.0 (omega arith) a.1 b.1))

-- ---- the rate of a level

pub stepping : (st : Statics) (level : ℕ) → valid_statics st ≡ true → Stepping st level
unfolding minimum_of
stepping st level v =
    record {
      low = go (eqb level 1) (eqb level 2);
      multiple = known.smax_multiple;
      minimum = whole (eqb level 1) (eqb level 2);
    }
  where
    known : StaticsFacts st
    known = statics_facts st v

    third : st.min3 ≤ st.smax
    third = known.min3_smax

    second : st.min2 ≤ st.smax
    second = le_trans known.min2_min3 third

    first : st.min1 ≤ st.smax
    first = le_trans known.min1_min2 second

    go : (x y : Bool) → pick x st.min1 (pick y st.min2 st.min3) ≤ st.smax
    go true y = first
    go false true = second
    go false false = third

    whole : (x y : Bool) → pick x st.min1 (pick y st.min2 st.min3) % st.h ≡ 0
    whole true y = known.min1_multiple
    whole false true = known.min2_multiple
    whole false false = known.min3_multiple

-- a multiple of h is its quotient times h
pub quotient_times_is : (x h : ℕ) → x % h ≡ 0 → x / h * h ≡ x
quotient_times_is x h e = omega (arith, div-add-mod' x h)

-- the rate of a level by the exact comparison
level_rate_compared : (st : Statics) (level m tentative : ℕ) → valid_statics st ≡ true
    → HeldLeast st.h (minimum_of st level) st.smax (λ w. covers st tentative m level w ≡ true)
    (level_rate st tentative m level)
unfolding level_rate
level_rate_compared st level m tentative v = go (covers st tentative m level st.smax) refl
  where
    k : Stepping st level
    k = stepping st level v

    enough : ℕ → Bool
    enough w = leb (minimum_of st level) w && covers st tentative m level w

    searched : ℕ
    searched = least_multiple st.h (st.smax / st.h) enough

    most : st.smax / st.h * st.h ≡ st.smax
    most = quotient_times_is st.smax st.h k.multiple

    go : (b : Bool) → covers st tentative m level st.smax ≡ b
        → HeldLeast st.h (minimum_of st level) st.smax (λ w. covers st tentative m level w ≡ true)
        (pick b searched st.smax)
    go true e =
        let at_most : enough (st.smax / st.h * st.h) ≡ true =
        rw most (and_both _ _ (le-leb (minimum_of st level) st.smax k.low) e) in
        let holds : enough searched ≡ true = multiple_holds st.h (st.smax / st.h) enough at_most in
        let is = multiple_is_multiple st.h (st.smax / st.h) enough in
        record {
          multiple = rw is.1 (mul-mod_left is.0 st.h);
          low = leb-true (minimum_of st level) searched (and_left (leb (minimum_of st level) searched) _ holds);
          held = omega (arith, multiple_within_bound st.h (st.smax / st.h) enough, most);
          covers_or_held = inl (and_right (leb (minimum_of st level) searched) _ holds);
          least = λ j l c. multiple_least st.h (st.smax / st.h) enough j
              (and_both _ _ (le-leb (minimum_of st level) (j * st.h) l) c);
        }
    go false e =
        record {
          multiple = k.multiple;
          low = k.low;
          held = omega arith;
          covers_or_held = inr (refl, λ c. not_true_and_false (covers st tentative m level st.smax) c e);
          least = λ j l c. over j c (le_or_lt st.smax (j * st.h));
        }
      where
        over : (j : ℕ) → covers st tentative m level (j * st.h) ≡ true
            → (st.smax ≤ j * st.h) ⊎ (j * st.h < st.smax) → st.smax ≤ j * st.h
        over j c (inl l) = l
        over j c (inr l) =
            absurd (not_true_and_false (covers st tentative m level st.smax)
            (covers_more st level m tentative (j * st.h) st.smax (omega arith) c) e)

-- what is covered exactly where something else is may stand for it
held_by : {h minimum maximum v : ℕ} {P Q : ℕ → Type 0} → ((w : ℕ) → P w → Q w) → ((w : ℕ) → Q w → P w)
    → HeldLeast h minimum maximum P v → HeldLeast h minimum maximum Q v
held_by {h} {minimum} {maximum} {v} {P} {Q} to from k =
    record {
      multiple = k.multiple;
      low = k.low;
      held = k.held;
      covers_or_held = either k.covers_or_held;
      least = λ j l c. k.least j l (from (j * h) c);
    }
  where
    either : P v ⊎ ((v ≡ maximum) × (P maximum → ⊥)) → Q v ⊎ ((v ≡ maximum) × (Q maximum → ⊥))
    either (inl c) = inl (to v c)
    either (inr (e, f)) = inr (e, λ c. f (from maximum c))

days_positive : (st : Statics) → valid_statics st ≡ true → 0 < st.rh1
days_positive st v = (statics_facts st v).rh1.least

-- With the model on, the rate of a level is the least multiple of the step that covers the requirement and the minimum,
-- held at the maximum
pub level_rate_is : (st : Statics) (level m tentative : ℕ) → valid_statics st ≡ true
    → HeldLeast st.h (minimum_of st level) st.smax (AtLeastRequired st tentative m level)
    (level_rate st tentative m level)
unfolding covers
level_rate_is st level m tentative v =
    held_by (λ w e. meets_real st.rh1 (days_of st level) st.liq m tentative w (days_positive st v) e)
    (λ w c. real_meets st.rh1 (days_of st level) st.liq m tentative w (days_positive st v) c)
    (level_rate_compared st level m tentative v)
