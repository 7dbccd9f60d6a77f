-- Laws of the least rate that reaches a level's requirement.
use mathlib.Core.Path.{◌≡◌, refl, ap, sym, subst, ◌∙◌}
use mathlib.Core.Logic.{◌⊎◌, inl, inr}
use mathlib.Core.Bool.{Bool, true, false, ◌&&◌, ◌||◌}
use Prim.Native.Nat.{ℕ, ◌+◌, ◌-◌, ◌*◌, ◌/◌, ◌%◌, ◌≤◌, ◌<◌, min, max}
use native.Mathlib.Nat.{mul-le-mul, mul-le-mul_right, mul-lt-mul_of_pos_right, add-le-add, le_dest, le_of_lt}
use native.Mathlib.Nat.{le_antisymm, le-div_iff_mul-le, mul-mod_left}
use native.Mathlib.Omega.{arith}
use lib.Dec.{leb}
use borrow.Author.Tests.{leb-true, le-leb, lt-leb}
use Rattle.paper.specs.declared.Statics.{Statics}
use Rattle.paper.specs.Lists.{pick}
use Rattle.paper.specs.Least.{least, least_multiple}
use Rattle.paper.specs.Numbers.{ahead_most, first_days_most, liquidity_most}
use Rattle.paper_desk.specs.Rates.{days_of, minimum_of, covers, level_rate}
use Rattle.paper.proofs.Logic.{not_true_and_false, and_left, and_right, and_both, not_true, pick_true, pick_false}
use Rattle.paper.proofs.Logic.{le_or_lt}
use Rattle.paper_desk.proofs.Level.{meets_roots, within_more, covers_more, quotient_times_is}
use Rattle.paper.proofs.Search.{Mono, Between, between_below_hit, between_above_miss, between_one_is_least}
use Rattle.paper.proofs.Search.{least_bound, least_monotone, multiple_holds_or_is_last, multiple_within_bound}
use Rattle.rates_level.specs.declared.Level.{Level}
use Rattle.rates_level.specs.declared.Squares.{Squares}
use Rattle.rates_level.specs.RateStatics.{RateStatics, tentative_bound}
use Rattle.rates_level.specs.Level.{level_of, squares_of, reaches, reach_most, least_reach, Sought, covers_by}
use Rattle.rates_level.specs.Level.{least_rate, Tried, enough, no_less}
use Rattle.rates_level.proofs.Statics.{level_statics}

-- ---- the comparison

-- four times a product is at most the square of the sum
pub four_products_below_square : (a b : ℕ) → 4 * (a * b) ≤ (a + b) * (a + b)
four_products_below_square a b = either (le_or_lt a b)
  where
    apart_by : (x d : ℕ) → 4 * (x * (x + d)) ≤ (x + (x + d)) * (x + (x + d))
    apart_by x d = omega arith

    ordered : (x y : ℕ) → x ≤ y → 4 * (x * y) ≤ (x + y) * (x + y)
    ordered x y h = subst (λ (z : ℕ). 4 * (x * z) ≤ (x + z) * (x + z)) (le_dest h).1 (apart_by x (le_dest h).0)

    either : (a ≤ b) ⊎ (b < a) → 4 * (a * b) ≤ (a + b) * (a + b)
    either (inl h) = ordered a b h
    either (inr h) = omega (arith, ordered b a (le_of_lt h))

-- a rate covers the requirement exactly where, times rh_1, it reaches the two roots
pub reaches_is_covers : (st : Statics) (level m tentative v : ℕ)
    → covers_by st.rh1 (level_of st level) (squares_of st m tentative) v ≡ covers st tentative m level v
unfolding reaches covers
reaches_is_covers st level m tentative v =
    let rh1 = st.rh1 in
    let rh = days_of st level in
    let liq = st.liq in
    let square : v * rh1 * (v * rh1) ≡ v * v * (rh1 * rh1) = omega arith in
    let volatile : rh * (tentative * tentative * (rh1 + m)) ≡ rh * (tentative * tentative) * (rh1 + m) = omega arith in
    let liquid : rh * (rh1 * (liq * liq)) ≡ rh * rh1 * (liq * liq) = omega arith in
    rw (square, volatile, liquid) (sym (meets_roots rh1 rh liq m tentative v))

-- more reaches too
pub reaches_monotone : (x y a b : ℕ) → x ≤ y → reaches x a b ≡ true → reaches y a b ≡ true
unfolding reaches
reaches_monotone x y a b h e = within_more (x * x) (y * y) a b (mul-le-mul h h) e

-- ---- the search

-- the test of the search, once passed, stays passed
reach_monotone : (low step a b : ℕ) → Mono (λ k. leb low k && reaches (k * step) a b)
reach_monotone low step a b x y h e =
    let from : low ≤ x = leb-true _ _ (and_left (leb low x) _ e) in
    and_both _ _ (le-leb low y (omega arith))
    (reaches_monotone (x * step) (y * step) a b (mul-le-mul_right step h) (and_right (leb low x) _ e))

-- what a search by halves keeps: the number is from `from` to `to`
pub record Halved (low high step a b from to : ℕ) : Type 0 where
  pub above : low ≤ from
  pub between : Between (λ k. leb low k && reaches (k * step) a b) high from to

pub halved_start : (low high step a b : ℕ) → low ≤ high → Halved low high step a b low high
halved_start low high step a b h =
    record {
      above = omega arith;
      between =
          record {
            order = h;
            inside = omega arith;
            before = λ z l. rw (lt-leb low z l);
            here =
                λ l. absurd (omega arith);
          };
    }

-- a test between the two takes one of them to its place
module _ (low high step a b from to k : ℕ) (h : Halved low high step a b from to) (u : from ≤ k) (v : k < to) where
  tested : (t : Bool) → reaches (k * step) a b ≡ t → (leb low k && reaches (k * step) a b) ≡ t
  tested t e = let l : low ≤ k = omega arith in rw (le-leb low k l) e

  pub halved_hit : reaches (k * step) a b ≡ true → Halved low high step a b from k
  halved_hit e =
      record { above = h.above; between = between_below_hit _ high from to k h.between u v (tested true e) }

  pub halved_miss : reaches (k * step) a b ≡ false → Halved low high step a b (k + 1) to
  halved_miss e =
      record {
        above = omega arith;
        between = between_above_miss _ high from to k (reach_monotone low step a b) h.between v (tested false e);
      }

pub halved_end_is_least_reach : (low high step a b from to : ℕ) → Halved low high step a b from to → to ≤ from
    → from ≡ least_reach low high step a b
unfolding least_reach
halved_end_is_least_reach low high step a b from to h e = sym (between_one_is_least _ high from to h.between e)

-- ---- what it finds is the rate of the level

-- tests that agree find the same number
least_same : (bound : ℕ) (p q : ℕ → Bool) → ((z : ℕ) → p z ≡ q z) → least bound p ≡ least bound q
least_same bound p q f =
    le_antisymm (least_monotone bound p q (λ z e. f z ∙ e)) (least_monotone bound q p (λ z e. sym (f z) ∙ e))

-- where S_max does not cover, no multiple below it does: the search alone gives the rate
least_multiple_is_level_rate : (st : Statics) (level m tentative : ℕ) → st.smax % st.h ≡ 0
    → least_multiple st.h (st.smax / st.h) (λ v. leb (minimum_of st level) v && covers st tentative m level v)
    ≡ level_rate st tentative m level
unfolding level_rate
least_multiple_is_level_rate st level m tentative e = go (covers st tentative m level st.smax) refl
  where
    passes : ℕ → Bool
    passes v = leb (minimum_of st level) v && covers st tentative m level v

    rate : ℕ
    rate = least_multiple st.h (st.smax / st.h) passes

    go : (t : Bool) → covers st tentative m level st.smax ≡ t
        → rate ≡ pick (covers st tentative m level st.smax) rate st.smax
    go true p = sym (pick_true (covers st tentative m level st.smax) rate st.smax p)
    go false p = none (multiple_holds_or_is_last st.h (st.smax / st.h) passes)
        ∙ sym (pick_false (covers st tentative m level st.smax) rate st.smax p)
      where
        most : st.smax / st.h * st.h ≡ st.smax
        most = quotient_times_is st.smax st.h e

        below : rate ≤ st.smax
        below = omega (arith, most, multiple_within_bound st.h (st.smax / st.h) passes)

        none : (rate ≡ st.smax / st.h * st.h) ⊎ (passes rate ≡ true) → rate ≡ st.smax
        none (inl q) = q ∙ most
        none (inr q) =
            absurd (not_true_and_false (covers st tentative m level st.smax)
            (covers_more st level m tentative rate st.smax below (and_right (leb (minimum_of st level) rate) _ q)) p)

-- a number of steps is at least the minimum's where it is, in steps, at least the minimum
steps_from : (x h k : ℕ) → 0 < h → x % h ≡ 0 → leb (x / h) k ≡ leb x (k * h)
steps_from x h k p e = go (le_or_lt (x / h) k)
  where
    exact : x / h * h ≡ x
    exact = quotient_times_is x h e

    go : (x / h ≤ k) ⊎ (k < x / h) → leb (x / h) k ≡ leb x (k * h)
    go (inl l) = le-leb (x / h) k l ∙ sym (le-leb x (k * h) (omega (arith, exact, mul-le-mul_right h l)))
    go (inr l) = lt-leb (x / h) k l ∙ sym (lt-leb x (k * h) (omega (arith, exact, mul-lt-mul_of_pos_right l p)))

pub least_rate_is_level_rate : (st : Statics) (level m tentative : ℕ) → RateStatics st
    → least_rate st.h st.rh1 st.smax (level_of st level) (squares_of st m tentative)
    ≡ level_rate st tentative m level
unfolding least_reach least_multiple
least_rate_is_level_rate st level m tentative r =
    ap (λ (k : ℕ). k * st.h) (least_same (st.smax / st.h) _ _ same)
    ∙ least_multiple_is_level_rate st level m tentative r.most_multiple
  where
    own : Level
    own = level_of st level

    s : Squares
    s = squares_of st m tentative

    same : (k : ℕ)
        → (leb (minimum_of st level / st.h) k
        && reaches (k * (st.h * st.rh1)) (own.days * s.tentative) (own.days * s.liquidity))
        ≡ (leb (minimum_of st level) (k * st.h) && covers st tentative m level (k * st.h))
    same k =
        let step : k * (st.h * st.rh1) ≡ k * st.h * st.rh1 = omega arith in
        rw (
          step,
          steps_from (minimum_of st level) st.h k r.step_low (level_statics st level r).2,
          reaches_is_covers st level m tentative (k * st.h),
        )

pub least_rate_within_most : (h rh1 smax : ℕ) (own : Level) (s : Squares) → smax % h ≡ 0
    → least_rate h rh1 smax own s ≤ smax
unfolding least_reach
least_rate_within_most h rh1 smax own s e =
    let bound = least_bound (smax / h) (λ k. leb (own.minimum.bp / h) k && covers_by (h * rh1) own s k) in
    omega (arith, quotient_times_is smax h e, mul-le-mul_right h bound)

-- "S_max if the requirement exceeds it": no rate is above it
pub level_rate_within_most : (st : Statics) (level m tentative : ℕ) → RateStatics st
    → level_rate st tentative m level ≤ st.smax
level_rate_within_most st level m tentative r =
    rw (← least_rate_is_level_rate st level m tentative r)
    (least_rate_within_most st.h st.rh1 _ (level_of st level) (squares_of st m tentative) r.most_multiple)

-- ---- what the search is given

-- the squares at their most
pub record SquareSizes (rh1 liq m tentative : ℕ) : Type 0 where
  pub tentative_square : tentative * tentative ≤ tentative_bound * tentative_bound
  pub tentative_days : tentative * tentative * (rh1 + m) ≤ tentative_bound * tentative_bound * (first_days_most + ahead_most)
  pub liquidity_square : liq * liq ≤ liquidity_most * liquidity_most
  pub liquidity_days : rh1 * (liq * liq) ≤ first_days_most * (liquidity_most * liquidity_most)

module _ (st : Statics) (m tentative : ℕ) (r : RateStatics st) (n : m ≤ ahead_most) (t : tentative ≤ tentative_bound)
  where
    pub square_sizes : SquareSizes st.rh1 st.liq m tentative
    square_sizes =
        let squared = mul-le-mul t t in
        let liquid = mul-le-mul r.liquidity_high r.liquidity_high in
        record {
          tentative_square = squared;
          tentative_days = mul-le-mul squared (add-le-add r.first_high n);
          liquidity_square = liquid;
          liquidity_days = mul-le-mul r.first_high liquid;
        }

    pub level_is_sought : (level : ℕ)
        → Sought st.h st.rh1 st.smax (level_of st level) (squares_of st m tentative)
    level_is_sought level =
        let own = level_statics st level r in
        record {
          step_low = r.step_low;
          step_high = r.step_high;
          first_high = r.first_high;
          most_high = r.most_high;
          most_multiple = r.most_multiple;
          minimum_high = own.1;
          minimum_multiple = own.2;
          tentative_high = omega (arith, mul-le-mul own.0 square_sizes.tentative_days);
          liquidity_high = omega (arith, mul-le-mul own.0 square_sizes.liquidity_days);
        }

-- the numbers of steps that the search is given are in order, and reach no further than a rate may
pub steps_within_reach : (h rh1 smax : ℕ) (own : Level) (s : Squares) → Sought h rh1 smax own s
    → (own.minimum.bp / h ≤ smax / h) × (smax / h * (h * rh1) ≤ reach_most)
steps_within_reach h rh1 smax own s g =
    let top = quotient_times_is smax h g.most_multiple in
    let low = quotient_times_is own.minimum.bp h g.minimum_multiple in
    let same : smax / h * (h * rh1) ≡ smax / h * h * rh1 = omega arith in (
      (le-div_iff_mul-le {k = h} {x = own.minimum.bp / h} {y = smax} g.step_low).1
          (omega (arith, low, g.minimum_high)),
      rw (same, top) (mul-le-mul g.most_high g.first_high),
    )

-- ---- a guess that is tried from both sides is the rate (W-214)

-- a number of steps is the least that reaches where it does or is the last, and one less does not or is before the
-- first
tried_is_least_reach : (low high step a b k : ℕ) → low ≤ k → k ≤ high → (k < high → reaches (k * step) a b ≡ true)
    → (low < k → reaches ((k - 1) * step) a b ≡ false) → k ≡ least_reach low high step a b
tried_is_least_reach low high step a b k l h hit miss = from (le_or_lt k low)
  where
    up : Halved low high step a b k high → k ≡ least_reach low high step a b
    up x = go (le_or_lt high k)
      where
        go : (high ≤ k) ⊎ (k < high) → k ≡ least_reach low high step a b
        go (inl e) = halved_end_is_least_reach low high step a b k high x e
        go (inr e) =
            halved_end_is_least_reach low high step a b k k
            (halved_hit low high step a b k high k x (omega arith) e (hit e))
            (omega arith)

    from : (k ≤ low) ⊎ (low < k) → k ≡ least_reach low high step a b
    from (inl e) =
        let same : k ≡ low = omega arith in
        up (rw same (halved_start low high step a b (omega arith)))
    from (inr e) =
        let next : k - 1 + 1 ≡ k = omega arith in
        up (rw next at (halved_miss low high step a b low high (k - 1) (halved_start low high step a b (omega arith))
        (omega arith) (omega arith) (miss e)))

or_right : (a b : Bool) → a ≡ false → (a || b) ≡ true → b ≡ true
or_right true b p e = absurd (not_true_and_false true refl p)
or_right false b p e = e

pub tried_is_least_rate : (h rh1 smax : ℕ) (own : Level) (s : Squares) (v : ℕ) → Sought h rh1 smax own s
    → Tried h smax own v → enough rh1 smax own s v ≡ true → no_less h rh1 own s v ≡ true
    → v ≡ least_rate h rh1 smax own s
tried_is_least_rate h rh1 smax own s v g t e n =
    sym whole ∙ ap (λ (z : ℕ). z * h) (tried_is_least_reach low high step a b k low_k k_high hit miss)
  where
    a : ℕ
    a = own.days * s.tentative

    b : ℕ
    b = own.days * s.liquidity

    k : ℕ
    k = v / h

    low : ℕ
    low = own.minimum.bp / h

    high : ℕ
    high = smax / h

    step : ℕ
    step = h * rh1

    whole : k * h ≡ v
    whole = quotient_times_is v h t.multiple

    low_whole : low * h ≡ own.minimum.bp
    low_whole = quotient_times_is own.minimum.bp h g.minimum_multiple

    high_whole : high * h ≡ smax
    high_whole = quotient_times_is smax h g.most_multiple

    low_k : low ≤ k
    low_k = (le-div_iff_mul-le {k = h} {x = low} {y = v} g.step_low).1 (omega (arith, low_whole, t.low))

    k_high : k ≤ high
    k_high = (le-div_iff_mul-le {k = h} {x = k} {y = smax} g.step_low).1 (omega (arith, whole, t.high))

    hit : k < high → reaches (k * step) a b ≡ true
    hit l =
        let below : v < smax = omega (arith, whole, high_whole, mul-lt-mul_of_pos_right l g.step_low) in
        let same : k * step ≡ v * rh1 = omega (arith, ap (λ (z : ℕ). z * rh1) whole) in
        rw same (or_right (leb smax v) _ (lt-leb smax v below) e)

    miss : low < k → reaches ((k - 1) * step) a b ≡ false
    miss l =
        let above : own.minimum.bp < v =
        omega (arith, whole, low_whole, mul-lt-mul_of_pos_right l g.step_low) in
        let less : ℕ = k - 1 in
        let next : k ≡ less + 1 = omega arith in
        let times : k * h ≡ (less + 1) * h = ap (λ (z : ℕ). z * h) next in
        let step_less : less * h ≡ v - h = omega (arith, whole) in
        let same : less * step ≡ (v - h) * rh1 = omega (arith, ap (λ (z : ℕ). z * rh1) step_less) in
        rw same (not_true _ (or_right (leb v own.minimum.bp) _ (lt-leb v own.minimum.bp above) n))

-- the greater and the lesser of two multiples are multiples
greater_is_multiple : (h x y : ℕ) → x % h ≡ 0 → y % h ≡ 0 → max x y % h ≡ 0
greater_is_multiple h x y p q = go (le_or_lt x y)
  where
    go : (x ≤ y) ⊎ (y < x) → max x y % h ≡ 0
    go (inl l) = let e : max x y ≡ y = omega arith in rw e q
    go (inr l) = let e : max x y ≡ x = omega arith in rw e p

lesser_is_multiple : (h x y : ℕ) → x % h ≡ 0 → y % h ≡ 0 → min x y % h ≡ 0
lesser_is_multiple h x y p q = go (le_or_lt x y)
  where
    go : (x ≤ y) ⊎ (y < x) → min x y % h ≡ 0
    go (inl l) = let e : min x y ≡ x = omega arith in rw e p
    go (inr l) = let e : min x y ≡ y = omega arith in rw e q

pub held_is_tried : (h rh1 smax : ℕ) (own : Level) (s : Squares) (steps : ℕ) → Sought h rh1 smax own s
    → Tried h smax own (max own.minimum.bp (min smax (steps * h)))
held_is_tried h rh1 smax own s steps g =
    let least = own.minimum.bp in
    record {
      multiple =
          greater_is_multiple h least (min smax (steps * h)) g.minimum_multiple
          (lesser_is_multiple h smax (steps * h) g.most_multiple (mul-mod_left steps h));
      low = omega arith;
      high = omega (arith, g.minimum_high);
    }
