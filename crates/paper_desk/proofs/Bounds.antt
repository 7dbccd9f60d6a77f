-- Laws of the rate rules' sizes: how far the volatility, the least step and the tentative rate go. Both sides, shares
-- and interest, use them.
use mathlib.Core.Path.{◌≡◌, ap, sym}
use mathlib.Core.Logic.{◌⊎◌, inl, inr}
use mathlib.Core.Bool.{Bool, true, false, ◌&&◌}
use Prim.Native.Nat.{ℕ, ◌+◌, ◌-◌, ◌*◌, ◌%◌, ◌≤◌, ◌<◌, min}
use native.Mathlib.Nat.{le_trans, mul-pos, mul-le-mul, mul-le-mul_left, mod_self}
use native.Mathlib.Omega.{arith}
use lib.Dec.{leb}
use borrow.Author.Tests.{le-leb, lt-leb}
use Rattle.paper.specs.declared.Model.{Model}
use Rattle.paper.specs.declared.Tentative.{Tentative}
use Rattle.paper.specs.Lists.{pick}
use Rattle.paper.specs.Numbers.{one_in_ten_thousandths, one_in_hundredths, age_most}
use Rattle.paper.specs.Least.{least_multiple}
use Rattle.paper.specs.Roundings.{up}
use Rattle.paper_desk.specs.Rates.{weight_of, weighted, replacement, replaces, volatility_of, least_step}
use Rattle.paper_desk.specs.Rates.{tentative_after, Weighing}
use Rattle.paper.proofs.Logic.{le_or_lt}
use Rattle.paper.proofs.Search.{root_least, times_least, least_unique}
use Rattle.paper.proofs.Roundings.{up_covers, up_least, quotient_low, difference_is_multiple}
use Rattle.paper_desk.proofs.Volatility.{weight_most_lem}

-- ---- the volatility

-- a mean, by weights, of squares up to a bound's is at most the bound's
pub mean_of_squares_within : (a s r most : ℕ) → a ≤ one_in_ten_thousandths → s ≤ most → r ≤ most
    → (one_in_ten_thousandths - a) * (s * s) + a * (r * r) ≤ one_in_ten_thousandths * (most * most)
mean_of_squares_within a s r most h p q =
    let all : one_in_ten_thousandths - a + a ≡ one_in_ten_thousandths = omega arith in
    omega (
      arith,
      ap (λ (z : ℕ). z * (most * most)) all,
      mul-le-mul_left (one_in_ten_thousandths - a) (mul-le-mul p p),
      mul-le-mul_left a (mul-le-mul q q),
    )

-- the root knows no maximum of its own: it is at most the greater of s and r
pub weighted_high : (a s r most : ℕ) → a ≤ one_in_ten_thousandths → s ≤ most → r ≤ most → weighted a s r ≤ most
unfolding weighted
weighted_high a s r most h p q =
    root_least one_in_ten_thousandths ((one_in_ten_thousandths - a) * (s * s) + a * (r * r)) most
    (mean_of_squares_within a s r most h p q)

pub replacement_high : (q r : ℕ) → one_in_hundredths ≤ q → replacement q r ≤ r
unfolding replacement
replacement_high q r h = times_least q (one_in_hundredths * r) r (omega (arith, mul-le-mul_left r h))

pub volatility_high : (m : Model) (b last r s most : ℕ) → Weighing m → s ≤ most → r ≤ most
    → volatility_of m b r last s ≤ most
unfolding volatility_of
volatility_high m b last r s most h p q = go (replaces m b r last x)
  where
    x : ℕ
    x = weighted (weight_of m b r s) s r

    go : (t : Bool) → pick t (replacement m.q r) x ≤ most
    go true = le_trans (replacement_high m.q r h.q) q
    go false = weighted_high (weight_of m b r s) s r most (weight_most_lem m b r s h) p q

-- ---- the least step

-- so many steps of w·h as n/(w·h) rounded up
pub up_is_step : (h w n : ℕ) → 0 < h → 0 < w → up n (w * h) * h ≡ least_step h w n
unfolding least_step least_multiple
up_is_step h w n p q = ap (λ (k : ℕ). k * h) (sym (least_unique n covers steps few (λ _. enough) fewer))
  where
    each : 0 < w * h
    each = mul-pos q p

    covers : ℕ → Bool
    covers k = leb n (w * (k * h))

    steps : ℕ
    steps = up n (w * h)

    few : steps ≤ n
    few = up_least n (w * h) n each (omega (arith, mul-le-mul_left n each))

    enough : covers steps ≡ true
    enough = le-leb n (w * (steps * h)) (omega (arith, up_covers n (w * h) each))

    fewer : (k : ℕ) → k < steps → covers k ≡ false
    fewer k l = go (le_or_lt n (w * (k * h)))
      where
        go : (n ≤ w * (k * h)) ⊎ (w * (k * h) < n) → covers k ≡ false
        go (inl c) = absurd (omega (arith, l, up_least n (w * h) k each (omega arith)))
        go (inr c) = lt-leb n (w * (k * h)) c

-- it passes n by less than a step
pub least_step_within_a_step : (h w n : ℕ) → 0 < h → 0 < w → w * least_step h w n < n + w * h
unfolding up
least_step_within_a_step h w n p q =
    let each : 0 < w * h = mul-pos q p in
    rw (← up_is_step h w n p q) (omega (arith, quotient_low (n + (w * h - 1)) (w * h) each))

pub up_within_a_step : (h w n : ℕ) → 0 < h → 0 < w → up n (w * h) * h ≤ n + w * h
up_within_a_step h w n p q =
    rw (up_is_step h w n p q) (omega (arith, least_step_within_a_step h w n p q, mul-le-mul_left (least_step h w n) q))

-- ---- the tentative rate

-- the tentative rate by its two tests
abbrev after : (h t : ℕ) → Tentative → (rise fall : Bool) → Tentative
after h t old rise fall =
    pick rise (record { bp = t; age = 0 })
    (pick fall (record { bp = old.bp - h; age = 0 }) (record { bp = old.bp; age = min age_most (old.age + 1) }))

-- it is at most what it was or t
pub tentative_held : (h wait t : ℕ) (old : Tentative) (most : ℕ) → t ≤ most → old.bp ≤ most
    → (tentative_after h wait t old).bp ≤ most
unfolding tentative_after
tentative_held h wait t old most p q = go (leb (old.bp + h) t) (leb (t + h) old.bp && leb wait (old.age + 1))
  where
    go : (rise fall : Bool) → (after h t old rise fall).bp ≤ most
    go true fall = p
    go false true = omega arith
    go false false = q

-- it is a multiple of h where both are
pub tentative_multiple : (h wait t : ℕ) (old : Tentative) → t % h ≡ 0 → old.bp % h ≡ 0
    → (tentative_after h wait t old).bp % h ≡ 0
unfolding tentative_after
tentative_multiple h wait t old p q = go (leb (old.bp + h) t) (leb (t + h) old.bp && leb wait (old.age + 1))
  where
    go : (rise fall : Bool) → (after h t old rise fall).bp % h ≡ 0
    go true fall = p
    go false true = difference_is_multiple h old.bp h q (mod_self h)
    go false false = q

-- the age is held, whatever it was
pub age_held : (h wait t : ℕ) (old : Tentative) → (tentative_after h wait t old).age ≤ age_most
unfolding tentative_after
age_held h wait t old = go (leb (old.bp + h) t) (leb (t + h) old.bp && leb wait (old.age + 1))
  where
    go : (rise fall : Bool) → (after h t old rise fall).age ≤ age_most
    go true fall = omega arith
    go false true = omega arith
    go false false = omega arith
