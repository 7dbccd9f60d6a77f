-- Numbers of either sign, lifted onto the natural ones: what W-201 rounds, and a rate, worked out from a sum that is
-- never below zero.
use mathlib.Core.Path.{◌≡◌, sym, ap, ◌∙◌}
use mathlib.Core.Logic.{◌⊎◌, inl, inr}
use Prim.Native.Nat.{ℕ, suc, ◌+◌, ◌-◌, ◌*◌, ◌≤◌, ◌<◌}
use native.Mathlib.Nat.{mul-le-mul_left, mul-le-mul_right}
use native.Mathlib.Omega.{arith}
use lib.IntN.{ℤ, pos, negsuc, nat_abs, sub_ℕ, ◌+ℤ◌, ◌*ℤ◌}
use lib.Signed.{lt_z}
use borrow.Author.Tests.{le-ltb, lt-ltb}
use mathlib.Core.Bool.{true, false}
use Rattle.paper.specs.Roundings.{half_up, half_down, half_up_z, grown, at_least_zero}
use Rattle.paper.proofs.Logic.{le_or_lt}
use Rattle.paper.proofs.Differences.{difference_is_pos, difference_is_negsuc, differences_equal, difference_times}
use Rattle.paper.proofs.Differences.{difference_order, difference_plus, whole_is_difference, negated_is}
use Rattle.paper.proofs.Roundings.{quotient_low, quotient_high, half_low, half_high, half_unique}

-- a rate is what its base with it is above the base
pub lifted_is : (base : ℕ) (x : ℤ) → nat_abs x ≤ base → x ≡ sub_ℕ (grown base 1 x) base
unfolding grown
lifted_is base (pos n) h = let same : n ≡ base + 1 * n - base = omega arith in ap pos same
    ∙ sym (difference_is_pos (base + 1 * n) base (omega arith))
lifted_is base (negsuc n) h =
    let same : n ≡ base - suc (base - 1 * suc n) = omega arith in
    ap negsuc same ∙ sym (difference_is_negsuc (base - 1 * suc n) base (omega arith))

-- of a difference, no less than 0
pub difference_at_least_zero : (a b : ℕ) → at_least_zero (sub_ℕ a b) ≡ a - b
difference_at_least_zero a b = go (le_or_lt b a)
  where
    go : (b ≤ a) ⊎ (a < b) → at_least_zero (sub_ℕ a b) ≡ a - b
    go (inl h) = ap at_least_zero (difference_is_pos a b h)
    go (inr h) = ap at_least_zero (difference_is_negsuc a b h) ∙ omega arith

-- half down: n/d - 1/2 ≤ half_down < n/d + 1/2
down_low : (n d : ℕ) → 0 < d → half_down n d * (2 * d) ≤ 2 * n + (d - 1)
unfolding half_down
down_low n d h = quotient_low (2 * n + (d - 1)) (2 * d) (omega arith)

down_high : (n d : ℕ) → 0 < d → 2 * n + (d - 1) < (half_down n d + 1) * (2 * d)
unfolding half_down
down_high n d h = quotient_high (2 * n + (d - 1)) (2 * d) (omega arith)

-- half up of n/d - k is half up of n/d, less k
pub half_shifts : (n d k : ℕ) → 0 < d → half_up_z (sub_ℕ n (k * d)) d ≡ sub_ℕ (half_up n d) k
unfolding half_up_z
half_shifts n d k h = go (le_or_lt (k * d) n)
  where
    go : (k * d ≤ n) ⊎ (n < k * d) → half_up_z (sub_ℕ n (k * d)) d ≡ sub_ℕ (half_up n d) k
    go (inl l) =
        let m : ℕ = n - k * d in
        let parts : n ≡ k * d + m = omega arith in
        let same : k + half_up m d ≡ half_up n d =
        half_unique n d (k + half_up m d) h (omega (arith, half_low m d h)) (omega (arith, half_high m d h)) in
        ap (λ (z : ℤ). half_up_z z d) (difference_is_pos n (k * d) l)
        ∙ whole_is_difference (half_up m d)
        ∙ differences_equal (half_up m d) 0 (half_up n d) k (omega arith)
    go (inr l) =
        ap (λ (z : ℤ). half_up_z z d) (difference_is_negsuc n (k * d) l)
        ∙ negated_is q
        ∙ differences_equal 0 q (half_up n d) k (omega (arith, below, same))
      where
        m : ℕ
        m = suc (k * d - suc n)

        q : ℕ
        q = half_down m d

        low : q * (2 * d) ≤ 2 * m + (d - 1)
        low = down_low m d h

        high : 2 * m + (d - 1) < (q + 1) * (2 * d)
        high = down_high m d h

        below : q ≤ k
        below = within_le (le_or_lt q k)
          where
            within_le : (q ≤ k) ⊎ (k < q) → q ≤ k
            within_le (inl a) = a
            within_le (inr a) = let more : k + 1 ≤ q = omega arith in
                absurd (omega (arith, low, mul-le-mul_right (2 * d) more))

        same : k - q ≡ half_up n d
        same =
            let parts : k ≡ q + (k - q) = omega (arith, below) in
            let times : k * d ≡ (q + (k - q)) * d = ap (λ (z : ℕ). z * d) parts in
            half_unique n d (k - q) h (omega (arith, high, times)) (omega (arith, low, times))

-- Half up is to nearest, ties up, for every n of either sign: 2·d·x ≤ 2·n + d < 2·d·(x + 1)
pub half_nearest : (n : ℤ) (d : ℕ) → 0 < d
    → (lt_z ((pos 2 *ℤ n) +ℤ pos d) (pos (2 * d) *ℤ half_up_z n d) ≡ false)
    × (lt_z ((pos 2 *ℤ n) +ℤ pos d) (pos (2 * d) *ℤ (half_up_z n d +ℤ pos 1)) ≡ true)
half_nearest n d w = (
  rw (twice, rounded, difference_times (2 * d) h k)
      (difference_order (2 * a + d) (2 * (k * d) + 0) (2 * d * h) (2 * d * k)
      ∙ le-ltb (2 * a + d + 2 * d * k) (2 * d * h + (2 * (k * d) + 0)) (omega (arith, half_low a d w))),
  rw (twice, rounded, whole_is_difference 1, difference_plus h k 1 0, difference_times (2 * d) (h + 1) (k + 0))
      (difference_order (2 * a + d) (2 * (k * d) + 0) (2 * d * (h + 1)) (2 * d * (k + 0))
      ∙ lt-ltb (2 * a + d + 2 * d * (k + 0)) (2 * d * (h + 1) + (2 * (k * d) + 0))
      (omega (arith, half_high a d w))),
)
  where
    k : ℕ
    k = nat_abs n

    -- n, and as many wholes as it may be below zero
    a : ℕ
    a = grown (k * d) 1 n

    h : ℕ
    h = half_up a d

    is : n ≡ sub_ℕ a (k * d)
    is = lifted_is (k * d) n (omega (arith, mul-le-mul_left k w))

    rounded : half_up_z n d ≡ sub_ℕ h k
    rounded = ap (λ (z : ℤ). half_up_z z d) is ∙ half_shifts a d k w

    twice : (pos 2 *ℤ n) +ℤ pos d ≡ sub_ℕ (2 * a + d) (2 * (k * d) + 0)
    twice =
        ap (λ (z : ℤ). (pos 2 *ℤ z) +ℤ pos d) is
        ∙ ap (λ (z : ℤ). z +ℤ pos d) (difference_times 2 a (k * d))
        ∙ ap (λ (z : ℤ). sub_ℕ (2 * a) (2 * (k * d)) +ℤ z) (whole_is_difference d)
        ∙ difference_plus (2 * a) (2 * (k * d)) d 0
