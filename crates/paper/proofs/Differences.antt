-- Laws of differences of either sign: what of them can be worked out in sums of naturals.
use mathlib.Core.Path.{◌≡◌, refl, sym, ap, ◌∙◌}
use mathlib.Core.Logic.{◌⊎◌, inl, inr}
use Prim.Native.Nat.{ℕ, zero, suc, ◌+◌, ◌-◌, ◌*◌, ◌≤◌, ◌<◌}
use native.Mathlib.Omega.{arith}
use lib.Dec.{ltb}
use lib.IntN.{ℤ, pos, negsuc, neg_ℤ, nat_abs, sub_ℕ, ◌+ℤ◌, ◌-ℤ◌, ◌*ℤ◌}
use lib.Signed.{lt_z}
use borrow.Author.Tests.{lt-ltb, le-ltb}
use Rattle.paper.specs.Roundings.{apart}
use Rattle.paper.proofs.Logic.{le_or_lt}

-- a - b where b is no more than a, and where it is more
pub difference_is_pos : (a b : ℕ) → b ≤ a → sub_ℕ a b ≡ pos (a - b)
difference_is_pos a b h = rw (le-ltb a b h)

pub difference_is_negsuc : (a b : ℕ) → a < b → sub_ℕ a b ≡ negsuc (b - suc a)
difference_is_negsuc a b h = rw (lt-ltb a b h)

pub negated_is : (n : ℕ) → neg_ℤ (pos n) ≡ sub_ℕ 0 n
negated_is zero = refl
negated_is (suc n) =
    let same : n ≡ suc n - 1 = omega arith in
    ap negsuc same ∙ sym (difference_is_negsuc 0 (suc n) (omega arith))

-- -1 - n
pub minus_one_less_is_negsuc : (n : ℕ) → negsuc 0 -ℤ pos n ≡ negsuc n
minus_one_less_is_negsuc zero = refl
minus_one_less_is_negsuc (suc n) = ap negsuc (omega arith)

-- a - b is c - d where a + d is c + b
pub differences_equal : (a b c d : ℕ) → a + d ≡ c + b → sub_ℕ a b ≡ sub_ℕ c d
differences_equal a b c d e = go (le_or_lt b a)
  where
    go : (b ≤ a) ⊎ (a < b) → sub_ℕ a b ≡ sub_ℕ c d
    go (inl h) =
        let same : a - b ≡ c - d = omega arith in
        difference_is_pos a b h ∙ ap pos same ∙ sym (difference_is_pos c d (omega arith))
    go (inr h) =
        let same : b - suc a ≡ d - suc c = omega arith in
        difference_is_negsuc a b h ∙ ap negsuc same ∙ sym (difference_is_negsuc c d (omega arith))

-- m·(a - b) is m·a - m·b
pub difference_times : (m a b : ℕ) → pos m *ℤ sub_ℕ a b ≡ sub_ℕ (m * a) (m * b)
difference_times m a b = go (le_or_lt b a)
  where
    go : (b ≤ a) ⊎ (a < b) → pos m *ℤ sub_ℕ a b ≡ sub_ℕ (m * a) (m * b)
    go (inl h) =
        let parts : m * a ≡ m * (b + (a - b)) = ap (λ (z : ℕ). m * z) (omega arith) in
        let same : m * (a - b) ≡ m * a - m * b = omega arith in
        ap (λ (z : ℤ). pos m *ℤ z) (difference_is_pos a b h) ∙ ap pos same
        ∙ sym (difference_is_pos (m * a) (m * b) (omega arith))
    go (inr h) =
        let parts : m * b ≡ m * (a + suc (b - suc a)) = ap (λ (z : ℕ). m * z) (omega arith) in
        ap (λ (z : ℤ). pos m *ℤ z) (difference_is_negsuc a b h)
        ∙ negated_is (m * suc (b - suc a))
        ∙ differences_equal 0 (m * suc (b - suc a)) (m * a) (m * b) (omega arith)

-- a - b < c - d is a + d < c + b
pub difference_order : (a b c d : ℕ) → lt_z (sub_ℕ a b) (sub_ℕ c d) ≡ ltb (a + d) (c + b)
difference_order a b c d = go (le_or_lt b a) (le_or_lt d c) (le_or_lt (c + b) (a + d))
  where
    go : (b ≤ a) ⊎ (a < b) → (d ≤ c) ⊎ (c < d) → (c + b ≤ a + d) ⊎ (a + d < c + b)
        → lt_z (sub_ℕ a b) (sub_ℕ c d) ≡ ltb (a + d) (c + b)
    go (inl h) (inl k) (inl l) =
        rw (le-ltb a b h, le-ltb c d k, le-ltb (a + d) (c + b) l) (le-ltb (a - b) (c - d) (omega arith))
    go (inl h) (inl k) (inr l) =
        rw (le-ltb a b h, le-ltb c d k, lt-ltb (a + d) (c + b) l) (lt-ltb (a - b) (c - d) (omega arith))
    go (inl h) (inr k) (inl l) = rw (le-ltb a b h, lt-ltb c d k, le-ltb (a + d) (c + b) l)
    go (inl h) (inr k) (inr l) = absurd (omega arith)
    go (inr h) (inl k) (inl l) = absurd (omega arith)
    go (inr h) (inl k) (inr l) = rw (lt-ltb a b h, le-ltb c d k, lt-ltb (a + d) (c + b) l)
    go (inr h) (inr k) (inl l) =
        rw (lt-ltb a b h, lt-ltb c d k, le-ltb (a + d) (c + b) l) (le-ltb (d - suc c) (b - suc a) (omega arith))
    go (inr h) (inr k) (inr l) =
        rw (lt-ltb a b h, lt-ltb c d k, lt-ltb (a + d) (c + b) l) (lt-ltb (d - suc c) (b - suc a) (omega arith))

-- m·(a - b) < w·(c - d) is m·a + w·d < m·b + w·c
pub share_order : (m w a b c d : ℕ) → lt_z (pos m *ℤ sub_ℕ a b) (pos w *ℤ sub_ℕ c d) ≡ ltb (m * a + w * d) (m * b + w * c)
share_order m w a b c d =
    rw (difference_times m a b, difference_times w c d)
    (difference_order (m * a) (m * b) (w * c) (w * d) ∙ ap (λ (z : ℕ). ltb (m * a + w * d) z) (omega arith))

-- -(a - b) is b - a
pub difference_turned : (a b : ℕ) → neg_ℤ (sub_ℕ a b) ≡ sub_ℕ b a
difference_turned a b = go (le_or_lt b a)
  where
    go : (b ≤ a) ⊎ (a < b) → neg_ℤ (sub_ℕ a b) ≡ sub_ℕ b a
    go (inl h) = ap neg_ℤ (difference_is_pos a b h) ∙ negated_is (a - b) ∙ differences_equal 0 (a - b) b a (omega arith)
    go (inr h) =
        let same : suc (b - suc a) ≡ b - a = omega arith in
        ap neg_ℤ (difference_is_negsuc a b h) ∙ ap pos same ∙ sym (difference_is_pos b a (omega arith))

-- (a - b) + (c - d) is (a + c) - (b + d)
pub difference_plus : (a b c d : ℕ) → sub_ℕ a b +ℤ sub_ℕ c d ≡ sub_ℕ (a + c) (b + d)
difference_plus a b c d = go (le_or_lt b a) (le_or_lt d c)
  where
    go : (b ≤ a) ⊎ (a < b) → (d ≤ c) ⊎ (c < d) → sub_ℕ a b +ℤ sub_ℕ c d ≡ sub_ℕ (a + c) (b + d)
    go (inl h) (inl k) =
        let same : a - b + (c - d) ≡ a + c - (b + d) = omega arith in
        rw (difference_is_pos a b h, difference_is_pos c d k)
        (ap pos same ∙ sym (difference_is_pos (a + c) (b + d) (omega arith)))
    go (inl h) (inr k) =
        rw (difference_is_pos a b h, difference_is_negsuc c d k)
        (differences_equal (a - b) (suc (d - suc c)) (a + c) (b + d) (omega arith))
    go (inr h) (inl k) =
        rw (difference_is_negsuc a b h, difference_is_pos c d k)
        (differences_equal (c - d) (suc (b - suc a)) (a + c) (b + d) (omega arith))
    go (inr h) (inr k) =
        let same : suc (b - suc a + (d - suc c)) ≡ b + d - suc (a + c) = omega arith in
        rw (difference_is_negsuc a b h, difference_is_negsuc c d k) (ap negsuc same
        ∙ sym (difference_is_negsuc (a + c) (b + d) (omega arith)))

-- (a - b) - (c - d) is (a + d) - (b + c)
pub difference_minus : (a b c d : ℕ) → sub_ℕ a b -ℤ sub_ℕ c d ≡ sub_ℕ (a + d) (b + c)
difference_minus a b c d = ap (λ (z : ℤ). sub_ℕ a b +ℤ z) (difference_turned c d) ∙ difference_plus a b d c

-- |a - b|
pub difference_size_is_apart : (a b : ℕ) → nat_abs (sub_ℕ a b) ≡ apart a b
unfolding apart
difference_size_is_apart a b = go (le_or_lt b a)
  where
    go : (b ≤ a) ⊎ (a < b) → nat_abs (sub_ℕ a b) ≡ a - b + (b - a)
    go (inl h) = ap nat_abs (difference_is_pos a b h) ∙ omega arith
    go (inr h) = ap nat_abs (difference_is_negsuc a b h) ∙ omega arith

-- a natural number is a difference
pub whole_is_difference : (n : ℕ) → pos n ≡ sub_ℕ n 0
whole_is_difference n = let same : n ≡ n - 0 = omega arith in ap pos same ∙ sym (difference_is_pos n 0 (omega arith))

-- ---- sizes

-- a - b is no further from 0 than a and b together
difference_within : (a b : ℕ) → nat_abs (sub_ℕ a b) ≤ a + b
unfolding apart
difference_within a b = omega (arith, difference_size_is_apart a b)

-- neither is a sum or a difference of two numbers of either sign
pub sum_size_within : (x y : ℤ) → nat_abs (x +ℤ y) ≤ nat_abs x + nat_abs y
sum_size_within (pos a) (pos b) = omega arith
sum_size_within (pos a) (negsuc b) = difference_within a (suc b)
sum_size_within (negsuc a) (pos b) = omega (arith, difference_within b (suc a))
sum_size_within (negsuc a) (negsuc b) = omega arith

pub minus_size_within : (x y : ℤ) → nat_abs (x -ℤ y) ≤ nat_abs x + nat_abs y
minus_size_within x y = rw (← negated_size y) (sum_size_within x (neg_ℤ y))
  where
    negated_size : (y : ℤ) → nat_abs (neg_ℤ y) ≡ nat_abs y
    negated_size (pos zero) = refl
    negated_size (pos (suc n)) = refl
    negated_size (negsuc n) = refl
