-- W ≥ √X + √Y on whole numbers: the test with A = W² - X - Y, A ≥ 0 and A² ≥ 4·X·Y, is the inequality of real numbers.
use mathlib.Core.Path.{◌≡◌, refl}
use mathlib.Core.Logic.{◌⊎◌, inl, inr}
use Prim.Native.Nat.{ℕ, zero, suc, ◌+◌, ◌*◌, ◌≤◌, ◌<◌}
use native.Mathlib.Nat.{mul-le-mul, mul-le-mul_right, le_of_mul-le-mul_left, mul-pos}
use native.Mathlib.Omega.{arith}
use Rattle.paper.specs.Least.{least_root}
use Rattle.paper.proofs.Logic.{le_or_lt}
use Rattle.paper.proofs.Search.{root_covers, root_least}
use Rattle.paper_desk.proofs.Drift.{le_of_squares_le}

-- ---- where the test passes, every two fractions below the roots have a sum that W covers

pub roots_covered : (W X Y A a b d : ℕ) → W * W ≡ X + Y + A → 4 * X * Y ≤ A * A → a * a ≤ X * (d * d)
    → b * b ≤ Y * (d * d) → a + b ≤ W * d
roots_covered W X Y A a b d e h p q =
    let both : (a * a) * (b * b) ≤ X * (d * d) * (Y * (d * d)) = mul-le-mul p q in
    let cross : 4 * X * Y * (d * d * (d * d)) ≤ A * A * (d * d * (d * d)) = mul-le-mul_right (d * d * (d * d)) h in
    let twice : 2 * (a * b) ≤ A * (d * d) = le_of_squares_le (2 * (a * b)) (A * (d * d)) (omega arith) in
    let whole : W * W * (d * d) ≡ (X + Y + A) * (d * d) = rw e refl in
    le_of_squares_le (a + b) (W * d) (omega arith)

-- ---- where it does not pass, two fractions have a sum above W

-- the whole root of a number, rounded down
pub record Floor (n a : ℕ) : Type 0 where
  pub below : a * a ≤ n
  pub above : n < (a + 1) * (a + 1)

pub root_has_floor : (n : ℕ) → (a : ℕ) × Floor n a
root_has_floor n = go (least_root 1 (n + 1)) (root_covers 1 (n + 1) (omega arith)) (root_least 1 (n + 1))
  where
    go : (x : ℕ) → n + 1 ≤ 1 * (x * x) → ((z : ℕ) → n + 1 ≤ 1 * (z * z) → x ≤ z) → (a : ℕ) × Floor n a
    go zero c l = absurd (omega arith)
    go (suc a) c l = (a, record { below = low (le_or_lt (a * a) n); above = omega arith })
      where
        low : (a * a ≤ n) ⊎ (n < a * a) → a * a ≤ n
        low (inl h) = h
        low (inr h) = absurd (omega (arith, l a (omega arith)))

-- two whole roots at the scale d, with their sum covered, leave little room
room : (W X Y d a b : ℕ) → Floor (X * (d * d)) a → Floor (Y * (d * d)) b → a + b ≤ W * d
    → (X + Y) * (d * d) + 2 * ((a + 1) * (b + 1)) < W * W * (d * d) + 4 * (W * d) + 4
room W X Y d a b p q s =
    let square : (a + 1 + (b + 1)) * (a + 1 + (b + 1)) ≤ (W * d + 2) * (W * d + 2) =
    mul-le-mul (omega arith) (omega arith) in
    omega (arith, p.above, q.above)

-- X + Y above W²: at the scale 4·W + 4 there is no such room
pub no_room_over_sum : (W X Y a b : ℕ) → W * W < X + Y → Floor (X * ((4 * W + 4) * (4 * W + 4))) a
    → Floor (Y * ((4 * W + 4) * (4 * W + 4))) b
    → a + b ≤ W * (4 * W + 4) → ⊥
no_room_over_sum W X Y a b l p q s =
    omega (arith, room W X Y (4 * W + 4) a b p q s, mul-le-mul_right ((4 * W + 4) * (4 * W + 4)) l)

-- A² below 4·X·Y: at the scale 2·A·F + F + 1 with F = 4·W + 4 there is none either
too_wide : (A F : ℕ) → (2 * A * F + F + 1) * (2 * A * F + F + 1) ≤ 2 * A * F * (2 * A * F + F + 1) + F * F → ⊥
too_wide A F h = omega arith

-- from squares of squares to squares: what is left of (A·d² + F·d)² when (A·d²)² is taken away
thinner : (A F d : ℕ) → 0 < d → d * d * (d * d) ≤ 2 * A * (d * d) * (F * d) + F * d * (F * d)
    → d * d ≤ 2 * A * F * d + F * F
thinner A F d h l =
    let same : d * d * (d * d) ≤ d * d * (2 * A * F * d + F * F) = omega arith in
    le_of_mul-le-mul_left same (mul-pos h h)

pub no_room_over_cross : (W X Y A d a b : ℕ) → W * W ≡ X + Y + A → A * A < 4 * X * Y
    → d ≡ 2 * A * (4 * W + 4) + (4 * W + 4) + 1 → Floor (X * (d * d)) a → Floor (Y * (d * d)) b → a + b ≤ W * d → ⊥
no_room_over_cross W X Y A d a b e l g p q s =
    let whole : W * W * (d * d) ≡ (X + Y + A) * (d * d) = rw e refl in
    let twice : 2 * ((a + 1) * (b + 1)) ≤ A * (d * d) + (4 * W + 4) * d = omega (arith, room W X Y d a b p q s) in
    let square : 2 * ((a + 1) * (b + 1)) * (2 * ((a + 1) * (b + 1))) ≤ (A * (d * d) + (4 * W + 4) * d) *
    (A * (d * d) + (4 * W + 4) * d) = mul-le-mul twice twice in
    let x : X * (d * d) ≤ (a + 1) * (a + 1) = omega (arith, p.above) in
    let y : Y * (d * d) ≤ (b + 1) * (b + 1) = omega (arith, q.above) in
    let product : X * (d * d) * (Y * (d * d)) ≤ (a + 1) * (a + 1) * ((b + 1) * (b + 1)) = mul-le-mul x y in
    let under : (A * A + 1) * (d * d * (d * d)) ≤ 4 * X * Y * (d * d * (d * d)) =
    mul-le-mul_right (d * d * (d * d)) (omega arith) in
    let left : d * d * (d * d) ≤ 2 * A * (d * d) * ((4 * W + 4) * d) + (4 * W + 4) * d * ((4 * W + 4) * d) =
    omega arith in
    let thin : d * d ≤ 2 * A * (4 * W + 4) * d + (4 * W + 4) * (4 * W + 4) =
    thinner A (4 * W + 4) d (omega arith) left in
    too_wide A (4 * W + 4) (rw g at thin)
