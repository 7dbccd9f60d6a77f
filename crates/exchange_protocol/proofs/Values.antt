-- The numbers that digits spell.
use mathlib.Core.Path.{◌≡◌, refl, sym, ap, ◌∙◌}
use mathlib.Core.List.{List, [], ◌∷◌, ◌++◌}
use Prim.Native.Nat.{ℕ, ◌+◌, ◌-◌, ◌*◌, ◌/◌, ◌^◌, ◌≤◌, ◌<◌}
use native.Mathlib.Nat.{pow-suc, one-le-pow, mul-div_cancel, mul-le-mul_left, le-mul_of_pos_right}
use native.Mathlib.Omega.{arith}
use lib.Arith.{digits_div}
use lib.ListN.{length}
use Rattle.text_bytes.specs.Bytes.{digit_zero}
use Rattle.text_bytes.specs.Spells.{Digits, no_digit, digit, value}

pub ten_pos : (k : ℕ) → 0 < 10 ^ k
ten_pos k = let h : 0 < 10 = omega arith in omega (arith, one-le-pow k 10 h)

pub value_split : (n : ℕ) (t : List ℕ) → value n t ≡ n * 10 ^ length t + value 0 t
unfolding value
value_split n [] = omega arith
value_split n (b ∷ t) =
    rw (
      value_split (10 * n + (b - digit_zero)) t,
      value_split (10 * 0 + (b - digit_zero)) t,
      pow-suc 10 (length t),
    ) (omega arith)

pub value_lt : {t : List ℕ} → Digits t → value 0 t < 10 ^ length t
unfolding value
value_lt no_digit = omega arith
value_lt (digit {b} {t} lo hi d) =
    let e : (b - digit_zero) + 1 ≤ 10 = omega arith in
    rw (value_split (10 * 0 + (b - digit_zero)) t, pow-suc 10 (length t))
    (omega (arith, value_lt d, mul-le-mul_left (10 ^ length t) e))

pub value_more : (n : ℕ) (w f : List ℕ) → value n (w ++ f) ≡ value (value n w) f
unfolding value
value_more n [] f = refl
value_more n (b ∷ w) f = value_more (10 * n + (b - digit_zero)) w f

-- a digit more makes no number less
pub value_not_below : (n : ℕ) (t : List ℕ) → n ≤ value n t
value_not_below n t = rw (value_split n t) (omega (arith, le-mul_of_pos_right n (ten_pos (length t))))

pub cancelled_equal : (a b m : ℕ) → 0 < m → a * m ≡ b * m → a ≡ b
cancelled_equal a b m h e = sym (mul-div_cancel a h) ∙ ap (λ (x : ℕ). x / m) e ∙ mul-div_cancel b h

-- a multiple of m that is q·m and less than m more is q·m
pub whole_without_rest : (a q r m : ℕ) → r < m → a * m ≡ q * m + r → (a ≡ q) × (r ≡ 0)
whole_without_rest a q r m h e =
    let p : 0 < m = omega arith in
    let s : a ≡ q = sym (mul-div_cancel a p) ∙ ap (λ (x : ℕ). x / m) e ∙ digits_div q h in
    (s, omega (arith, ap (λ (x : ℕ). x * m) s))
