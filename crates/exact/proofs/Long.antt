-- The long division of `divide_product`, on plain numbers: the quotient and the rest that it makes give the product
-- again.
use mathlib.Core.Path.{◌≡◌, sym, ap, ◌∙◌}
use Prim.Native.Nat.{ℕ, ◌+◌, ◌*◌, ◌/◌, ◌%◌, ◌^◌, ◌≤◌, ◌<◌}
use native.Mathlib.Nat.{mul-le-mul, mod-lt, div-add-mod', lt_of_mul-lt-mul_right}
use native.Mathlib.Omega.{arith}
use lib.Arith.{digits_div, digits_mod}
use Rattle.exact.specs.Wide.{Divides}

abbrev pub digit : ℕ
digit = 2048

module _ (x n e : ℕ) where
  abbrev pub high : ℕ
  high = x % e * (n / digit)

  abbrev pub low : ℕ
  low = high % e * digit + x % e * (n % digit)

  abbrev pub quot : ℕ
  quot = x / e * n + high / e * digit + low / e

-- what the code asks, and what it gives
pub record Long (x n e : ℕ) : Type 0 where
  pub high_le : high x n e ≤ 2 ^ 52 * 2047
  pub digit_le : x % e * (n % digit) ≤ 2 ^ 52 * 2047
  pub rest_lt : high x n e % e < 2 ^ 52
  pub quot_lt : quot x n e < 2 ^ 63
  pub is_quot : quot x n e ≡ x * n / e
  pub is_rest : low x n e % e ≡ x * n % e

pub long_division_is : (x n e : ℕ) → Divides x n e → Long x n e
long_division_is x n e pre =
    let r-lt : x % e < e = mod-lt x pre.positive in
    let b_lt : high x n e % e < e = mod-lt (high x n e) pre.positive in
    let d-lt : low x n e % e < e = mod-lt (low x n e) pre.positive in
    let split-x : x / e * e + x % e ≡ x = div-add-mod' x e in
    let split-n : n ≡ n / digit * digit + n % digit = omega arith in
    let r-n : x % e * n ≡ x % e * (n / digit * digit + n % digit) = ap (λ (z : ℕ). x % e * z) split-n in
    let x-n : (x / e * e + x % e) * n ≡ x * n = ap (λ (z : ℕ). z * n) split-x in
    let again : quot x n e * e + low x n e % e ≡ x * n =
    omega (arith, div-add-mod' (high x n e) e, div-add-mod' (low x n e) e) in
    let r-le : x % e ≤ 2 ^ 52 = omega arith in
    let hi-le : n / digit ≤ 2047 = omega arith in
    let lo-le : n % digit ≤ 2047 = omega arith in
    record {
      high_le = mul-le-mul r-le hi-le;
      digit_le = mul-le-mul r-le lo-le;
      rest_lt = omega arith;
      quot_lt = lt_of_mul-lt-mul_right e {m = quot x n e} {n = 2 ^ 63} (omega arith);
      is_quot = sym (digits_div (quot x n e) d-lt) ∙ ap (λ (z : ℕ). z / e) again;
      is_rest = sym (digits_mod (quot x n e) d-lt) ∙ ap (λ (z : ℕ). z % e) again;
    }
