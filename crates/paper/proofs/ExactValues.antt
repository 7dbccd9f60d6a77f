-- A float has the value that its bits give (W-211): `exact_value` of every finite pattern, that of a subnormal number
-- too, is the value of the logic's own float of that pattern, m·2^e.
use mathlib.Core.Path.{◌≡◌, ap, ◌∙◌, subst}
use mathlib.Core.Logic.{◌⊎◌, inl, inr}
use mathlib.Core.Bool.{Bool, true, false, cond}
use Prim.Native.Nat.{ℕ, zero, suc, ◌+◌, ◌-◌, ◌*◌, ◌/◌, ◌%◌, ◌^◌, ◌≤◌, ◌<◌, max}
use native.Mathlib.Nat.{pow-succ'}
use native.Mathlib.Omega.{arith}
use lib.IntN.{ℤ}
use lib.Dec.{eqb, leb, eqb-suc-zero}
use lib.Ieee.{Float, nan, inf, fin, binary64, up, down, odd, of_fields, of_bits}
use lib.Ieee.Exact.{HasValue, odd_sign}
use borrow.Author.Tests.{ltb-true, lt-ltb, ne_eqb}
use Rattle.paper.specs.Lists.{pick}
use Rattle.paper.proofs.Logic.{le_or_lt}
use Rattle.paper.specs.Floats.{leading_one, exponents, sign_bit, scale, exponent, fraction, significand}
use Rattle.paper.specs.Floats.{exact_value, is_finite}

-- a fraction with both its numbers doubled is the same value
doubled_has_value : (y : Float) (s : Bool) (a c : ℕ) → HasValue y s a c → HasValue y s (2 * a) (2 * c)
doubled_has_value nan s a c h = h
doubled_has_value (inf t) s a c h = h
doubled_has_value (fin t m e) s a c h = (h.0, cross (m * up e) (down e) h.1)
  where
    cross : (x d : ℕ) → x * c ≡ a * d → x * (2 * c) ≡ 2 * a * d
    cross x d k = omega arith

-- the value of a sign, an exponent and a fraction
fields_value : (s : Bool) (x t : ℕ) → x < exponents - 1
    → HasValue (of_fields binary64 s x t) s ((pick (eqb x 0) 0 leading_one + t) * 2 ^ max x 1) (2 ^ scale)
unfolding of_fields
fields_value s zero t h =
    subst (λ (a : ℕ). HasValue (of_fields binary64 s zero t) s a (2 ^ scale)) (first t)
    (doubled_has_value (of_fields binary64 s zero t) s (t * 2 ^ 0) (2 ^ 1074) (odd_sign 53 s t 0 1074))
  where
    first : (t : ℕ) → 2 * (t * 2 ^ 0) ≡ (0 + t) * 2 ^ 1
    first t = omega arith
fields_value s (suc x) t h =
    rw (ne_eqb (suc x) 2047 (λ (e : suc x ≡ 2047). omega arith), eqb-suc-zero x, next x)
    (subst (λ (a : ℕ). HasValue (odd 53 s (leading_one + t) x 1074) s a (2 ^ scale)) (twice (leading_one + t) (2 ^ x))
    (doubled_has_value (odd 53 s (leading_one + t) x 1074) s ((leading_one + t) * 2 ^ x) (2 ^ 1074)
    (odd_sign 53 s (leading_one + t) x 1074)))
  where
    next : (x : ℕ) → 2 ^ max (suc x) 1 ≡ 2 * 2 ^ x
    next x = ap (λ (k : ℕ). 2 ^ k) (above x) ∙ pow-succ' 2 x
      where
        above : (x : ℕ) → max (suc x) 1 ≡ suc x
        above x = omega arith

    twice : (q p : ℕ) → 2 * (q * p) ≡ q * (2 * p)
    twice q p = omega arith

-- the fields of a pattern, as the logic takes them
pub same_exponent : (bits : ℕ) → bits % sign_bit / leading_one ≡ exponent bits
same_exponent bits = omega arith

pub exact_value_lem : (bits : ℕ) → is_finite bits ≡ true
    → HasValue (of_bits binary64 bits) (leb sign_bit bits) (exact_value bits).num (exact_value bits).den
unfolding of_bits exact_value significand
exact_value_lem bits h =
    rw (same_exponent bits)
    (fields_value (leb sign_bit bits) (exponent bits) (fraction bits) (ltb-true (exponent bits) (exponents - 1) h))

-- the last exponent is of no number, so that the pattern of a number is finite
no_number : (i s t : Bool) (m : ℕ) (e : ℤ) → cond i (inf s) nan ≡ fin t m e → ⊥
no_number true s t m e h = let z : ◌≡◌ {A = ℕ} 0 1 = cc in omega arith
no_number false s t m e h = let z : ◌≡◌ {A = ℕ} 0 1 = cc in omega arith

pub number_finite : (bits m : ℕ) (s : Bool) (e : ℤ) → of_bits binary64 bits ≡ fin s m e → is_finite bits ≡ true
unfolding of_bits of_fields
number_finite bits m s e h = go (le_or_lt (exponents - 1) (exponent bits))
  where
    go : (exponents - 1 ≤ exponent bits) ⊎ (exponent bits < exponents - 1) → is_finite bits ≡ true
    go (inl l) =
        let last : bits % sign_bit / leading_one ≡ exponents - 1 = omega arith in
        absurd (no_number (eqb (fraction bits) 0) (leb sign_bit bits) s m e (rw last at h))
    go (inr l) = lt-ltb (exponent bits) (exponents - 1) l
