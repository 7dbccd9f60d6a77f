-- What the price of a float's bits comes to, by the bits above its fraction: below the least exponent and above that of
-- whole units there is none, and between them 64 bits hold the quotient that is rounded.
use mathlib.Core.Path.{◌≡◌, refl, sym, ap, ◌∙◌}
use mathlib.Core.Logic.{◌⊎◌, inl, inr}
use mathlib.Core.Bool.{Bool, true, false}
use Prim.Native.Nat.{ℕ, ◌+◌, ◌-◌, ◌*◌, ◌/◌, ◌^◌, ◌≤◌, ◌<◌}
use native.Mathlib.Nat.{mul-le-mul, mul-le-mul_right, le_trans, le-add_right}
use native.Mathlib.Omega.{arith}
use lib.Dec.{eqb, leb, lit≤}
use lib.Pow.{pow-add, pow_pos, pow_mono}
use borrow.Author.Tests.{lt-leb, lt-ltb, ne_eqb}
use Rattle.std.specs.declared.option.Option.TheVariants.{None, Some}
use Rattle.paper.specs.Lists.{pick}
use Rattle.paper.specs.Numbers.{one_in_ten_thousandths, price_least, price_most}
use Rattle.paper.specs.Roundings.{half_up}
use Rattle.paper.specs.Ranges.{is_price, price_made}
use Rattle.paper.proofs.Logic.{le_or_lt}
use Rattle.paper.specs.Floats.{leading_one, exponents, sign_bit, scale, exponent, fraction, significand, power}
use Rattle.paper.specs.Floats.{exact_value, is_finite, units_of, price_of_bits}
use Rattle.paper.proofs.BitLaws.{same_rounded, units_monotone, scale_pos, second_fails, endless_refused}
use Rattle.paper.proofs.BitLaws.{minus_refused, plus_price}

-- ---- the numbers of the code: 10,000 is 625·2^4

abbrev pub factor : ℕ
factor = one_in_ten_thousandths / 16

abbrev pub whole_exponent : ℕ
whole_exponent = scale - 4

abbrev pub least_exponent : ℕ
least_exponent = whole_exponent - 63

-- ---- below the least exponent a value is at most 2^-15, less than half a unit

leading_le : (t : Bool) → pick t 0 leading_one ≤ leading_one
leading_le true = omega arith
leading_le false = omega arith

significand_le : (bits : ℕ) → significand bits ≤ 2 ^ 53
unfolding significand
significand_le bits = omega (arith, leading_le (eqb (exponent bits) 0))

low_power : (bits : ℕ) → bits / leading_one < least_exponent → power bits ≤ 1007
low_power bits h = omega arith

low_value : (bits : ℕ) → bits / leading_one < least_exponent → (exact_value bits).num * 2 ^ 15 ≤ 1 * (exact_value bits).den
unfolding exact_value
low_value bits h =
    le_trans (mul-le-mul_right (2 ^ 15) (mul-le-mul (significand_le bits) (pow_mono (low_power bits h)))) (lit≤ tt)

low_units : (bits : ℕ) → bits / leading_one < least_exponent → units_of (exact_value bits) ≤ 0
unfolding units_of half_up
low_units bits h =
    units_monotone (exact_value bits) (record { num = 1; den = 2 ^ 15 }) (scale_pos bits) (pow_pos 15) (low_value bits h)

under_refused : (units : ℕ) → units ≤ 0 → price_made units ≡ None
unfolding price_made is_price
under_refused units h = rw (lt-leb price_least units (omega arith)) refl

pub low_refused : (bits : ℕ) → bits / leading_one < least_exponent → price_of_bits bits ≡ None
low_refused bits h =
    plus_price bits (lt-ltb (exponent bits) (exponents - 1) (omega arith)) (omega arith)
    ∙ under_refused (units_of (exact_value bits)) (low_units bits h)

-- ---- above the exponent of whole units a value is at least 2^49, or has a minus, or is not finite

leading_one_lem : (bits : ℕ) → 0 < exponent bits → significand bits ≡ leading_one + fraction bits
unfolding significand
leading_one_lem bits h = rw (ne_eqb (exponent bits) 0 (λ (e : exponent bits ≡ 0). omega arith)) refl

high_exponent : (bits : ℕ) → bits < sign_bit → whole_exponent < bits / leading_one → 1072 ≤ exponent bits
high_exponent bits w h = omega arith

high_significand : (bits : ℕ) → 1072 ≤ exponent bits → leading_one ≤ significand bits
high_significand bits h = rw (leading_one_lem bits (omega arith)) (le-add_right leading_one (fraction bits))

high_power : (bits : ℕ) → 1072 ≤ exponent bits → 1072 ≤ power bits
high_power bits h = omega arith

high_value : (bits : ℕ) → 1072 ≤ exponent bits → 2 ^ 49 * (exact_value bits).den ≤ (exact_value bits).num * 1
unfolding exact_value
high_value bits h =
    le_trans (lit≤ tt) (mul-le-mul_right 1 (mul-le-mul (high_significand bits h) (pow_mono (high_power bits h))))

high_units : (bits : ℕ) → 1072 ≤ exponent bits → price_most < units_of (exact_value bits)
unfolding units_of half_up
high_units bits h =
    le_trans (lit≤ tt)
    (units_monotone (record { num = 2 ^ 49; den = 1 }) (exact_value bits) (pow_pos 0) (scale_pos bits)
    (high_value bits h))

over_refused : (units : ℕ) → price_most < units → price_made units ≡ None
unfolding price_made is_price
over_refused units h =
    rw (lt-leb units price_most h) (second_fails (leb price_least units) (Some (record { units = units })))

pub high_refused : (bits : ℕ) → whole_exponent < bits / leading_one → price_of_bits bits ≡ None
high_refused bits h = go (le_or_lt sign_bit bits) (is_finite bits) refl
  where
    go : (sign_bit ≤ bits) ⊎ (bits < sign_bit) → (t : Bool) → is_finite bits ≡ t → price_of_bits bits ≡ None
    go (inl l) t f = minus_refused bits l
    go (inr l) false f = endless_refused bits f
    go (inr l) true f =
        plus_price bits f l ∙ over_refused (units_of (exact_value bits)) (high_units bits (high_exponent bits l h))

-- ---- between them, the bits above the fraction are the exponent

reduced : (s k : ℕ) → k ≤ whole_exponent
    → half_up (one_in_ten_thousandths * (s * 2 ^ k)) (2 ^ scale) ≡ half_up (factor * s) (2 ^ (whole_exponent - k))
reduced s k h =
    same_rounded (one_in_ten_thousandths * (s * 2 ^ k)) (2 ^ scale) (factor * s) (2 ^ (whole_exponent - k)) (pow_pos scale)
    (pow_pos (whole_exponent - k)) (cross (2 ^ k) (2 ^ (whole_exponent - k)) whole)
  where
    back : whole_exponent - k + k ≡ whole_exponent
    back = omega arith

    whole : 2 ^ (whole_exponent - k) * 2 ^ k * 16 ≡ 2 ^ scale
    whole = rw (sym (pow-add 2 (whole_exponent - k) k)) (ap (λ (j : ℕ). 2 ^ j * 16) back)

    cross : (a b : ℕ) → b * a * 16 ≡ 2 ^ scale → one_in_ten_thousandths * (s * a) * b ≡ factor * s * 2 ^ scale
    cross a b e = rw (sym e) (omega arith)

module _ (bits : ℕ) (l : least_exponent ≤ bits / leading_one) (h : bits / leading_one ≤ whole_exponent) where
  between_power : power bits ≡ bits / leading_one
  between_power = omega arith

  between_units : units_of (exact_value bits)
      ≡ half_up (factor * (leading_one + fraction bits)) (2 ^ (whole_exponent - bits / leading_one))
  unfolding units_of exact_value
  between_units =
      rw (leading_one_lem bits (omega arith), between_power)
      (reduced (leading_one + fraction bits) (bits / leading_one) h)

  pub between_price : price_of_bits bits
      ≡ price_made (half_up (factor * (leading_one + fraction bits)) (2 ^ (whole_exponent - bits / leading_one)))
  between_price =
      plus_price bits (lt-ltb (exponent bits) (exponents - 1) (omega arith)) (omega arith) ∙ ap price_made between_units
