-- Document 02, W-211, external prices (clause 6.1), its first part: which price a 64-bit float is. "Take the float's
-- exact value, from its bits, and round it half up to a ten-thousandth." It is none where it "isn't finite, isn't above
-- zero, or rounds to 0 or above 10^10 units". The format is binary64 of IEEE 754: a bit of sign, 11 bits of exponent,
-- 52 bits of fraction.
use Rattle.std.specs.Prelude.{◌≡◌, Bool, true, ◌&&◌, ℕ, ◌+◌, ◌-◌, ◌*◌, ◌/◌, ◌%◌, ◌^◌, max, eqb, ltb, Float}
use Rattle.std.specs.Float.{binary64}
use Rattle.std.specs.Float.Ieee.{is_nan, to_bits}
use Rattle.paper.specs.declared.Way.TheVariants.{HalfUp}
use Rattle.std.specs.declared.option.Option.{Option}
use Rattle.std.specs.declared.option.Option.TheVariants.{None, Some}
use Rattle.paper.specs.declared.Price.{Price}
use Rattle.paper.specs.Lists.{pick}
use Rattle.paper.specs.Numbers.{one_in_ten_thousandths}
use Rattle.paper.specs.Roundings.{Quotient, rounded, Rounded}
use Rattle.paper.specs.Ranges.{is_price, price_made}

-- ---- the numbers of the format

-- the one that stands before a fraction of 52 bits
abbrev pub leading_one : ℕ
leading_one = 2 ^ 52

-- how many exponents there are: 11 bits
abbrev pub exponents : ℕ
exponents = 2 ^ 11

-- what the bit of the sign counts
abbrev pub sign_bit : ℕ
sign_bit = 2 ^ 63

-- a significand is a number of 2^(exponent - 1,075)ths
abbrev pub scale : ℕ
scale = 1075

-- ---- "the float's exact value, from its bits"

-- 1 where the float is below zero, or the zero that has a minus
abbrev pub sign : (bits : ℕ) → ℕ
sign bits = bits / sign_bit

abbrev pub exponent : (bits : ℕ) → ℕ
exponent bits = bits / leading_one % exponents

abbrev pub fraction : (bits : ℕ) → ℕ
fraction bits = bits % leading_one

-- The fraction with the one before it. The exponent 0 is that of zero and of the numbers next to it, which are called
-- subnormal: no one stands before their fraction, and their exponent counts as 1.
unfoldable pub significand : (bits : ℕ) → ℕ
significand bits = pick (eqb (exponent bits) 0) 0 leading_one + fraction bits

abbrev pub power : (bits : ℕ) → ℕ
power bits = max (exponent bits) 1

-- the value without its sign: significand·2^power/2^1,075
unfoldable pub exact_value : (bits : ℕ) → Quotient
exact_value bits = record { num = significand bits * 2 ^ power bits; den = 2 ^ scale }

-- "isn't finite": the last exponent is that of the infinities and of what is no number
abbrev pub is_finite : (bits : ℕ) → Bool
is_finite bits = ltb (exponent bits) (exponents - 1)

-- "isn't above zero"
unfoldable pub is_above_zero : (bits : ℕ) → Bool
is_above_zero bits = eqb (sign bits) 0 && ltb 0 (significand bits)

-- ---- "and round it half up to a ten-thousandth"

abbrev pub in_ten_thousandths : Quotient → Quotient
in_ten_thousandths x = record { num = one_in_ten_thousandths * x.num; den = x.den }

unfoldable pub units_of : Quotient → ℕ
units_of x = rounded HalfUp (in_ten_thousandths x).num (in_ten_thousandths x).den

-- ---- the price, or none: refusal 20

unfoldable pub price_of_bits : (bits : ℕ) → Option Price
price_of_bits bits = pick (is_finite bits && is_above_zero bits) (price_made (units_of (exact_value bits))) None

-- the logic has one float for all the patterns of what is no number, and reads no bits of it
unfoldable pub price_of : Float → Option Price
price_of x = pick (is_nan x) None (price_of_bits (to_bits binary64 x))

-- ---- what it is

-- so many units are the price of these bits
pub record RightUnits (bits units : ℕ) : Type 0 where
  pub finite : is_finite bits ≡ true
  pub above_zero : is_above_zero bits ≡ true
  pub nearest : Rounded HalfUp units (in_ten_thousandths (exact_value bits))
  pub in_range_lem : is_price units ≡ true

-- that is the right answer: these units, or that no number of units is the price
abbrev pub RightPrice : (bits : ℕ) → Option Price → Type 0
RightPrice bits (Some price) = RightUnits bits price.units
RightPrice bits None = (units : ℕ) → RightUnits bits units → ⊥
