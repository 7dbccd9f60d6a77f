-- Which price the bits of a float are, one test of the definition after the other (W-211).
use mathlib.Core.Path.{◌≡◌, refl, sym, ap, ◌∙◌}
use mathlib.Core.Logic.{◌⊎◌, inl, inr}
use mathlib.Core.Bool.{Bool, true, false, ◌&&◌}
use Prim.Native.Nat.{ℕ, ◌*◌, ◌^◌, ◌≤◌, ◌<◌}
use native.Mathlib.Nat.{le_antisymm, le_of_eq, zero-mul}
use native.Mathlib.Omega.{arith}
use lib.Dec.{eqb, ltb}
use lib.Pow.{pow_pos}
use borrow.Author.Tests.{lt-ltb, eq-eqb, ne_eqb}
use Rattle.paper.specs.declared.Way.TheVariants.{HalfUp}
use Rattle.std.specs.declared.option.Option.{Option}
use Rattle.std.specs.declared.option.Option.TheVariants.{None}
use Rattle.paper.specs.declared.Price.{Price}
use Rattle.paper.specs.Numbers.{one_in_ten_thousandths}
use Rattle.paper.specs.Lists.{pick}
use Rattle.paper.specs.Roundings.{Quotient, half_up}
use Rattle.paper.specs.Ranges.{is_price, price_made}
use Rattle.paper.proofs.Logic.{le_or_lt}
use Rattle.paper.proofs.Roundings.{rounded_monotone}
use Rattle.paper.specs.Floats.{sign_bit, scale, sign, significand, power, exact_value, is_finite, is_above_zero}
use Rattle.paper.specs.Floats.{units_of, price_of_bits}

-- ---- units

-- equal quotients round alike
pub same_rounded : (n d m e : ℕ) → 0 < d → 0 < e → n * e ≡ m * d → half_up n d ≡ half_up m e
same_rounded n d m e p q h =
    le_antisymm (rounded_monotone HalfUp n d m e p q (le_of_eq h))
    (rounded_monotone HalfUp m e n d q p (le_of_eq (sym h)))

-- a greater value is no fewer units, and equal values are equally many
pub units_monotone : (x y : Quotient) → 0 < x.den → 0 < y.den → x.num * y.den ≤ y.num * x.den
    → units_of x ≤ units_of y
unfolding units_of
units_monotone x y p q l =
    rounded_monotone HalfUp (one_in_ten_thousandths * x.num) x.den (one_in_ten_thousandths * y.num) y.den p q
    (omega arith)

pub units_same : (x y : Quotient) → 0 < x.den → 0 < y.den → x.num * y.den ≡ y.num * x.den → units_of x ≡ units_of y
unfolding units_of
units_same x y p q e =
    same_rounded (one_in_ten_thousandths * x.num) x.den (one_in_ten_thousandths * y.num) y.den p q (omega arith)

-- a value of zero is no unit, and that is no price
no_unit : price_made (units_of (record { num = 0; den = 1 })) ≡ None
unfolding price_made is_price units_of half_up
no_unit = refl

pub value_zero_refused : (x : Quotient) → 0 < x.den → x.num ≡ 0 → price_made (units_of x) ≡ None
value_zero_refused x p e =
    ap price_made (units_same x (record { num = 0; den = 1 }) p (omega arith) (omega arith)) ∙ no_unit

pub scale_pos : (bits : ℕ) → 0 < (exact_value bits).den
unfolding exact_value
scale_pos bits = pow_pos scale

-- ---- what is no price

pub second_fails : (p : Bool) (y : Option Price) → pick (p && false) y None ≡ None
second_fails true y = refl
second_fails false y = refl

-- "isn't finite"
pub endless_refused : (bits : ℕ) → is_finite bits ≡ false → price_of_bits bits ≡ None
unfolding price_of_bits
endless_refused bits h = rw h

-- a float with a minus
pub minus_refused : (bits : ℕ) → sign_bit ≤ bits → price_of_bits bits ≡ None
unfolding price_of_bits is_above_zero
minus_refused bits h =
    rw (ne_eqb (sign bits) 0 (λ (e : sign bits ≡ 0). omega arith))
    (second_fails (is_finite bits) (price_made (units_of (exact_value bits))))

-- ---- a float without a minus: what is above zero goes by its units, and so does zero

zero_value : (bits : ℕ) → significand bits ≡ 0 → (exact_value bits).num ≡ 0
unfolding exact_value
zero_value bits h = rw h (zero-mul (2 ^ power bits))

pub plus_price : (bits : ℕ) → is_finite bits ≡ true → bits < sign_bit
    → price_of_bits bits ≡ price_made (units_of (exact_value bits))
unfolding price_of_bits is_above_zero
plus_price bits f h = go (le_or_lt 1 (significand bits))
  where
    plus : eqb (sign bits) 0 ≡ true
    plus = eq-eqb (sign bits) 0 (omega arith)

    go : (1 ≤ significand bits) ⊎ (significand bits < 1)
        → pick (is_finite bits && (eqb (sign bits) 0 && ltb 0 (significand bits)))
        (price_made (units_of (exact_value bits))) None
        ≡ price_made (units_of (exact_value bits))
    go (inl l) = rw (f, plus, lt-ltb 0 (significand bits) l)
    go (inr l) =
        let none : significand bits ≡ 0 = omega arith in
        rw (f, plus, none) (sym (value_zero_refused (exact_value bits) (scale_pos bits) (zero_value bits none)))
