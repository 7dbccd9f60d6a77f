-- Of every one of the 2^64 patterns W-211's answer is the right one, and the only one: the price whose units are the
-- exact value rounded half up, or that there is none. A greater float is never fewer units.
use mathlib.Core.Path.{◌≡◌, refl, sym, ap, ◌∙◌, subst}
use mathlib.Core.Bool.{Bool, true, false, ◌&&◌}
use Prim.Native.Nat.{ℕ, ◌^◌, ◌≤◌, ◌<◌}
use native.Mathlib.Nat.{mul-pos}
use native.Mathlib.Omega.{arith}
use lib.Dec.{T, leb, ltb, eqb}
use lib.Pow.{pow_pos}
use lib.Ieee.{Float, nan, inf, fin, binary64, le, fits, of_bits, to_bits, is_nan}
use lib.Ieee.Bits.{of_bits-to_bits, to_bits-lt, to_bits-of_bits}
use lib.Ieee.Exact.{HasValue}
use lib.Ieee.Positive.{positive, positive_of_value, values_of_le}
use borrow.Author.Tests.{lt-leb, ltb-true, eqb-true}
use Rattle.paper.specs.declared.Way.TheVariants.{HalfUp}
use Rattle.paper.specs.declared.Price.{Price}
use Rattle.std.specs.declared.option.Option.{Option}
use Rattle.std.specs.declared.option.Option.TheVariants.{None, Some}
use Rattle.paper.specs.Lists.{pick}
use Rattle.paper.specs.Ranges.{is_price, price_made}
use Rattle.paper.proofs.Logic.{not_true_and_false, and_left, and_right, and_both}
use Rattle.paper.proofs.Roundings.{rounded_is, rounded_unique}
use Rattle.paper.specs.Floats.{sign_bit, sign, significand, power, exact_value, is_finite, is_above_zero}
use Rattle.paper.specs.Floats.{in_ten_thousandths, units_of, price_of_bits, price_of, RightUnits, RightPrice}
use Rattle.paper.proofs.ExactValues.{exact_value_lem}
use Rattle.paper.proofs.BitLaws.{units_monotone, scale_pos, endless_refused}

-- ---- the one number of units that can be right

pub units_are : (bits units : ℕ) → RightUnits bits units → units ≡ units_of (exact_value bits)
unfolding units_of
units_are bits units r =
    rounded_unique HalfUp units (units_of (exact_value bits)) (in_ten_thousandths (exact_value bits)) r.nearest
    (rounded_is HalfUp (in_ten_thousandths (exact_value bits)).num (exact_value bits).den (scale_pos bits))

-- ---- the answer is right

bits_right : (bits : ℕ) → RightPrice bits (price_of_bits bits)
unfolding price_of_bits price_made units_of
bits_right bits = go (is_finite bits && is_above_zero bits) (is_price (units_of (exact_value bits))) refl refl
  where
    go : (t u : Bool) → (is_finite bits && is_above_zero bits) ≡ t → is_price (units_of (exact_value bits)) ≡ u
        → RightPrice bits
        (pick t (pick u (Some (record { units = units_of (exact_value bits) })) None) None)
    go true true f i =
        record {
          finite = and_left (is_finite bits) (is_above_zero bits) f;
          above_zero = and_right (is_finite bits) (is_above_zero bits) f;
          nearest = rounded_is HalfUp (in_ten_thousandths (exact_value bits)).num (exact_value bits).den (scale_pos bits);
          in_range_lem = i;
        }
    go true false f i = λ units r. not_true_and_false (is_price units) r.in_range_lem (rw (units_are bits units r) i)
    go false u f i =
        λ units r. not_true_and_false (is_finite bits && is_above_zero bits)
        (and_both (is_finite bits) (is_above_zero bits) r.finite r.above_zero) f

-- ---- and so for the float of every pattern

is_nan_lem : (x : Float) → is_nan x ≡ true → x ≡ nan
unfolding is_nan
is_nan_lem nan h = refl
is_nan_lem (inf s) h = absurd (not_true_and_false false h refl)
is_nan_lem (fin s m e) h = absurd (not_true_and_false false h refl)

no_number : (bits : ℕ) → is_nan (of_bits binary64 bits) ≡ true → (t : Bool) → is_finite bits ≡ t → is_finite bits ≡ false
no_number bits h true f =
    absurd
    (subst (λ (y : Float). HasValue y (leb sign_bit bits) (exact_value bits).num (exact_value bits).den)
    (is_nan_lem (of_bits binary64 bits) h) (exact_value_lem bits f))
no_number bits h false f = f

pattern_price : (bits : ℕ) → bits < 2 ^ 64 → price_of (of_bits binary64 bits) ≡ price_of_bits bits
unfolding price_of
pattern_price bits w = go (is_nan (of_bits binary64 bits)) refl
  where
    go : (t : Bool) → is_nan (of_bits binary64 bits) ≡ t
        → pick t None (price_of_bits (to_bits binary64 (of_bits binary64 bits))) ≡ price_of_bits bits
    go true h = sym (endless_refused bits (no_number bits h (is_finite bits) refl))
    go false h = ap price_of_bits (to_bits-of_bits binary64 bits w (rw h tt))

pub every_pattern : (bits : ℕ) → bits < 2 ^ 64 → RightPrice bits (price_of (of_bits binary64 bits))
every_pattern bits w = rw (pattern_price bits w) (bits_right bits)

-- the same of every float that 64 bits hold
pub price_right : (x : Float) → T (fits binary64 x) → RightPrice (to_bits binary64 x) (price_of x)
price_right x h = rw (of_bits-to_bits binary64 x h) at (every_pattern (to_bits binary64 x) (to_bits-lt binary64 x h))

pub price_unique : (bits : ℕ) (p q : Option Price) → RightPrice bits p → RightPrice bits q → p ≡ q
price_unique bits (Some p) (Some q) a b =
    ap (λ (u : ℕ). Some (record { units = u })) (units_are bits p.units a ∙ sym (units_are bits q.units b))
price_unique bits (Some p) None a b = absurd (b p.units a)
price_unique bits None (Some q) a b = absurd (a q.units b)
price_unique bits None None a b = refl

-- ---- a greater float is never fewer units

above_zero_value : (bits : ℕ) → is_above_zero bits ≡ true → 0 < (exact_value bits).num
unfolding is_above_zero exact_value
above_zero_value bits h =
    mul-pos (ltb-true 0 (significand bits) (and_right (eqb (sign bits) 0) (ltb 0 (significand bits)) h))
    (pow_pos (power bits))

right_value : (bits units : ℕ) → RightUnits bits units
    → HasValue (of_bits binary64 bits) false (exact_value bits).num (exact_value bits).den
unfolding is_above_zero
right_value bits units r =
    let plus : sign bits ≡ 0 =
    eqb-true (sign bits) 0 (and_left (eqb (sign bits) 0) (ltb 0 (significand bits)) r.above_zero) in
    rw (lt-leb sign_bit bits (omega arith)) at (exact_value_lem bits r.finite)

right_positive : (bits units : ℕ) → RightUnits bits units → T (positive (of_bits binary64 bits))
right_positive bits units r =
    positive_of_value (of_bits binary64 bits) (exact_value bits).num (exact_value bits).den (right_value bits units r)
    (above_zero_value bits r.above_zero)

units_ordered : (a b u v : ℕ) → RightUnits a u → RightUnits b v
    → T (le (of_bits binary64 a) (of_bits binary64 b)) → u ≤ v
units_ordered a b u v r s l =
    rw (units_are a u r, units_are b v s)
    (units_monotone (exact_value a) (exact_value b) (scale_pos a) (scale_pos b)
    (values_of_le (of_bits binary64 a) (of_bits binary64 b) (exact_value a).num (exact_value a).den
    (exact_value b).num (exact_value b).den (right_positive a u r) (right_positive b v s) (right_value a u r)
    (right_value b v s) l))

pub greater_not_fewer : (x y : Float) (p q : Price) → T (fits binary64 x) → T (fits binary64 y) → T (le x y)
    → price_of x ≡ Some p → price_of y ≡ Some q → p.units ≤ q.units
greater_not_fewer x y p q f g l c d =
    units_ordered (to_bits binary64 x) (to_bits binary64 y) p.units q.units (rw c at (price_right x f))
    (rw d at (price_right y g)) (rw (of_bits-to_bits binary64 x f, of_bits-to_bits binary64 y g) l)
