-- W-211's rule on the bits of a float is the rule on its value, for every float that 64 bits hold; and so what is no
-- number, the infinities, the zeros and what is below zero are refused.
use mathlib.Core.Path.{◌≡◌, refl, sym, ap, ◌∙◌, subst}
use mathlib.Core.Bool.{Bool, true, false}
use Prim.Native.Nat.{ℕ, ◌*◌}
use native.Mathlib.Nat.{zero-mul}
use lib.IntN.{ℤ}
use lib.Dec.{T, leb}
use lib.Ieee.{Float, nan, inf, fin, binary64, up, down, of_bits, to_bits, fits, is_nan}
use lib.Ieee.Bits.{of_bits-to_bits}
use lib.Ieee.Exact.{HasValue}
use lib.Ieee.Fits.{down_pos}
use borrow.Author.Tests.{leb-true, leb-false}
use Rattle.std.specs.declared.option.Option.TheVariants.{None}
use Rattle.paper.specs.Ranges.{price_made}
use Rattle.paper.specs.Floats.{sign_bit, exact_value, units_of, price_of_bits, price_of}
use Rattle.paper.specs.FloatValues.{price_of_value}
use Rattle.paper.proofs.ExactValues.{exact_value_lem, number_finite}
use Rattle.paper.proofs.BitLaws.{units_same, value_zero_refused, scale_pos, minus_refused, plus_price}

-- what the pattern of a number tells: it is finite, and its sign and its value are the number's
value_told : (bits m : ℕ) (s : Bool) (e : ℤ) → of_bits binary64 bits ≡ fin s m e
    → HasValue (fin s m e) (leb sign_bit bits) (exact_value bits).num (exact_value bits).den
value_told bits m s e h =
    subst (λ (y : Float). HasValue y (leb sign_bit bits) (exact_value bits).num (exact_value bits).den) h
    (exact_value_lem bits (number_finite bits m s e h))

positive_is_made : (bits m : ℕ) (e : ℤ) → of_bits binary64 bits ≡ fin false m e
    → price_of_bits bits ≡ price_made (units_of (record { num = m * up e; den = down e }))
positive_is_made bits m e h =
    let told = value_told bits m false e h in
    plus_price bits (number_finite bits m false e h) (leb-false sign_bit bits (sym told.0))
    ∙ ap price_made
    (units_same (exact_value bits) (record { num = m * up e; den = down e }) (scale_pos bits) (down_pos e)
    (sym told.1))

negative_is_refused : (bits m : ℕ) (e : ℤ) → of_bits binary64 bits ≡ fin true m e → price_of_bits bits ≡ None
negative_is_refused bits m e h = minus_refused bits (leb-true sign_bit bits (sym (value_told bits m true e h).0))

-- ---- the whole rule

pub by_value : (x : Float) → T (fits binary64 x) → price_of x ≡ price_of_value x
unfolding price_of price_of_bits price_of_value is_nan to_bits
by_value nan h = refl
by_value (inf true) h = refl
by_value (inf false) h = refl
by_value (fin true m e) h =
    negative_is_refused (to_bits binary64 (fin true m e)) m e (of_bits-to_bits binary64 (fin true m e) h)
by_value (fin false m e) h =
    positive_is_made (to_bits binary64 (fin false m e)) m e (of_bits-to_bits binary64 (fin false m e) h)

-- ---- "isn't finite, isn't above zero"

pub nan_refused : price_of nan ≡ None
unfolding price_of is_nan
nan_refused = refl

pub infinity_refused : (s : Bool) → price_of (inf s) ≡ None
unfolding price_of_value fits
infinity_refused s = by_value (inf s) tt

pub negative_refused : (m : ℕ) (e : ℤ) → T (fits binary64 (fin true m e)) → price_of (fin true m e) ≡ None
unfolding price_of_value
negative_refused m e h = by_value (fin true m e) h

-- the zero that has a minus is as what is below zero
pub zero_refused : (s : Bool) (e : ℤ) → T (fits binary64 (fin s 0 e)) → price_of (fin s 0 e) ≡ None
unfolding price_of_value
zero_refused true e h = by_value (fin true 0 e) h
zero_refused false e h =
    by_value (fin false 0 e) h
    ∙ value_zero_refused (record { num = 0 * up e; den = down e }) (down_pos e) (zero-mul (up e))
