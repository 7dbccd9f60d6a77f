-- The bits of a signed number by its sign, and the patterns that are no number's.
use mathlib.Core.Path.{◌≡◌, refl, sym, subst, ◌∙◌}
use mathlib.Core.Bool.{true, false, true≢false}
use Prim.Native.Nat.{ℕ, ◌-◌, ◌%◌, ◌^◌, ◌<◌, ◌≤◌}
use native.Mathlib.Omega.{arith}
use lib.Dec.{T}
use lib.IntN.{ℤ, pos, negsuc}
use lib.Signed.{mag, lt_z}
use lib.Ieee.{Float, nan, inf, fin, binary64, is_nan, nan_bits, of_bits, div}
use lib.Ieee.Bits.{nan_bits_is, nan_bits_above}
use borrow.Author.Tests.{ltb-true, lt-ltb, le-ltb}
use Rattle.text_protocol.specs.Calls.{all_ones, bits_of}

pub bits_below : (z : ℤ) → lt_z z (pos 0) ≡ true → bits_of z ≡ all_ones - mag z
unfolding bits_of
bits_below (pos n) e = let h : n < 0 = ltb-true n 0 e in let no : ⊥ = omega arith in absurd no
bits_below (negsuc n) e = refl

pub bits_above : (z : ℤ) → lt_z z (pos 0) ≡ false → bits_of z ≡ mag z
unfolding bits_of
bits_above (pos n) e = refl
bits_above (negsuc n) e = absurd (subst T e tt)

-- ---- above the infinity's pattern, the sign aside, stand those of no number; and 0 / 0 is no number

is_nan_lem : (x : Float) → is_nan x ≡ true → nan ≡ x
unfolding is_nan
is_nan_lem nan h = refl
is_nan_lem (inf s) h = absurd (true≢false (sym h))
is_nan_lem (fin s m e) h = absurd (true≢false (sym h))

pub nan_above : (n : ℕ) → 9218868437227405312 < n % 2 ^ 63 → nan ≡ of_bits binary64 n
nan_above n h =
    is_nan_lem _ (sym (nan_bits_is binary64 n) ∙ nan_bits_above binary64 n ∙ lt-ltb 9218868437227405312 (n % 2 ^ 63) h)

pub no_nan_up_to : (n : ℕ) → n % 2 ^ 63 ≤ 9218868437227405312 → nan_bits binary64 n ≡ false
no_nan_up_to n h = nan_bits_above binary64 n ∙ le-ltb 9218868437227405312 (n % 2 ^ 63) h

pub zero_by_zero : div binary64 (of_bits binary64 0) (of_bits binary64 0) ≡ nan
unfolding div of_bits
zero_by_zero = refl
