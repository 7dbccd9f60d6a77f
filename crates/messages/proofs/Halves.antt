-- Two's complement as it is worked out: from the magnitude and the greatest number of the width.
use mathlib.Core.Path.{◌≡◌, refl, sym}
use mathlib.Core.Logic.{◌⊎◌, inl, inr}
use mathlib.Core.Bool.{true, false}
use Prim.Native.Nat.{ℕ, suc, ◌+◌, ◌-◌, ◌/◌, ◌^◌, ◌<◌, ◌≤◌}
use native.Mathlib.Nat.{pow-le-pow_right}
use native.Mathlib.Omega.{arith}
use lib.IntN.{ℤ, pos, negsuc}
use lib.Signed.{mag, lt_z}
use borrow.Author.Tests.{lt-ltb, le-ltb}
use mir.Syntax.{w64}
use mir.Val.{SFits}
use Rattle.paper.proofs.Logic.{le_or_lt}
use Rattle.paper_messages.specs.Bytes.{in_width, width_most, complement, signed_of}
use Rattle.exact.specs.SignedLaws.{natural_not_below_zero, negative_below_zero}
use Rattle.messages.specs.FieldRoom.{greatest_of}

-- a width of at most eight bytes has at most 2^64 numbers
pub width_fits : (width : ℕ) → width ≤ width_most → in_width width ≤ 2 ^ 64
width_fits width h = let o : 0 < 256 = omega arith in pow-le-pow_right {n = 256} o h

pub rest_is_complement : (width : ℕ) (z : ℤ) → lt_z z (pos 0) ≡ true → greatest_of width - mag z ≡ complement width z
unfolding complement
rest_is_complement width (pos n) e = absurd (natural_not_below_zero n e)
rest_is_complement width (negsuc n) e = omega arith

pub mag_is_complement : (width : ℕ) (z : ℤ) → lt_z z (pos 0) ≡ false → mag z ≡ complement width z
unfolding complement
mag_is_complement width (pos n) e = refl
mag_is_complement width (negsuc n) e = absurd (negative_below_zero n e)

module _ (width number : ℕ) (narrow : width ≤ width_most) (small : number < in_width width) where
  -- the lower half
  module _ (low : number ≤ greatest_of width / 2) where
    pub lower_fits : number < 2 ^ 63
    lower_fits = omega (arith, width_fits width narrow)

    pub lower_is_signed : pos number ≡ signed_of width number
    unfolding signed_of
    lower_is_signed = rw (lt-ltb (number + number) (in_width width) (omega arith))

  -- the upper half
  module _ (high : greatest_of width / 2 < number) where
    pub upper_small : greatest_of width - number < 2 ^ 63
    upper_small = omega (arith, width_fits width narrow)

    pub upper_fits : SFits w64 (negsuc (greatest_of width - number))
    upper_fits = record { sfits = upper_small }

    pub upper_is_signed : negsuc (greatest_of width - number) ≡ signed_of width number
    unfolding signed_of
    upper_is_signed =
        let e : greatest_of width - number ≡ in_width width - suc number = omega arith in
        rw (le-ltb (number + number) (in_width width) (omega arith), e)

  -- either way it is a signed 64-bit number
  pub signed_fits : SFits w64 (signed_of width number)
  signed_fits = go (le_or_lt number (greatest_of width / 2))
    where
      go : (number ≤ greatest_of width / 2) ⊎ (greatest_of width / 2 < number) → SFits w64 (signed_of width number)
      go (inl low) = rw (sym (lower_is_signed low)) (record { sfits = lower_fits low })
      go (inr high) = rw (sym (upper_is_signed high)) (upper_fits high)
