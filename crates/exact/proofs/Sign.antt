-- The sign test decides which case of a definition a signed number is.
use mathlib.Core.Path.{◌≡◌, refl, ap}
use mathlib.Core.Bool.{true, false}
use Prim.Native.Nat.{ℕ, suc, ◌+◌, ◌-◌, ◌*◌}
use native.Mathlib.Numerals.{add-one}
use native.Mathlib.Omega.{arith}
use lib.Dec.{T}
use lib.IntN.{ℤ, pos, negsuc, nat_abs, ◌-ℤ◌}
use lib.Signed.{mag, lt_z, non_neg}
use borrow.Author.Tests.{le-ltb}
use mir.Syntax.{w64}
use mir.Val.{Fits, SFits}
use Rattle.paper.specs.Numbers.{past_every}
use Rattle.paper.specs.Roundings.{grown}
use Rattle.paper.specs.Ranges.{unsigned}
use Rattle.exact.specs.SignedLaws.{natural_not_below_zero, negative_below_zero}

-- ---- the size: what an arm asks and gives, where z is the number that it casts

pub record Arm (z x : ℤ) : Type 0 where
  pub signed : SFits w64 z
  pub cast : T (non_neg z) × Fits w64 (nat_abs z)
  pub is : nat_abs z ≡ mag x

-- -1 - x for x = -(n + 1)
flipped_is : (n : ℕ) → negsuc 0 -ℤ negsuc n ≡ pos n
flipped_is n = rw (le-ltb (suc n) 1 (omega arith)) (ap pos (omega arith))

pub below_zero_takes_its_arm : (x : ℤ) → SFits w64 x → lt_z x (pos 0) ≡ true → Arm (negsuc 0 -ℤ x) x
below_zero_takes_its_arm (pos n) f e = absurd (natural_not_below_zero n e)
below_zero_takes_its_arm (negsuc n) f e =
    rw (flipped_is n) (record { signed = record { sfits = f.sfits }; cast = (tt, omega (arith, f.sfits)); is = refl })

pub not_below_zero_takes_its_arm : (x : ℤ) → SFits w64 x → lt_z x (pos 0) ≡ false → Arm x x
not_below_zero_takes_its_arm (pos n) f e = record { signed = f; cast = (tt, omega (arith, f.sfits)); is = refl }
not_below_zero_takes_its_arm (negsuc n) f e = absurd (negative_below_zero n e)

-- ---- the definitions by the test

pub unsigned_below : (x : ℤ) → lt_z x (pos 0) ≡ true → unsigned x ≡ past_every
unfolding unsigned
unsigned_below (pos n) e = absurd (natural_not_below_zero n e)
unsigned_below (negsuc n) e = refl

pub unsigned_above : (x : ℤ) → lt_z x (pos 0) ≡ false → unsigned x ≡ mag x
unfolding unsigned
unsigned_above (pos n) e = refl
unsigned_above (negsuc n) e = absurd (negative_below_zero n e)

pub grown_below : (base k : ℕ) (x : ℤ) → lt_z x (pos 0) ≡ true → grown base k x ≡ base - k * (mag x + 1)
unfolding grown
grown_below base k (pos n) e = absurd (natural_not_below_zero n e)
grown_below base k (negsuc n) e = rw (add-one n)

pub grown_above : (base k : ℕ) (x : ℤ) → lt_z x (pos 0) ≡ false → grown base k x ≡ base + k * mag x
unfolding grown
grown_above base k (pos n) e = refl
grown_above base k (negsuc n) e = absurd (negative_below_zero n e)
