-- The text of a signed number by the test of its sign: below zero a minus and the digits of its size, otherwise the
-- digits alone. `put_signed` cites the two laws at the end.
use mathlib.Core.Path.{◌≡◌, refl, ◌∙◌}
use mir.Facts.{to_z-of_z}
use mathlib.Core.List.{List, [], ◌∷◌}
use Rattle.text_bytes.specs.Numbers.{decimal, signed}
use Rattle.text_out.specs.Wrote.{Wrote, then}
use mathlib.Core.Bool.{true, false}
use Prim.Native.Nat.{ℕ, ◌+◌}
use native.Mathlib.Numerals.{add-one}
use native.Mathlib.Omega.{arith}
use lib.IntN.{ℤ, pos, negsuc, nat_abs}
use lib.Signed.{mag, lt_z}
use Rattle.exact.specs.SignedLaws.{natural_not_below_zero, negative_below_zero}
use Rattle.text_bytes.specs.Bytes.{minus_sign}
use Rattle.text_out.specs.Places.{number_bytes, signed_bytes}

-- ---- the text of a signed number, by the test

pub signed_below : (x : ℤ) → lt_z x (pos 0) ≡ true → signed x ≡ minus_sign ∷ decimal (nat_abs x)
unfolding signed
signed_below (pos k) e = absurd (natural_not_below_zero k e)
signed_below (negsuc k) e = refl

pub signed_above : (x : ℤ) → lt_z x (pos 0) ≡ false → signed x ≡ decimal (nat_abs x)
unfolding signed
signed_above (pos k) e = refl
signed_above (negsuc k) e = absurd (negative_below_zero k e)

pub ruleset signs = (to_z-of_z, signed_below, signed_above)

below_minus : (x : ℤ) (m : ℕ) → m ≡ mag x → lt_z x (pos 0) ≡ true → minus_sign ∷ decimal (m + 1) ≡ signed x
unfolding signed
below_minus (pos k) m i e = absurd (natural_not_below_zero k e)
below_minus (negsuc k) m i e = rw (i, add-one k)

above_plain : (x : ℤ) (m : ℕ) → m ≡ mag x → lt_z x (pos 0) ≡ false → decimal m ≡ signed x
unfolding signed
above_plain (pos k) m i e = rw i
above_plain (negsuc k) m i e = absurd (negative_below_zero k e)

module _ {b : List ℕ} {n : ℕ} {b' : List ℕ} {n' : ℕ} (x : ℤ) (m : ℕ) (is : m ≡ mag x) where
  pub below_wrote : {b'' : List ℕ} {n'' : ℕ} → lt_z x (pos 0) ≡ true → Wrote b n b' n' (minus_sign ∷ []) 1
      → Wrote b' n' b'' n'' (decimal (m + 1)) number_bytes → Wrote b n b'' n'' (signed x) signed_bytes
  below_wrote e p q = rw (below_minus x m is e) at (then p q)

  pub above_wrote : lt_z x (pos 0) ≡ false → Wrote b n b' n' (decimal m) number_bytes
      → Wrote b n b' n' (signed x) signed_bytes
  above_wrote e p = record {
    bytes = p.bytes ∙ rw (above_plain x m is e);
    long = p.long ∙ rw (above_plain x m is e);
    most = omega (arith, p.most);
  }
