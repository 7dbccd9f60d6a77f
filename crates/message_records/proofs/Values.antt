-- A number as a field's value, on plain values.
use mathlib.Core.Path.{◌≡◌, refl}
use mathlib.Core.Bool.{Bool, true, false}
use Prim.Native.Nat.{ℕ}
use lib.Dec.{ltb}
use lib.IntN.{ℤ, pos, negsuc}
use borrow.Author.Tests.{ltb-true, lt-ltb}
use mir.Syntax.{w64}
use mir.Val.{SFits, to_z, of_z}
use mir.Facts.{to_z-of_z}
use Rattle.std.specs.Prelude.{Result, Ok, Err, OkIff}
use Rattle.std.specs.Result.{result_unwrap_or}
use Rattle.paper.specs.Lists.{pick}
use Rattle.paper_messages.specs.Records.{past_signed, value_of}

-- a number that fits stands for itself, and -1 for every other
pub fitting_is_value : {E : Type 0} (r : Result ℤ E) (n : ℕ) → OkIff r (SFits w64 (pos n)) (pos n)
    → result_unwrap_or r (negsuc 0) ≡ value_of n
unfolding value_of
fitting_is_value (Ok x) n p = rw (lt-ltb n past_signed p.0.sfits) p.1
fitting_is_value (Err e) n p = go (ltb n past_signed) refl
  where
    go : (t : Bool) → ltb n past_signed ≡ t → negsuc 0 ≡ pick t (pos n) (negsuc 0)
    go true h = absurd (p (record { sfits = ltb-true n past_signed h }))
    go false h = refl

-- a value is a signed 64-bit number, and is read back as it is
pub value_back : (n : ℕ) → to_z w64 (of_z w64 (value_of n)) ≡ value_of n
unfolding value_of
value_back n = go (ltb n past_signed) refl
  where
    go : (t : Bool) → ltb n past_signed ≡ t
        → to_z w64 (of_z w64 (pick t (pos n) (negsuc 0))) ≡ pick t (pos n) (negsuc 0)
    go true h = to_z-of_z {w = w64} {z = pos n} (record { sfits = ltb-true n past_signed h })
    go false h = refl
