-- A number at a width reads back from its bytes, and bytes are the only writing of the number that they spell; the same
-- of two's complement. Once, over the width.
use mathlib.Core.Path.{◌≡◌, refl, ap, ap₂}
use mathlib.Core.Bool.{Bool, true, false}
use mathlib.Core.List.{List, [], ◌∷◌}
use Prim.Native.Nat.{ℕ, zero, suc, ◌+◌, ◌-◌, ◌*◌, ◌/◌, ◌^◌, ◌<◌, ◌≤◌}
use native.Mathlib.Nat.{div-add-mod', div-lt_iff_lt-mul, pow-suc}
use native.Mathlib.Omega.{arith}
use lib.Arith.{digits_div, digits_mod}
use lib.Dec.{ltb}
use lib.IntN.{ℤ, pos, negsuc}
use lib.ListN.{length, take, drop}
use lib.Signed.{mag, le_z}
use borrow.Author.Tests.{leb-true, ltb-true, lt-ltb, le-ltb}
use Rattle.paper.specs.Lists.{pick}
use Rattle.paper.specs.Ranges.{within_z}
use Rattle.paper.proofs.Logic.{not_true_and_false, and_left, and_right}
use Rattle.paper_messages.specs.Bytes.{Bytes, no_byte, byte, in_width, bytes_of, spelled, fits_width, complement}
use Rattle.paper_messages.specs.Bytes.{signed_of}

-- ---- bytes

pub take_bytes : (n : ℕ) (bytes : List ℕ) → Bytes bytes → Bytes (take n bytes)
take_bytes zero bytes h = no_byte
take_bytes (suc n) [] h = no_byte
take_bytes (suc n) (b ∷ bytes) (byte p q) = byte p (take_bytes n bytes q)

pub drop_bytes : (n : ℕ) (bytes : List ℕ) → Bytes bytes → Bytes (drop n bytes)
drop_bytes zero bytes h = h
drop_bytes (suc n) [] h = no_byte
drop_bytes (suc n) (b ∷ bytes) (byte p q) = drop_bytes n bytes q

-- ---- a number at a width

pub bytes_length : (width number : ℕ) → length (bytes_of width number) ≡ width
unfolding bytes_of
bytes_length zero number = refl
bytes_length (suc width) number = ap suc (bytes_length width (number / 256))

-- a number within its width reads back
pub bytes_back : (width number : ℕ) → number < in_width width → spelled (bytes_of width number) ≡ number
unfolding bytes_of spelled
bytes_back zero number h = omega arith
bytes_back (suc width) number h =
    let k : number / 256 < 256 ^ width =
    (div-lt_iff_lt-mul {k = 256} {x = number} {y = 256 ^ width} (omega arith)).1 (rw pow-suc at h) in
    rw (bytes_back width (number / 256) k) (omega (arith, div-add-mod' number 256))

-- bytes are the only writing of the number that they spell
pub bytes_only : (bytes : List ℕ) → Bytes bytes → bytes_of (length bytes) (spelled bytes) ≡ bytes
unfolding bytes_of spelled
bytes_only [] h = refl
bytes_only (b ∷ bytes) (byte h k) =
    ap₂ (λ (x : ℕ) (y : List ℕ). x ∷ y) (rw low (digits_mod (spelled bytes) h))
    (rw (low, digits_div (spelled bytes) h) (bytes_only bytes k))
  where
    low : b + 256 * spelled bytes ≡ spelled bytes * 256 + b
    low = omega arith

-- what bytes spell is within their width
pub spelled_in_width : (bytes : List ℕ) → Bytes bytes → spelled bytes < in_width (length bytes)
unfolding spelled
spelled_in_width [] h = omega arith
spelled_in_width (b ∷ bytes) (byte h k) = rw (pow-suc 256 (length bytes)) (omega (arith, spelled_in_width bytes k))

-- ---- two's complement

-- a number that the width has is less than the width's numbers, either way
pub fitting_mag_in_width : (width : ℕ) (z : ℤ) → fits_width width z ≡ true → mag z < in_width width
unfolding fits_width
fitting_mag_in_width width (pos n) h = omega (arith, ltb-true (n + n) (in_width width) h)
fitting_mag_in_width width (negsuc n) h = omega (arith, ltb-true (n + suc n) (in_width width) h)

pub complement_in_width : (width : ℕ) (z : ℤ) → fits_width width z ≡ true → complement width z < in_width width
unfolding fits_width complement
complement_in_width width (pos n) h = omega (arith, ltb-true (n + n) (in_width width) h)
complement_in_width width (negsuc n) h = omega (arith, ltb-true (n + suc n) (in_width width) h)

-- a number that the width has reads back
pub complement_back : (width : ℕ) (z : ℤ) → fits_width width z ≡ true → signed_of width (complement width z) ≡ z
unfolding fits_width complement signed_of
complement_back width (pos n) h = rw h
complement_back width (negsuc n) h =
    let small : n + suc n < in_width width = ltb-true (n + suc n) (in_width width) h in
    let v : ℕ = in_width width - suc n in
    let upper : in_width width ≤ v + v = omega arith in
    let e : in_width width - suc (in_width width - suc n) ≡ n = omega arith in
    rw (le-ltb (v + v) (in_width width) upper, e)

-- a number of the width is the only writing of what it stands for
pub complement_only : (width number : ℕ) → number < in_width width → complement width (signed_of width number) ≡ number
unfolding complement signed_of
complement_only width number h = go (ltb (number + number) (in_width width))
  where
    go : (b : Bool) → complement width (pick b (pos number) (negsuc (in_width width - suc number))) ≡ number
    go true = refl
    go false = omega arith

-- a width that has both ends of a range has every number of it
pub fits_between : (width : ℕ) (low high z : ℤ) → fits_width width low ≡ true → fits_width width high ≡ true
    → within_z low high z ≡ true
    → fits_width width z ≡ true
unfolding fits_width
fits_between width low high z l h w = go low high z l h (and_left (le_z low z) _ w) (and_right (le_z low z) _ w)
  where
    go : (low high z : ℤ) → fits_width width low ≡ true → fits_width width high ≡ true → le_z low z ≡ true
        → le_z z high ≡ true
        → fits_width width z ≡ true
    go low (pos m) (pos n) l h below above =
        lt-ltb (n + n) (in_width width) (omega (arith, leb-true n m above, ltb-true (m + m) (in_width width) h))
    go low (negsuc m) (pos n) l h below above = absurd (not_true_and_false false above refl)
    go (pos m) high (negsuc n) l h below above = absurd (not_true_and_false false below refl)
    go (negsuc m) high (negsuc n) l h below above =
        lt-ltb (n + suc n) (in_width width) (omega (arith, leb-true n m below, ltb-true (m + suc m) (in_width width) l))
