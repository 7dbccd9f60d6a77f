-- W-212: "at fixed widths, little-endian: .. negatives in two's complement". A number as bytes, and a signed number as
-- a number of so many bytes.
use Rattle.std.specs.Prelude.{Bool, List, [], ◌∷◌, ℕ, zero, suc, ◌+◌, ◌-◌, ◌*◌, ◌/◌, ◌%◌, ◌^◌, ◌<◌, ltb, ℤ, pos, negsuc}
use Rattle.paper.specs.Lists.{pick}

-- how many numbers a byte has
abbrev pub in_byte : ℕ
in_byte = 256

-- every one of them is a byte
pub data Bytes : List ℕ → Type 0 where
  no_byte : Bytes []
  byte : {b : ℕ} {bytes : List ℕ} → b < in_byte → Bytes bytes → Bytes (b ∷ bytes)

-- the bytes of a number at a width, the lowest first
unfoldable pub bytes_of : (width number : ℕ) → List ℕ
bytes_of zero number = []
bytes_of (suc width) number = number % in_byte ∷ bytes_of width (number / in_byte)

-- the number that bytes spell, the lowest first
unfoldable pub spelled : (bytes : List ℕ) → ℕ
spelled [] = 0
spelled (b ∷ bytes) = b + in_byte * spelled bytes

-- how many numbers a width has
abbrev pub in_width : (width : ℕ) → ℕ
in_width width = in_byte ^ width

-- the widest: a 64-bit number
abbrev pub width_most : ℕ
width_most = 8

-- whether a width has a signed number: the lower half of its numbers are not negative, and the upper half are
unfoldable pub fits_width : (width : ℕ) → (number : ℤ) → Bool
fits_width width (pos n) = ltb (n + n) (in_width width)
fits_width width (negsuc n) = ltb (n + suc n) (in_width width)

-- the number that stands for a signed one at a width: -1 is the greatest
unfoldable pub complement : (width : ℕ) → (number : ℤ) → ℕ
complement width (pos n) = n
complement width (negsuc n) = in_width width - suc n

-- the signed number that a number of a width stands for: the lower half for themselves, the upper half for negatives
unfoldable pub signed_of : (width number : ℕ) → ℤ
signed_of width number =
    pick (ltb (number + number) (in_width width)) (pos number) (negsuc (in_width width - suc number))
