-- CRC-32 as IEEE 802.3 has it: a text is a polynomial over two elements, a bit a coefficient, and its sum is what is left
-- of it after a division by the standard's generator. The bits of a byte come lowest first, and the standard writes a
-- remainder turned round (reflected): its highest bit is the coefficient of x^0, its lowest that of x^31.
use Rattle.std.specs.Prelude.{List, [], ◌∷◌, ℕ, zero, suc, ◌-◌, ◌*◌, ◌/◌, ◌%◌, ◌^◌}
use Rattle.std.specs.Int.Bits.{bit_xor}

-- how many bits a sum has, and how many a byte
abbrev pub sum_bits : ℕ
sum_bits = 32

abbrev pub byte_bits : ℕ
byte_bits = 8

-- x^32 + x^26 + x^23 + x^22 + x^16 + x^12 + x^11 + x^10 + x^8 + x^7 + x^5 + x^4 + x^2 + x + 1 without its x^32, turned
-- round: EDB88320
abbrev pub generator : ℕ
generator = 3988292384

-- ---- the division

-- a remainder times x, divided: all bits go a place down, and where x^31 becomes x^32 the generator is taken off. Over
-- two elements to take off is to add, and to add is the exclusive or
unfoldable pub divided : (remainder : ℕ) → ℕ
divided remainder = bit_xor (remainder / 2) (remainder % 2 * generator)

-- the bits of a number, the lowest first
unfoldable pub bits_of : (count number : ℕ) → List ℕ
bits_of zero number = []
bits_of (suc count) number = number % 2 ∷ bits_of count (number / 2)

-- what is left after bits more
unfoldable pub after_bits : (remainder : ℕ) → (bits : List ℕ) → ℕ
after_bits remainder [] = remainder
after_bits remainder (bit ∷ bits) = after_bits (divided (bit_xor remainder bit)) bits

-- what is left after bytes more
unfoldable pub after_bytes : (remainder : ℕ) → (bytes : List ℕ) → ℕ
after_bytes remainder [] = remainder
after_bytes remainder (byte ∷ bytes) = after_bytes (after_bits remainder (bits_of byte_bits byte)) bytes

-- ---- the sum

-- every bit the other way
abbrev pub inverted : ℕ → ℕ
inverted remainder = 2 ^ sum_bits - 1 - remainder

-- the sum of a longer text, from the sum of its front and the bytes behind it
unfoldable pub sum_on : (sum : ℕ) → (bytes : List ℕ) → ℕ
sum_on sum bytes = inverted (after_bytes (inverted sum) bytes)

-- THE SUM OF A TEXT: the division begins with all 32 bits set, and what is left is inverted
unfoldable pub sum_of : (bytes : List ℕ) → ℕ
sum_of bytes = sum_on 0 bytes
