-- What a member and a journal may rely on: a sum goes on from piece to piece, and a text of which one byte is another, as
-- where a bit was flipped, has another sum.
use mathlib.Core.Path.{◌≡◌, refl, sym, ap, ◌∙◌}
use mathlib.Core.List.{List, [], ◌∷◌, ◌++◌}
use Prim.Native.Nat.{ℕ, ◌^◌, ◌<◌}
use native.Mathlib.Omega.{arith}
use lib.Bits.{bit_xor, xor_lt, xor_zero_r}
use lib.Pow.{pow-lt, pow_pos}
use Rattle.sums.specs.Sums.{sum_bits, byte_bits, bits_of, after_bits, after_bytes, inverted, sum_on, sum_of}
use Rattle.sums.proofs.Exclusive.{exclusive_cancel_front}
use Rattle.sums.proofs.Division.{bits_at_once, divided_by_injective, bits_bound, bits_injective}

-- ---- a remainder after bytes

pub bytes_bound : (bytes : List ℕ) (remainder : ℕ) → remainder < 2 ^ sum_bits → after_bytes remainder bytes < 2 ^ sum_bits
unfolding after_bytes
bytes_bound [] remainder h = h
bytes_bound (byte ∷ bytes) remainder h =
    bytes_bound bytes (after_bits remainder (bits_of byte_bits byte)) (bits_bound byte_bits remainder byte h)

bytes_injective : (bytes : List ℕ) (a b : ℕ) → a < 2 ^ sum_bits → b < 2 ^ sum_bits
    → after_bytes a bytes ≡ after_bytes b bytes → a ≡ b
unfolding after_bytes
bytes_injective [] a b ha hb same = same
bytes_injective (byte ∷ bytes) a b ha hb same =
    bits_injective byte_bits a b byte ha hb
    (bytes_injective bytes (after_bits a (bits_of byte_bits byte)) (after_bits b (bits_of byte_bits byte))
    (bits_bound byte_bits a byte ha) (bits_bound byte_bits b byte hb) same)

bytes_append : (front back : List ℕ) (remainder : ℕ)
    → after_bytes remainder (front ++ back) ≡ after_bytes (after_bytes remainder front) back
unfolding after_bytes
bytes_append [] back remainder = refl
bytes_append (byte ∷ front) back remainder = bytes_append front back (after_bits remainder (bits_of byte_bits byte))

-- ---- the sum goes on from piece to piece

inverted_bound : (n : ℕ) → inverted n < 2 ^ sum_bits
inverted_bound n = omega arith

inverted_twice : (n : ℕ) → n < 2 ^ sum_bits → inverted (inverted n) ≡ n
inverted_twice n h = omega arith

pub sum_bound : (sum : ℕ) (bytes : List ℕ) → sum_on sum bytes < 2 ^ sum_bits
unfolding sum_on
sum_bound sum bytes = inverted_bound (after_bytes (inverted sum) bytes)

pub sum_goes_on : (sum : ℕ) (front back : List ℕ) → sum_on (sum_on sum front) back ≡ sum_on sum (front ++ back)
unfolding sum_on
sum_goes_on sum front back =
    ap (λ (n : ℕ). inverted (after_bytes n back))
    (inverted_twice (after_bytes (inverted sum) front) (bytes_bound front (inverted sum) (inverted_bound sum)))
    ∙ sym (ap inverted (bytes_append front back (inverted sum)))

-- ---- another byte, another sum

byte_tells : (a b remainder : ℕ) → a < 2 ^ byte_bits → b < 2 ^ byte_bits → remainder < 2 ^ sum_bits
    → after_bits remainder (bits_of byte_bits a) ≡ after_bits remainder (bits_of byte_bits b) → a ≡ b
byte_tells a b remainder ha hb h same =
    exclusive_cancel_front remainder
    (divided_by_injective byte_bits (bit_xor remainder a) (bit_xor remainder b)
    (xor_lt sum_bits remainder a h (omega arith)) (xor_lt sum_bits remainder b h (omega arith))
    (bits_at_once byte_bits remainder a ha ∙ same ∙ sym (bits_at_once byte_bits remainder b hb)))

-- A TEXT OF WHICH ONE BYTE IS ANOTHER HAS ANOTHER SUM, whatever stands before and behind it
pub one_byte_tells : (front back : List ℕ) (a b : ℕ) → a < 2 ^ byte_bits → b < 2 ^ byte_bits
    → sum_of (front ++ a ∷ back) ≡ sum_of (front ++ b ∷ back) → a ≡ b
unfolding sum_of sum_on after_bytes
one_byte_tells front back a b ha hb same =
    let start : ℕ = inverted 0 in
    let r : ℕ = after_bytes start front in
    let bound : r < 2 ^ sum_bits = bytes_bound front start (inverted_bound 0) in
    let kept : (c : ℕ) → after_bytes start (front ++ c ∷ back) < 2 ^ sum_bits =
    λ c. bytes_bound (front ++ c ∷ back) start (inverted_bound 0) in
    byte_tells a b r ha hb bound
    (bytes_injective back (after_bits r (bits_of byte_bits a)) (after_bits r (bits_of byte_bits b))
    (bits_bound byte_bits r a bound) (bits_bound byte_bits r b bound)
    (sym (bytes_append front (a ∷ back) start)
    ∙ sym (inverted_twice (after_bytes start (front ++ a ∷ back)) (kept a))
    ∙ ap inverted same
    ∙ inverted_twice (after_bytes start (front ++ b ∷ back)) (kept b)
    ∙ bytes_append front (b ∷ back) start))

-- ANY ONE FLIPPED BIT CHANGES THE SUM, of a text of whatever length
pub flipped_bit_tells : (front back : List ℕ) (byte bit : ℕ) → byte < 2 ^ byte_bits → bit < byte_bits
    → sum_of (front ++ bit_xor byte (2 ^ bit) ∷ back) ≡ sum_of (front ++ byte ∷ back) → ⊥
flipped_bit_tells front back byte bit h hb same =
    let flipped : bit_xor byte (2 ^ bit) ≡ byte =
    one_byte_tells front back (bit_xor byte (2 ^ bit)) byte (xor_lt byte_bits byte (2 ^ bit) h (pow-lt hb)) h same in
    let nothing : 2 ^ bit ≡ 0 = exclusive_cancel_front byte (flipped ∙ sym (xor_zero_r byte)) in
    omega (arith, pow_pos bit)
