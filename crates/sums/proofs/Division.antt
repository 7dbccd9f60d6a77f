-- The division, step by step: a step of a sum is the sum of the steps, no two remainders have the same step, and eight
-- steps are a table's entry and the bits that are left.
use mathlib.Core.Path.{◌≡◌, refl, sym, ap, ap₂, ◌∙◌}
use Prim.Native.Nat.{ℕ, zero, suc, ◌+◌, ◌*◌, ◌/◌, ◌%◌, ◌^◌, ◌<◌}
use native.Mathlib.Nat.{mod-lt, zero-lt-suc, not-suc-le-zero, le_of_suc-le-suc, div-add-mod', div-lt_iff_lt-mul}
use native.Mathlib.Nat.{pow-suc}
use native.Mathlib.Omega.{arith}
use lib.Bits.{bit_xor, differ, xor_zero_r, xor_shr, xor_lt, xor_shifted, shifted_half}
use lib.Bits.{shifted_even, xor_comm, bit_and, and_mask}
use lib.Arith.{lt-one}
use lib.Pow.{split, pow_pos}
use Rattle.sums.specs.Sums.{sum_bits, byte_bits, generator, divided, bits_of, after_bits}
use Rattle.sums.specs.Steps.{divided_by}
use Rattle.sums.proofs.Exclusive.{exclusive_half, exclusive_bit, exclusive_assoc, exclusive_four}
use Rattle.sums.proofs.Exclusive.{exclusive_cancel}

-- ---- a step of a sum is the sum of the steps

taken_off : (x y : ℕ) → x < 2 → y < 2 → differ x y * generator ≡ bit_xor (x * generator) (y * generator)
taken_off zero y hx hy = refl
taken_off (suc zero) zero hx hy = refl
taken_off (suc zero) (suc zero) hx hy = refl
taken_off (suc zero) (suc (suc y)) hx hy = absurd (not-suc-le-zero (le_of_suc-le-suc (le_of_suc-le-suc hy)))
taken_off (suc (suc x)) y hx hy = absurd (not-suc-le-zero (le_of_suc-le-suc (le_of_suc-le-suc hx)))

two : zero < 2
two = zero-lt-suc 1

divided_sum : (a b : ℕ) → divided (bit_xor a b) ≡ bit_xor (divided a) (divided b)
unfolding divided
divided_sum a b =
    ap₂ (λ (x y : ℕ). bit_xor x (y * generator)) (exclusive_half a b) (exclusive_bit a b)
    ∙ ap (bit_xor (bit_xor (a / 2) (b / 2))) (taken_off (a % 2) (b % 2) (mod-lt a two) (mod-lt b two))
    ∙ exclusive_four (a / 2) (b / 2) (a % 2 * generator) (b % 2 * generator)

divided_by_sum : (count a b : ℕ) → divided_by count (bit_xor a b) ≡ bit_xor (divided_by count a) (divided_by count b)
unfolding divided_by
divided_by_sum zero a b = refl
divided_by_sum (suc count) a b =
    ap (divided_by count) (divided_sum a b) ∙ divided_by_sum count (divided a) (divided b)

-- ---- where the low bits are 0, nothing is taken off

divided_even : (a k : ℕ) → divided (a * 2 ^ suc k) ≡ a * 2 ^ k
unfolding divided
divided_even a k =
    ap₂ (λ (x y : ℕ). bit_xor x (y * generator)) (shifted_half a k) (shifted_even a k) ∙ xor_zero_r (a * 2 ^ k)

divided_by_shifted : (a count : ℕ) → divided_by count (a * 2 ^ count) ≡ a
unfolding divided_by
divided_by_shifted a zero = omega arith
divided_by_shifted a (suc count) = ap (divided_by count) (divided_even a count) ∙ divided_by_shifted a count

-- so many steps are those of the low bits, and the bits above them
pub steps_split : (count a : ℕ) → divided_by count a ≡ bit_xor (a / 2 ^ count) (divided_by count (a % 2 ^ count))
steps_split count a =
    ap (divided_by count)
    (sym (split a count) ∙ sym (xor_shifted (a / 2 ^ count) count (a % 2 ^ count) (mod-lt a (pow_pos count))))
    ∙ divided_by_sum count (a / 2 ^ count * 2 ^ count) (a % 2 ^ count)
    ∙ ap (λ (x : ℕ). bit_xor x (divided_by count (a % 2 ^ count))) (divided_by_shifted (a / 2 ^ count) count)

-- ---- bits that come in one by one, and all of them at once

next_bit : (count remainder number : ℕ)
    → divided_by (suc count) (bit_xor remainder number)
    ≡ divided_by count (bit_xor (divided (bit_xor remainder (number % 2))) (number / 2))
unfolding divided_by
next_bit count remainder number =
    ap (divided_by count)
    (ap divided
    (ap (bit_xor remainder)
    (sym (split number 1) ∙ sym (xor_shifted (number / 2) 1 (number % 2) (mod-lt number two))
    ∙ xor_comm (number / 2 * 2) (number % 2))
    ∙ sym (exclusive_assoc remainder (number % 2) (number / 2 * 2)))
    ∙ divided_sum (bit_xor remainder (number % 2)) (number / 2 * 2)
    ∙ ap (bit_xor (divided (bit_xor remainder (number % 2)))) (divided_even (number / 2) zero ∙ omega arith))

half_below : (count number : ℕ) → number < 2 ^ suc count → number / 2 < 2 ^ count
half_below count number h = (div-lt_iff_lt-mul two).1 (rw pow-suc at h)

pub bits_at_once : (count remainder number : ℕ) → number < 2 ^ count
    → divided_by count (bit_xor remainder number) ≡ after_bits remainder (bits_of count number)
unfolding divided_by after_bits bits_of
bits_at_once zero remainder number h = ap (bit_xor remainder) (lt-one h) ∙ xor_zero_r remainder
bits_at_once (suc count) remainder number h =
    next_bit count remainder number
    ∙ bits_at_once count (divided (bit_xor remainder (number % 2))) (number / 2) (half_below count number h)

-- a byte comes in by the eight steps of its own eight bits, the remainder's low ones among them
pub byte_steps : (remainder byte : ℕ) → byte < 2 ^ byte_bits
    → bit_xor (remainder / 2 ^ byte_bits) (divided_by byte_bits (bit_and (bit_xor remainder byte) 255))
    ≡ after_bits remainder (bits_of byte_bits byte)
byte_steps remainder byte h =
    let none : byte / 2 ^ byte_bits ≡ 0 = omega arith in
    ap₂ (λ (x y : ℕ). bit_xor x (divided_by byte_bits y))
    (sym (xor_shr remainder byte byte_bits ∙ ap (bit_xor (remainder / 2 ^ byte_bits)) none
    ∙ xor_zero_r (remainder / 2 ^ byte_bits)))
    (and_mask (bit_xor remainder byte) byte_bits)
    ∙ sym (steps_split byte_bits (bit_xor remainder byte))
    ∙ bits_at_once byte_bits remainder byte h

-- ---- no two remainders have the same step

-- what is taken off has as many bits as a sum, and its highest is set
off_bound : (a : ℕ) → a % 2 * generator < 2 ^ sum_bits
off_bound a = omega (arith, mod-lt a two)

off_highest : (bit : ℕ) → bit < 2 → bit * generator / 2 ^ 31 ≡ bit
off_highest zero h = refl
off_highest (suc zero) h = refl
off_highest (suc (suc bit)) h = absurd (not-suc-le-zero (le_of_suc-le-suc (le_of_suc-le-suc h)))

-- so the highest bit of a step says whether the generator was taken off
highest : (a : ℕ) → a < 2 ^ sum_bits → divided a / 2 ^ 31 ≡ a % 2
unfolding divided
highest a h =
    let none : a / 2 / 2 ^ 31 ≡ 0 = omega arith in
    xor_shr (a / 2) (a % 2 * generator) 31
    ∙ ap₂ bit_xor none (off_highest (a % 2) (mod-lt a two))

pub divided_bound : (a : ℕ) → a < 2 ^ sum_bits → divided a < 2 ^ sum_bits
unfolding divided
divided_bound a h = xor_lt sum_bits (a / 2) (a % 2 * generator) (omega arith) (off_bound a)

pub divided_injective : (a b : ℕ) → a < 2 ^ sum_bits → b < 2 ^ sum_bits → divided a ≡ divided b → a ≡ b
unfolding divided
divided_injective a b ha hb same =
    let bit : a % 2 ≡ b % 2 = sym (highest a ha) ∙ ap (λ (x : ℕ). x / 2 ^ 31) same ∙ highest b hb in
    let half : a / 2 ≡ b / 2 =
    exclusive_cancel (b % 2 * generator)
    (ap (λ (x : ℕ). bit_xor (a / 2) (x * generator)) (sym bit) ∙ same) in
    sym (div-add-mod' a 2) ∙ ap₂ (λ (x y : ℕ). x * 2 + y) half bit ∙ div-add-mod' b 2

pub divided_by_injective : (count a b : ℕ) → a < 2 ^ sum_bits → b < 2 ^ sum_bits
    → divided_by count a ≡ divided_by count b → a ≡ b
unfolding divided_by
divided_by_injective zero a b ha hb same = same
divided_by_injective (suc count) a b ha hb same =
    divided_injective a b ha hb
    (divided_by_injective count (divided a) (divided b) (divided_bound a ha) (divided_bound b hb) same)

-- ---- the same of bits that come in

bit_in : (remainder number : ℕ) → remainder < 2 ^ sum_bits → bit_xor remainder (number % 2) < 2 ^ sum_bits
bit_in remainder number h = xor_lt sum_bits remainder (number % 2) h (omega (arith, mod-lt number two))

pub bits_bound : (count remainder number : ℕ) → remainder < 2 ^ sum_bits
    → after_bits remainder (bits_of count number) < 2 ^ sum_bits
unfolding after_bits bits_of
bits_bound zero remainder number h = h
bits_bound (suc count) remainder number h =
    bits_bound count (divided (bit_xor remainder (number % 2))) (number / 2)
    (divided_bound (bit_xor remainder (number % 2)) (bit_in remainder number h))

pub bits_injective : (count a b number : ℕ) → a < 2 ^ sum_bits → b < 2 ^ sum_bits
    → after_bits a (bits_of count number) ≡ after_bits b (bits_of count number) → a ≡ b
unfolding after_bits bits_of
bits_injective zero a b number ha hb same = same
bits_injective (suc count) a b number ha hb same =
    let a_in : bit_xor a (number % 2) < 2 ^ sum_bits = bit_in a number ha in
    let b-in : bit_xor b (number % 2) < 2 ^ sum_bits = bit_in b number hb in
    exclusive_cancel (number % 2)
    (divided_injective (bit_xor a (number % 2)) (bit_xor b (number % 2)) a_in b-in
    (bits_injective count (divided (bit_xor a (number % 2))) (divided (bit_xor b (number % 2))) (number / 2)
    (divided_bound (bit_xor a (number % 2)) a_in) (divided_bound (bit_xor b (number % 2)) b-in) same))
