-- The exclusive or of two numbers is a sum over two elements, bit by bit: in any order, and what was added can be taken
-- off by adding it again.
use mathlib.Core.Path.{◌≡◌, refl, sym, ap, ap₂, ◌∙◌}
use Prim.Native.Nat.{ℕ, zero, suc, ◌+◌, ◌*◌, ◌/◌, ◌%◌, ◌<◌}
use native.Mathlib.Nat.{mod-lt, zero-lt-suc, not-suc-le-zero, le_of_suc-le-suc}
use lib.Arith.{bin_ind}
use lib.Bits.{bit_xor, differ, xor_step, xor_zero_r, xor_self, xor_comm, xor_shr, xor_mod}

-- ---- a bit

bit_bound : (n : ℕ) → n % 2 < 2
bit_bound n = mod-lt n (zero-lt-suc 1)

differ_assoc : (x y z : ℕ) → x < 2 → y < 2 → z < 2 → differ (differ x y) z ≡ differ x (differ y z)
differ_assoc zero y z hx hy hz = refl
differ_assoc (suc zero) zero z hx hy hz = refl
differ_assoc (suc zero) (suc zero) zero hx hy hz = refl
differ_assoc (suc zero) (suc zero) (suc zero) hx hy hz = refl
differ_assoc (suc zero) (suc zero) (suc (suc z)) hx hy hz =
    absurd (not-suc-le-zero (le_of_suc-le-suc (le_of_suc-le-suc hz)))
differ_assoc (suc zero) (suc (suc y)) z hx hy hz =
    absurd (not-suc-le-zero (le_of_suc-le-suc (le_of_suc-le-suc hy)))
differ_assoc (suc (suc x)) y z hx hy hz = absurd (not-suc-le-zero (le_of_suc-le-suc (le_of_suc-le-suc hx)))

bit_exclusive : (x y : ℕ) → x < 2 → y < 2 → bit_xor x y ≡ differ x y
bit_exclusive zero y hx hy = refl
bit_exclusive (suc zero) zero hx hy = refl
bit_exclusive (suc zero) (suc zero) hx hy = refl
bit_exclusive (suc zero) (suc (suc y)) hx hy = absurd (not-suc-le-zero (le_of_suc-le-suc (le_of_suc-le-suc hy)))
bit_exclusive (suc (suc x)) y hx hy = absurd (not-suc-le-zero (le_of_suc-le-suc (le_of_suc-le-suc hx)))

-- ---- a number

pub exclusive_half : (a b : ℕ) → bit_xor a b / 2 ≡ bit_xor (a / 2) (b / 2)
exclusive_half a b = xor_shr a b 1

pub exclusive_bit : (a b : ℕ) → bit_xor a b % 2 ≡ differ (a % 2) (b % 2)
exclusive_bit a b = xor_mod a b 1 ∙ bit_exclusive (a % 2) (b % 2) (bit_bound a) (bit_bound b)

pub exclusive_assoc : (a b c : ℕ) → bit_xor (bit_xor a b) c ≡ bit_xor a (bit_xor b c)
exclusive_assoc a =
    bin_ind (λ (n : ℕ). (b c : ℕ) → bit_xor (bit_xor n b) c ≡ bit_xor n (bit_xor b c)) (λ b c. refl)
    (λ n ih b c. xor_step (bit_xor n b) c
    ∙ ap₂ (λ (x y : ℕ). bit_xor x (c / 2) * 2 + differ y (c % 2)) (exclusive_half n b) (exclusive_bit n b)
    ∙ ap₂ (λ (x y : ℕ). x * 2 + y) (ih (b / 2) (c / 2))
    (differ_assoc (n % 2) (b % 2) (c % 2) (bit_bound n) (bit_bound b) (bit_bound c))
    ∙ sym (ap₂ (λ (x y : ℕ). bit_xor (n / 2) x * 2 + differ (n % 2) y) (exclusive_half b c) (exclusive_bit b c))
    ∙ sym (xor_step n (bit_xor b c))) a

pub exclusive_four : (a b c d : ℕ) → bit_xor (bit_xor a b) (bit_xor c d) ≡ bit_xor (bit_xor a c) (bit_xor b d)
exclusive_four a b c d =
    exclusive_assoc a b (bit_xor c d)
    ∙ ap (bit_xor a)
    (sym (exclusive_assoc b c d) ∙ ap (λ (x : ℕ). bit_xor x d) (xor_comm b c) ∙ exclusive_assoc c b d)
    ∙ sym (exclusive_assoc a c (bit_xor b d))

twice : (a b : ℕ) → bit_xor (bit_xor a b) b ≡ a
twice a b = exclusive_assoc a b b ∙ ap (bit_xor a) (xor_self b) ∙ xor_zero_r a

pub exclusive_cancel : {a b : ℕ} (c : ℕ) → bit_xor a c ≡ bit_xor b c → a ≡ b
exclusive_cancel {a} {b} c same = sym (twice a c) ∙ ap (λ (x : ℕ). bit_xor x c) same ∙ twice b c

pub exclusive_cancel_front : {b c : ℕ} (a : ℕ) → bit_xor a b ≡ bit_xor a c → b ≡ c
exclusive_cancel_front {b} {c} a same = exclusive_cancel a (xor_comm b a ∙ same ∙ xor_comm a c)
