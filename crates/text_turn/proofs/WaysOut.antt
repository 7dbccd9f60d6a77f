-- What the two ways out of `tell` need, on plain values.
use mathlib.Core.Path.{◌≡◌, refl}
use mathlib.Core.List.{List, ◌++◌}
use mathlib.Core.Bool.{true, false}
use Prim.Native.Nat.{ℕ, ◌+◌, ◌-◌, ◌≤◌, ◌<◌}
use native.Mathlib.Nat.{pos_of_ne-zero}
use native.Mathlib.Omega.{arith}
use lib.Dec.{ltb}
use lib.ListN.{length, take, drop, length-append}
use lib.Seq.{drop_at, take-length}
use borrow.Author.Tests.{ltb-false}
use Rattle.text_protocol.specs.Answers.{answer_most, waiting_most}
use Rattle.text_bytes.specs.Bytes.{room}

pub not_due : (n end len left : ℕ) → (left ≡ 0 → ⊥) → end < len → ltb waiting_most n ≡ false
    → (n + answer_most ≤ room) × (end < len) × (0 < left)
not_due n end len left s h e = let k : n ≤ waiting_most = ltb-false waiting_most n e in (omega arith, h, pos_of_ne-zero s)

pub always_due : {A : Type 0} → true ≡ false → A
always_due e = let z : ◌≡◌ {A = ℕ} 0 1 = cc in let y : ⊥ = omega arith in absurd y

-- answers wait only where a line is whole and one is left to hear
pub a_line_is_whole : {A : Type 0} {end len : ℕ} → end < len → len ≤ end → A
a_line_is_whole h k = let z : ⊥ = omega arith in absurd z

pub a_line_is_left : {A : Type 0} {left : ℕ} → 0 < left → left ≡ 0 → A
a_line_is_left h k = let z : ⊥ = omega arith in absurd z

-- what was told stands behind what waited
pub told_behind : (o t b : List ℕ) (n : ℕ) → b ≡ o ++ t → n ≡ length o → take (length b - n) (drop n b) ≡ t
told_behind o t b n e f =
    let size : length (o ++ t) - length o ≡ length t = omega (arith, length-append o t) in
    rw (e, f, drop_at o t (length o) refl, size) (take-length t)
