-- One turn of the loop of `put_number`, on plain values.
use mathlib.Core.Path.{◌≡◌, refl, sym, ◌∙◌}
use mathlib.Core.List.{List, [], ◌∷◌, ◌++◌}
use Prim.Native.Nat.{ℕ, zero, suc, ◌+◌, ◌-◌, ◌/◌, ◌%◌, ◌≤◌, ◌<◌}
use native.Mathlib.Omega.{arith}
use lib.ListN.{length, set, take, drop, length-append}
use lib.Seq.{sets, set_comm, sets-eq, take_at, length-take-le}
use Rattle.exact.specs.StoreLaws.{sets_of_both}
use Rattle.text_bytes.specs.Numbers.{decimal}
use Rattle.text_out.specs.Places.{last, Places, number_bytes}
use Rattle.text_out.specs.Wrote.{Wrote}
use Rattle.text_out.proofs.Digits.{last_length, decimal_last}
use Rattle.text_bytes.specs.Bytes.{digit_zero}

-- a store behind a run of stores may come first
sets_after : (s b : List ℕ) (at i d : ℕ) → at + length s ≤ i → sets (set b i d) at s ≡ set (sets b at s) i d
sets_after [] b at i d h = refl
sets_after (x ∷ s) b at i d h =
    let n : i ≡ at → ⊥ = λ e. apart e in
    rw (set_comm b i at d x n) (sets_after s (set b at x) (suc at) i d (omega arith))
  where
    apart : i ≡ at → ⊥
    apart e = omega arith

-- what is left to spell, i - at digits of `rest`, leads to the same bytes
pub record Spelling (b₀ : List ℕ) (at end x : ℕ) (b : List ℕ) (i rest : ℕ) : Type 0 where
  pub low : at ≤ i
  pub high : i ≤ end
  pub left : sets b at (last (i - at) rest) ≡ sets b₀ at (last (end - at) x)

pub spelling_none : (b : List ℕ) (at end x : ℕ) → at ≤ end → Spelling b at end x b end x
spelling_none b at end x h = record { low = h; high = omega arith; left = refl }

pub spelling_more : (b₀ : List ℕ) (at end x : ℕ) (b : List ℕ) (i rest : ℕ) → Spelling b₀ at end x b i rest → at < i
    → Spelling b₀ at end x (set b (i - 1) (digit_zero + rest % 10)) (i - 1) (rest / 10)
unfolding last
spelling_more b₀ at end x b i rest p h =
    let e : i - at ≡ suc (i - 1 - at) = omega arith in
    let f : at + (i - 1 - at) ≡ i - 1 = omega arith in
    let s : List ℕ = last (i - 1 - at) (rest / 10) in
    let l : length s ≡ i - 1 - at = last_length (i - 1 - at) (rest / 10) in
    let m : sets b at (s ++ ((digit_zero + rest % 10) ∷ [])) ≡ set (sets b at s) (i - 1) (digit_zero + rest % 10) =
    rw (l, f) at (sets_of_both s ((digit_zero + rest % 10) ∷ []) b at) in
    record {
      low = omega arith;
      high = omega (arith, p.high);
      left = sets_after s b at (i - 1) (digit_zero + rest % 10) (omega arith) ∙ sym m ∙ (rw e at p.left);
    }

-- where nothing is left, the digits stand behind what was there
pub spelling_all : (b₀ : List ℕ) (at k x : ℕ) (b : List ℕ) (i rest : ℕ) → Spelling b₀ at (at + k) x b i rest → i ≤ at
    → Places x k → at + k ≤ length b₀ → take (at + k) b ≡ take at b₀ ++ decimal x
unfolding last
spelling_all b₀ at k x b i rest p h q room =
    let none : i - at ≡ zero = omega arith in
    let all : at + k - at ≡ k = omega arith in
    let d : last k x ≡ decimal x = decimal_last x k q in
    let size : length (decimal x) ≡ k = rw (← d, last_length k x) in
    let bytes : b ≡ sets b₀ at (decimal x) = (rw none at p.left) ∙ rw (all, d) in
    let fits : at + length (decimal x) ≤ length b₀ = omega (arith, size) in
    let start : at ≤ length b₀ = omega arith in
    let long : length (take at b₀ ++ decimal x) ≡ at + k =
    rw (length-append (take at b₀) (decimal x), length-take-le at b₀ start, size) in
    rw (bytes, sets-eq (decimal x) b₀ at fits)
    (take_at (take at b₀ ++ decimal x) (drop (at + length (decimal x)) b₀) (at + k) long)

-- in the form of `Wrote`
pub spelling_wrote : (b₀ : List ℕ) (at k x : ℕ) (b : List ℕ) (i rest : ℕ) → Spelling b₀ at (at + k) x b i rest → i ≤ at
    → Places x k → Wrote b₀ at b (at + k) (decimal x) number_bytes
unfolding last
spelling_wrote b₀ at k x b i rest p h q =
    let e : i - at ≡ zero = omega arith in
    let all : at + k - at ≡ k = omega arith in
    let d : last k x ≡ decimal x = decimal_last x k q in
    record {
      bytes = (rw e at p.left) ∙ rw (all, d);
      long = rw (← d, last_length k x);
      most = omega arith;
    }
