-- The last digits of a number, as many as it has, are its text.
use mathlib.Core.Path.{◌≡◌, refl, sym}
use mathlib.Core.List.{[], ◌∷◌}
use Prim.Native.Nat.{ℕ, zero, suc, ◌+◌, ◌-◌, ◌*◌, ◌/◌, ◌%◌, ◌^◌, ◌≤◌, ◌<◌}
use native.Mathlib.Nat.{pow-suc, pow-le-pow_right, mod-eq_of_lt, div-lt_iff_lt-mul, le-div_iff_mul-le}
use native.Mathlib.Omega.{arith}
use lib.ListN.{length, length-append}
use borrow.Author.Tests.{lt-ltb, le-ltb}
use Rattle.text_bytes.specs.Numbers.{spelt, decimal}
use Rattle.text_bytes.proofs.Decimals.{tenth_is_less}
use Rattle.text_out.specs.Places.{last, Places}
use Rattle.text_bytes.specs.Bytes.{digit_zero}

pub last_length : (k n : ℕ) → length (last k n) ≡ k
unfolding last
last_length zero n = refl
last_length (suc k) n =
    rw (length-append (last k (n / 10)) ((digit_zero + n % 10) ∷ []), last_length k (n / 10)) (omega arith)

-- enough steps
spelt_last : (f k n : ℕ) → n < f → n < 10 ^ suc k → 10 ^ k ≤ n + (1 - n) → spelt f n ≡ last (suc k) n
unfolding spelt last
spelt_last zero k n h lo hi = let z : ⊥ = omega arith in absurd z
spelt_last (suc f) zero n h lo hi =
    let s : n < 10 = omega arith in
    rw (lt-ltb n 10 s, mod-eq_of_lt s)
spelt_last (suc f) (suc k) n h lo hi =
    let o : 0 < 10 = omega arith in
    let p : 1 ≤ 10 ^ k = omega (arith, pow-le-pow_right {n = 10} o {i = 0} {j = k} (omega arith)) in
    let e : 10 ^ suc k ≡ 10 ^ k * 10 = pow-suc 10 k in
    let g : 10 ≤ n = omega arith in
    let a : n / 10 < 10 ^ suc k = (div-lt_iff_lt-mul {k = 10} {x = n} {y = 10 ^ suc k} o).1 (rw (pow-suc 10 (suc k)) at
    lo) in
    let b : 10 ^ k ≤ n / 10 = (le-div_iff_mul-le {k = 10} {x = 10 ^ k} {y = n} o).1 (omega arith) in
    let c : n / 10 < f = omega (arith, tenth_is_less n g) in
    rw (le-ltb n 10 g, spelt_last f k (n / 10) c a (omega arith))

pub decimal_last : (x k : ℕ) → Places x k → last k x ≡ decimal x
unfolding decimal
decimal_last x zero p = let z : ⊥ = omega arith in absurd z
decimal_last x (suc k) p = sym (spelt_last (suc x) k x (omega arith) p.2 (rw (one_less k) at p.3))
  where
    one_less : (k : ℕ) → suc k - 1 ≡ k
    one_less k = omega arith
