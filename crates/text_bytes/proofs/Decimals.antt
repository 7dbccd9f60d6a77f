-- `decimal n` is the one text of n.
use mathlib.Core.Path.{◌≡◌, refl}
use mathlib.Core.Bool.{Bool, true, false}
use mathlib.Core.List.{List, [], ◌∷◌, ◌++◌}
use Prim.Native.Nat.{ℕ, zero, suc, ◌+◌, ◌*◌, ◌/◌, ◌%◌, ◌≤◌, ◌<◌}
use native.Mathlib.Nat.{div-add-mod', mod-lt}
use native.Mathlib.Omega.{arith}
use lib.Arith.{digits_div, digits_mod}
use lib.Dec.{ltb}
use borrow.Author.Tests.{lt-ltb, le-ltb, ltb-true, ltb-false}
use Rattle.paper.specs.Lists.{pick}
use Rattle.text_bytes.specs.Bytes.{digit_zero}
use Rattle.text_bytes.specs.Numbers.{Decimal, one, more, spelt, decimal}

pub tenth_is_less : (n : ℕ) → 10 ≤ n → n / 10 < n
tenth_is_less n h = omega (arith, div-add-mod' n 10)

-- the steps do not matter, once there are enough
spelt_same : (f g n : ℕ) → n < f → n < g → spelt f n ≡ spelt g n
unfolding spelt
spelt_same zero g n h k = let z : ⊥ = omega arith in absurd z
spelt_same (suc f) zero n h k = let z : ⊥ = omega arith in absurd z
spelt_same (suc f) (suc g) n h k = go (ltb n 10) refl (λ a b. spelt_same f g (n / 10) a b)
  where
    go : (t : Bool) → ltb n 10 ≡ t → (n / 10 < f → n / 10 < g → spelt f (n / 10) ≡ spelt g (n / 10))
        → pick t ((digit_zero + n) ∷ []) (spelt f (n / 10) ++ ((digit_zero + n % 10) ∷ []))
        ≡ pick t ((digit_zero + n) ∷ []) (spelt g (n / 10) ++ ((digit_zero + n % 10) ∷ []))
    go true e rest = refl
    go false e rest =
        let l : n / 10 < n = tenth_is_less n (ltb-false n 10 e) in
        rw (rest (omega arith) (omega arith))

-- what is a text of n is `decimal n`
pub decimal_only : {n : ℕ} {t : List ℕ} → Decimal n t → t ≡ decimal n
unfolding decimal spelt
decimal_only (one {d} h) = rw (lt-ltb d 10 h)
decimal_only (more {n} {d} {t} h k p) =
    let e : 10 * n + d ≡ n * 10 + d = omega arith in
    let g : 10 ≤ 10 * n + d = omega arith in
    let q : (10 * n + d) / 10 ≡ n = rw e (digits_div n k) in
    let r : (10 * n + d) % 10 ≡ d = rw e (digits_mod n k) in
    rw (le-ltb (10 * n + d) 10 g, q, r, decimal_only p, spelt_same (suc n) (10 * n + d) n (omega arith) (omega arith))

-- and `decimal n` is one
spelt_is : (f n : ℕ) → n < f → Decimal n (spelt f n)
unfolding spelt
spelt_is zero n h = let z : ⊥ = omega arith in absurd z
spelt_is (suc f) n h = go (ltb n 10) refl (λ k. spelt_is f (n / 10) k)
  where
    go : (t : Bool) → ltb n 10 ≡ t → (n / 10 < f → Decimal (n / 10) (spelt f (n / 10)))
        → Decimal n (pick t ((digit_zero + n) ∷ []) (spelt f (n / 10) ++ ((digit_zero + n % 10) ∷ [])))
    go true e rest = one (ltb-true n 10 e)
    go false e rest =
        let g : 10 ≤ n = ltb-false n 10 e in
        let o : 0 < 10 = omega arith in
        let l : n % 10 < 10 = mod-lt n o in
        let d : 10 * (n / 10) + n % 10 ≡ n = omega (arith, div-add-mod' n 10) in
        let p : 0 < n / 10 = omega (arith, div-add-mod' n 10) in
        let z : n / 10 < f = omega (arith, tenth_is_less n g) in
        rw d at (more p l (rest z))

pub decimal_is : (n : ℕ) → Decimal n (decimal n)
unfolding decimal
decimal_is n = spelt_is (suc n) n (omega arith)
