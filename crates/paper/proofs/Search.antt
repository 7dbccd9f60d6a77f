-- Laws of "the least ..": what is found passes, nothing below it does, and it is the only such number.
use mathlib.Core.Path.{◌≡◌, refl}
use mathlib.Core.Logic.{◌≢◌, ◌⊎◌, inl, inr}
use mathlib.Core.Bool.{Bool, true, false}
use Prim.Native.Nat.{ℕ, zero, suc, ◌+◌, ◌*◌, ◌≤◌, ◌<◌}
use native.Mathlib.Nat.{eq-or-lt_of_le, le_trans, le_antisymm, mul-le-mul, mul-le-mul_left, mul-le-mul_right}
use native.Mathlib.Omega.{arith}
use lib.Dec.{leb}
use borrow.Author.Tests.{leb-true, le-leb}
use Rattle.paper.specs.Least.{first, least, least_root, least_times, least_multiple}
use Rattle.paper.proofs.Logic.{not_true_and_false, le_or_lt}

-- ---- least

first_true : (d x : ℕ) (p : ℕ → Bool) → p x ≡ true → first (suc d) x p ≡ x
unfolding first
first_true d x p e = rw (e, first)

first_false : (d x : ℕ) (p : ℕ → Bool) → p x ≡ false → first (suc d) x p ≡ first d (suc x) p
unfolding first
first_false d x p e = rw (e, first)

first_bound : (d x : ℕ) (p : ℕ → Bool) → first d x p ≤ x + d
unfolding first
first_bound zero x p = omega arith
first_bound (suc d) x p = go (p x) refl (first_bound d (suc x) p)
  where
    go : (b : Bool) → p x ≡ b → first d (suc x) p ≤ suc x + d → first (suc d) x p ≤ x + suc d
    go true e h = rw (first_true d x p e) (omega arith)
    go false e h = rw (first_false d x p e) (omega arith)

first_holds : (d x : ℕ) (p : ℕ → Bool) → first d x p < x + d → p (first d x p) ≡ true
unfolding first
first_holds zero x p l = absurd (omega arith)
first_holds (suc d) x p l = go (p x) refl (first_holds d (suc x) p)
  where
    go : (b : Bool) → p x ≡ b → (first d (suc x) p < suc x + d → p (first d (suc x) p) ≡ true)
        → p (first (suc d) x p) ≡ true
    go true e h = rw (first_true d x p e) e
    go false e h = let k : first (suc d) x p ≡ first d (suc x) p = first_false d x p e in rw k (h (omega arith))

first_least : (d x : ℕ) (p : ℕ → Bool) (z : ℕ) → x ≤ z → p z ≡ true → first d x p ≤ z
unfolding first
first_least zero x p z l t = l
first_least (suc d) x p z l t = go (p x) refl (first_least d (suc x) p z)
  where
    go : (b : Bool) → p x ≡ b → (suc x ≤ z → p z ≡ true → first d (suc x) p ≤ z) → first (suc d) x p ≤ z
    go true e h = rw (first_true d x p e) l
    go false e h = rw (first_false d x p e) (h (omega (arith, differ)) t)
      where
        differ : x ≢ z
        differ q = let c : ◌≡◌ {A = ℕ} 0 1 = cc in omega arith

pub least_bound : (bound : ℕ) (p : ℕ → Bool) → least bound p ≤ bound
unfolding least
least_bound bound p = omega (arith, first_bound bound 0 p)

-- either the bound is reached, or what is found passes
pub least_cases : (bound : ℕ) (p : ℕ → Bool) → (least bound p ≡ bound) ⊎ (p (least bound p) ≡ true)
unfolding least
least_cases bound p = go (eq-or-lt_of_le (least_bound bound p))
  where
    go : (least bound p ≡ bound) ⊎ (least bound p < bound) → (least bound p ≡ bound) ⊎ (p (least bound p) ≡ true)
    go (inl e) = inl e
    go (inr l) = inr (first_holds bound 0 p (omega arith))

pub least_holds : (bound : ℕ) (p : ℕ → Bool) → p bound ≡ true → p (least bound p) ≡ true
least_holds bound p t = go (least_cases bound p)
  where
    go : (least bound p ≡ bound) ⊎ (p (least bound p) ≡ true) → p (least bound p) ≡ true
    go (inl e) = rw e t
    go (inr h) = h

pub least_least : (bound : ℕ) (p : ℕ → Bool) (z : ℕ) → p z ≡ true → least bound p ≤ z
unfolding least
least_least bound p z t = first_least bound 0 p z (omega arith) t

pub least_below : (bound : ℕ) (p : ℕ → Bool) (z : ℕ) → z < least bound p → p z ≡ false
least_below bound p z l = go (p z) refl
  where
    go : (b : Bool) → p z ≡ b → p z ≡ false
    go true e = absurd (omega (arith, least_least bound p z e))
    go false e = e

-- a number within the bound that passes (unless it is the bound), with nothing below it that does, is the one found
pub least_unique : (bound : ℕ) (p : ℕ → Bool) (x : ℕ) → x ≤ bound → (x < bound → p x ≡ true)
    → ((z : ℕ) → z < x → p z ≡ false) → least bound p ≡ x
least_unique bound p x l t f = go (le_or_lt x (least bound p)) (eq-or-lt_of_le l)
  where
    go : (x ≤ least bound p) ⊎ (least bound p < x) → (x ≡ bound) ⊎ (x < bound) → least bound p ≡ x
    go (inl k) (inl e) = omega (arith, least_bound bound p)
    go (inl k) (inr b) = omega (arith, least_least bound p x (t b))
    go (inr k) c = absurd (short (least_cases bound p))
      where
        short : (least bound p ≡ bound) ⊎ (p (least bound p) ≡ true) → ⊥
        short (inl e) = omega arith
        short (inr h) = not_true_and_false (p (least bound p)) h (f (least bound p) k)

-- a test that passes where another does is passed no later
pub least_monotone : (bound : ℕ) (p q : ℕ → Bool) → ((z : ℕ) → q z ≡ true → p z ≡ true) → least bound p ≤ least bound q
least_monotone bound p q f = go (least_cases bound q)
  where
    go : (least bound q ≡ bound) ⊎ (q (least bound q) ≡ true) → least bound p ≤ least bound q
    go (inl e) = rw e (least_bound bound p)
    go (inr t) = least_least bound p (least bound q) (f (least bound q) t)

-- ---- a search by halves for it

-- once p holds it goes on to hold
abbrev pub Mono : (ℕ → Bool) → Type 0
Mono p = (x y : ℕ) → x ≤ y → p x ≡ true → p y ≡ true

-- the least number that passes is from low to high
pub record Between (p : ℕ → Bool) (bound low high : ℕ) : Type 0 where
  pub order : low ≤ high
  pub inside : high ≤ bound
  pub before : (z : ℕ) → z < low → p z ≡ false
  pub here : high < bound → p high ≡ true

pub between_below_hit : (p : ℕ → Bool) (bound low high mid : ℕ) → Between p bound low high → low ≤ mid → mid < high
    → p mid ≡ true → Between p bound low mid
between_below_hit p bound low high mid s u v e = record
    { order = u; inside = omega arith; before = s.before; here = λ _. e }

pub between_above_miss : (p : ℕ → Bool) (bound low high mid : ℕ) → Mono p → Between p bound low high → mid < high
    → p mid ≡ false → Between p bound (mid + 1) high
between_above_miss p bound low high mid mono s v e =
    record {
      order = omega arith;
      inside = s.inside;
      before = λ z l. not_before z (omega arith) (p z) refl;
      here =
          s.here;
    }
  where
    not_before : (z : ℕ) → z ≤ mid → (t : Bool) → p z ≡ t → t ≡ false
    not_before z l true q = absurd (not_true_and_false (p mid) (mono z mid l q) e)
    not_before z l false q = refl

pub between_one_is_least : (p : ℕ → Bool) (bound low high : ℕ) → Between p bound low high → high ≤ low → least bound p
    ≡ low
between_one_is_least p bound low high s h =
    let same : low ≡ high = omega arith in
    least_unique bound p low (omega arith) (λ u. rw same (s.here (omega arith))) s.before

-- ---- the least root

-- a number is covered by its own square
own_square : (factor n : ℕ) → 0 < factor → n ≤ factor * (n * n)
own_square factor zero h = omega arith
own_square factor (suc m) h =
    let a : 1 * (suc m * 1) ≤ factor * (suc m * suc m) = mul-le-mul h (mul-le-mul_left (suc m) (omega arith)) in
    omega arith

pub root_covers : (factor n : ℕ) → 0 < factor → n ≤ factor * (least_root factor n * least_root factor n)
unfolding least_root
root_covers factor n h =
    leb-true _ _
    (least_holds n (λ x. leb n (factor * (x * x))) (le-leb n (factor * (n * n)) (own_square factor n h)))

pub root_least : (factor n z : ℕ) → n ≤ factor * (z * z) → least_root factor n ≤ z
unfolding least_root
root_least factor n z h = least_least n (λ x. leb n (factor * (x * x))) z (le-leb _ _ h)

pub root_unique : (factor n x : ℕ) → 0 < factor → n ≤ factor * (x * x) → ((z : ℕ) → n ≤ factor * (z * z) → x ≤ z)
    → least_root factor n ≡ x
root_unique factor n x h c l = le_antisymm (root_least factor n x c) (l (least_root factor n) (root_covers factor n h))

pub root_monotone : (factor n m : ℕ) → 0 < factor → n ≤ m → least_root factor n ≤ least_root factor m
root_monotone factor n m h l = root_least factor n (least_root factor m) (le_trans l (root_covers factor m h))

-- the root is at most a number whose square covers, and one more than a number whose square does not
pub root_one_more : (factor n r : ℕ) → 0 < factor → factor * (r * r) < n → n ≤ factor * ((r + 1) * (r + 1))
    → least_root factor n ≡ r + 1
root_one_more factor n r h low high = root_unique factor n (r + 1) h high above
  where
    above : (z : ℕ) → n ≤ factor * (z * z) → r + 1 ≤ z
    above z c = go (le_or_lt (r + 1) z)
      where
        go : (r + 1 ≤ z) ⊎ (z < r + 1) → r + 1 ≤ z
        go (inl k) = k
        go (inr k) = let k' : z ≤ r = omega arith in absurd (omega (arith, mul-le-mul_left factor (mul-le-mul k' k')))

-- ---- the least y with y·q ≥ n

pub times_covers : (q n : ℕ) → 0 < q → n ≤ least_times q n * q
unfolding least_times
times_covers q n h =
    leb-true _ _ (least_holds n (λ y. leb n (y * q))
    (le-leb n (n * q) (let e : n * 1 ≤ n * q = mul-le-mul_left n h in omega arith)))

pub times_least : (q n z : ℕ) → n ≤ z * q → least_times q n ≤ z
unfolding least_times
times_least q n z h = least_least n (λ y. leb n (y * q)) z (le-leb _ _ h)

pub times_unique : (q n y : ℕ) → 0 < q → n ≤ y * q → ((z : ℕ) → n ≤ z * q → y ≤ z) → least_times q n ≡ y
times_unique q n y h c l = le_antisymm (times_least q n y c) (l (least_times q n) (times_covers q n h))

pub times_monotone : (q n m : ℕ) → 0 < q → n ≤ m → least_times q n ≤ least_times q m
times_monotone q n m h l = times_least q n (least_times q m) (le_trans l (times_covers q m h))

-- ---- the least multiple

-- either every multiple was tried, or what is found passes
pub multiple_holds_or_is_last : (h bound : ℕ) (p : ℕ → Bool) → (least_multiple h bound p ≡ bound * h)
    ⊎ (p (least_multiple h bound p) ≡ true)
unfolding least_multiple
multiple_holds_or_is_last h bound p = go (least_cases bound (λ j. p (j * h)))
  where
    go : (least bound (λ j. p (j * h)) ≡ bound) ⊎ (p (least bound (λ j. p (j * h)) * h) ≡ true)
        → (least bound (λ j. p (j * h)) * h ≡ bound * h) ⊎ (p (least bound (λ j. p (j * h)) * h) ≡ true)
    go (inl e) = inl (rw e refl)
    go (inr t) = inr t

pub multiple_holds : (h bound : ℕ) (p : ℕ → Bool) → p (bound * h) ≡ true → p (least_multiple h bound p) ≡ true
unfolding least_multiple
multiple_holds h bound p t = least_holds bound (λ j. p (j * h)) t

pub multiple_least : (h bound : ℕ) (p : ℕ → Bool) (j : ℕ) → p (j * h) ≡ true → least_multiple h bound p ≤ j * h
unfolding least_multiple
multiple_least h bound p j t = mul-le-mul_right h (least_least bound (λ j. p (j * h)) j t)

pub multiple_within_bound : (h bound : ℕ) (p : ℕ → Bool) → least_multiple h bound p ≤ bound * h
unfolding least_multiple
multiple_within_bound h bound p = mul-le-mul_right h (least_bound bound (λ j. p (j * h)))

-- what is found is a multiple of h
pub multiple_is_multiple : (h bound : ℕ) (p : ℕ → Bool) → (j : ℕ) × (least_multiple h bound p ≡ j * h)
unfolding least_multiple
multiple_is_multiple h bound p = (least bound (λ j. p (j * h)), refl)

pub multiple_monotone : (h bound : ℕ) (p q : ℕ → Bool) → ((z : ℕ) → q z ≡ true → p z ≡ true)
    → least_multiple h bound p ≤ least_multiple h bound q
unfolding least_multiple
multiple_monotone h bound p q f =
    mul-le-mul_right h (least_monotone bound (λ j. p (j * h)) (λ j. q (j * h)) (λ z t. f (z * h) t))
