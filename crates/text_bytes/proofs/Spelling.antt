-- Which number a word spells: the one that is read, and no other.
use mathlib.Core.Path.{◌≡◌, refl, sym, ap, ◌∙◌}
use mathlib.Core.Bool.{Bool, true, false}
use mathlib.Core.List.{List, [], ◌∷◌}
use Prim.Native.Nat.{ℕ, zero, suc, ◌+◌, ◌-◌, ◌*◌, ◌≤◌, ◌<◌}
use native.Mathlib.Omega.{arith}
use lib.Dec.{leb, eqb}
use lib.IntN.{ℤ, pos}
use lib.ListN.{length}
use borrow.Author.Tests.{le-leb, lt-leb, leb-true, ne_eqb, eqb-true}
use Rattle.paper.specs.Lists.{pick}
use Rattle.paper.proofs.Logic.{and_left, and_right}
use Rattle.std.specs.declared.option.Option.{Option}
use Rattle.std.specs.declared.option.Option.TheVariants.{None, Some}
use Rattle.text_bytes.specs.Bytes.{minus_sign, digit_zero, digit_nine}
use Rattle.text_bytes.specs.Numbers.{is_digit, size_from, size_of, greatest, least, up_to, above, below, number_of}
use Rattle.text_bytes.specs.Spells.{Digits, no_digit, digit, value, negated, Spells, plain, minus}
use Rattle.text_bytes.proofs.Words.{Solid, nil, solid, high_solid}

-- what is impossible proves everything
pub impossible : {A : Type 0} → ◌≡◌ {A = ℕ} 0 1 → A
impossible e = let z : ⊥ = omega arith in absurd z

-- ---- what is spelt is read

digits_solid : {t : List ℕ} → Digits t → Solid t
digits_solid no_digit = nil
digits_solid (digit {b} h k d) = solid (high_solid b (omega arith)) (digits_solid d)

pub within_is_digit : (b : ℕ) → digit_zero ≤ b → b ≤ digit_nine → is_digit b ≡ true
unfolding is_digit
within_is_digit b h k = rw (le-leb digit_zero b h, le-leb b digit_nine k)

pub digit_is_no_minus : (b : ℕ) → digit_zero ≤ b → b ≡ minus_sign → ⊥
digit_is_no_minus b h e = omega arith

pub low_no_digit : (b : ℕ) → b < digit_zero → is_digit b ≡ false
unfolding is_digit
low_no_digit b h = rw (lt-leb digit_zero b h)

pub high_no_digit : (b : ℕ) → digit_nine < b → is_digit b ≡ false
unfolding is_digit
high_no_digit b h = let k : digit_zero ≤ b = omega arith in rw (le-leb digit_zero b k, lt-leb b digit_nine h)

size_digits : (n : ℕ) {t : List ℕ} → Digits t → size_from n t ≡ Some (value n t)
unfolding size_from value
size_digits n no_digit = refl
size_digits n (digit {b} h k d) = rw (within_is_digit b h k) (size_digits (10 * n + (b - digit_zero)) d)

size_is : (t : List ℕ) → Digits t → 0 < length t → size_of t ≡ Some (value 0 t)
unfolding size_of
size_is [] d h = let z : ⊥ = omega arith in absurd z
size_is (b ∷ t) d h = size_digits 0 d

below_negated : (n : ℕ) → below (Some n) ≡ Some (negated n)
unfolding below negated
below_negated zero = refl
below_negated (suc n) = refl

up_to_lem : (most n : ℕ) → n ≤ most → up_to most (Some n) ≡ Some n
unfolding up_to
up_to_lem most n h = rw (le-leb n most h)

plain_reads : (t : List ℕ) → Digits t → 0 < length t → value 0 t ≤ greatest → number_of t ≡ Some (pos (value 0 t))
unfolding number_of above
plain_reads [] d h k = let z : ⊥ = omega arith in absurd z
plain_reads (b ∷ t) (digit lo up d) h k =
    rw (
      ne_eqb b minus_sign (digit_is_no_minus b lo),
      size_is (b ∷ t) (digit lo up d) h,
      up_to_lem greatest (value 0 (b ∷ t)) k,
    )

-- THE NUMBER THAT A WORD SPELLS IS THE ONE THAT IS READ
pub spells_reads : {w : List ℕ} {z : ℤ} → Spells w z → number_of w ≡ Some z
unfolding number_of
spells_reads (plain {t} d h k) = plain_reads t d h k
spells_reads (minus {t} d h k) = rw (size_is t d h, up_to_lem least (value 0 t) k) (below_negated (value 0 t))

pub spells_solid : {w : List ℕ} {z : ℤ} → Spells w z → Solid w
spells_solid (plain d h k) = digits_solid d
spells_solid (minus d h k) = solid (high_solid minus_sign (omega arith)) (digits_solid d)

pub spells_some : {w : List ℕ} {z : ℤ} → Spells w z → 0 < length w
spells_some (plain d h k) = h
spells_some (minus d h k) = omega arith

-- ---- what is read is spelt

pub digit_is_within : (b : ℕ) → is_digit b ≡ true → (digit_zero ≤ b) × (b ≤ digit_nine)
unfolding is_digit
digit_is_within b h = (
  leb-true digit_zero b (and_left (leb digit_zero b) (leb b digit_nine) h),
  leb-true b digit_nine (and_right (leb digit_zero b) (leb b digit_nine) h),
)

-- t is digits, and behind those of n they spell v
pub record Sized (n : ℕ) (t : List ℕ) (v : ℕ) : Type 0 where
  pub digits : Digits t
  pub is : value n t ≡ v

size_back : (n : ℕ) (t : List ℕ) (v : ℕ) → size_from n t ≡ Some v → Sized n t v
unfolding size_from value
size_back n [] v e = record { digits = no_digit; is = cc }
size_back n (b ∷ t) v e = go (is_digit b) refl e (λ f. size_back (10 * n + (b - digit_zero)) t v f)
  where
    go : (x : Bool) → is_digit b ≡ x → pick x (size_from (10 * n + (b - digit_zero)) t) None ≡ Some v
        → (size_from (10 * n + (b - digit_zero)) t ≡ Some v → Sized (10 * n + (b - digit_zero)) t v)
        → Sized n (b ∷ t) v
    go true h f k =
        let r : Sized (10 * n + (b - digit_zero)) t v = k f in
        record { digits = digit (digit_is_within b h).0 (digit_is_within b h).1 r.digits; is = r.is }
    go false h f k = impossible cc

size_of_back : (t : List ℕ) (v : ℕ) → size_of t ≡ Some v → Sized 0 t v × (0 < length t)
unfolding size_of
size_of_back [] v e = impossible cc
size_of_back (b ∷ t) v e = (size_back 0 (b ∷ t) v e, omega arith)

up_to_back : (most : ℕ) (s : Option ℕ) (v : ℕ) → up_to most s ≡ Some v → (s ≡ Some v) × (v ≤ most)
unfolding up_to
up_to_back most None v e = impossible cc
up_to_back most (Some n) v e = go (leb n most) refl e
  where
    go : (x : Bool) → leb n most ≡ x → pick x (Some n) None ≡ Some v
        → (◌≡◌ {A = Option ℕ} (Some n) (Some v)) × (v ≤ most)
    go true h f = let i : n ≡ v = cc in (f, rw i at (leb-true n most h))
    go false h f = impossible cc

record SignBack (s : Option ℕ) (z : ℤ) (make : ℕ → ℤ) : Type 0 where
  v : ℕ
  sized : s ≡ Some v
  is : make v ≡ z

above_back : (s : Option ℕ) (z : ℤ) → above s ≡ Some z → SignBack s z pos
unfolding above
above_back None z e = impossible cc
above_back (Some n) z e = record { v = n; sized = refl; is = cc }

below_back : (s : Option ℕ) (z : ℤ) → below s ≡ Some z → SignBack s z negated
unfolding below negated
below_back None z e = impossible cc
below_back (Some zero) z e = record { v = 0; sized = refl; is = cc }
below_back (Some (suc n)) z e = record { v = suc n; sized = refl; is = cc }

-- THE NUMBER THAT A WORD IS READ AS IS THE ONE THAT IT SPELLS
pub reads_spells : (w : List ℕ) (z : ℤ) → number_of w ≡ Some z → Spells w z
unfolding number_of
reads_spells [] z e = impossible cc
reads_spells (b ∷ t) z e = go (eqb b minus_sign) refl e
  where
    go : (x : Bool) → eqb b minus_sign ≡ x
        → pick x (below (up_to least (size_of t))) (above (up_to greatest (size_of (b ∷ t)))) ≡ Some z
        → Spells (b ∷ t) z
    go true h f =
        let a : SignBack (up_to least (size_of t)) z negated = below_back (up_to least (size_of t)) z f in
        let u : (size_of t ≡ Some a.v) × (a.v ≤ least) = up_to_back least (size_of t) a.v a.sized in
        let s : Sized 0 t a.v × (0 < length t) = size_of_back t a.v u.0 in
        let i : z ≡ negated (value 0 t) = sym a.is ∙ ap negated (sym s.0.is) in
        rw (eqb-true b minus_sign h, i) (minus s.0.digits s.1 (rw s.0.is u.1))
    go false h f =
        let a : SignBack (up_to greatest (size_of (b ∷ t))) z pos = above_back (up_to greatest (size_of (b ∷ t))) z f in
        let u : (size_of (b ∷ t) ≡ Some a.v) × (a.v ≤ greatest) =
        up_to_back greatest (size_of (b ∷ t)) a.v a.sized in
        let s : Sized 0 (b ∷ t) a.v × (0 < length (b ∷ t)) = size_of_back (b ∷ t) a.v u.0 in
        let i : z ≡ pos (value 0 (b ∷ t)) = sym a.is ∙ ap pos (sym s.0.is) in
        rw i (plain s.0.digits s.1 (rw s.0.is u.1))
