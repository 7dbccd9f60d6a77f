-- What a word behind the call's is, on plain values. A word that spells a number has no slash.
use mathlib.Core.Path.{◌≡◌, refl, ap}
use mathlib.Core.Bool.{Bool, true, false, not}
use mathlib.Core.List.{List, [], ◌∷◌}
use Prim.Native.Nat.{ℕ, zero, suc, ◌+◌, ◌-◌, ◌*◌, ◌≤◌, ◌<◌}
use native.Mathlib.Omega.{arith}
use lib.Dec.{leb, eqb}
use lib.IntN.{ℤ}
use lib.ListN.{length, take, drop, length-drop}
use lib.Seq.{take_all}
use borrow.Author.Tests.{leb-true, lt-ltb, le-ltb, eqb-true, ne_eqb}
use Rattle.paper.specs.Lists.{pick}
use Rattle.paper.proofs.Logic.{and_left}
use Rattle.std.specs.declared.option.Option.{Option}
use Rattle.std.specs.declared.option.Option.TheVariants.{None, Some}
use Rattle.text_protocol.specs.declared.Item.TheVariants as item
use Rattle.text_bytes.specs.Bytes.{is_not, run, digit_zero, digit_nine, minus_sign, slash}
use Rattle.text_bytes.specs.Numbers.{is_digit, size_from, size_of, up_to, above, below, number_of, slash_at, greatest, least}
use Rattle.text_protocol.specs.Line.{one_of, two_of, item_of}

-- ---- a number has no slash

digit_no_slash : (b : ℕ) → is_digit b ≡ true → is_not slash b ≡ true
unfolding is_digit is_not
digit_no_slash b e =
    ap not (ne_eqb b slash (λ q. apart (leb-true digit_zero b (and_left (leb digit_zero b) (leb b digit_nine) e)) q))
  where
    apart : digit_zero ≤ b → b ≡ slash → ⊥
    apart h q = omega arith

size_no_slash : (n : ℕ) (t : List ℕ) (m : ℕ) → size_from n t ≡ Some m → run (is_not slash) t ≡ length t
unfolding size_from run
size_no_slash n [] m e = refl
size_no_slash n (b ∷ t) m e = go (is_digit b) refl e (λ h. size_no_slash (10 * n + (b - digit_zero)) t m h)
  where
    go : (x : Bool) → is_digit b ≡ x → pick x (size_from (10 * n + (b - digit_zero)) t) None ≡ Some m
        → (size_from (10 * n + (b - digit_zero)) t ≡ Some m → run (is_not slash) t ≡ length t)
        → pick (is_not slash b) (suc (run (is_not slash) t)) 0 ≡ suc (length t)
    go true d h f = rw (digit_no_slash b d) (ap suc (f h))
    go false d h f = let z : ◌≡◌ {A = ℕ} 0 1 = cc in let y : ⊥ = omega arith in absurd y

up_to_is : (most : ℕ) (s : Option ℕ) (m : ℕ) → up_to most s ≡ Some m → s ≡ Some m
unfolding up_to
up_to_is most None m e = e
up_to_is most (Some n) m e = go (leb n most) e
  where
    go : (x : Bool) → pick x (Some n) None ≡ Some m → Some n ≡ Some m
    go true h = h
    go false h = let z : ◌≡◌ {A = ℕ} 0 1 = cc in let y : ⊥ = omega arith in absurd y

-- what is a number has a size
pub record Sized (s : Option ℕ) : Type 0 where
  pub count : ℕ
  pub is : s ≡ Some count

above_sized : (s : Option ℕ) (z : ℤ) → above s ≡ Some z → Sized s
unfolding above
above_sized (Some n) z e = record { count = n; is = refl }
above_sized None z e = let q : ◌≡◌ {A = ℕ} 0 1 = cc in let y : ⊥ = omega arith in absurd y

below_sized : (s : Option ℕ) (z : ℤ) → below s ≡ Some z → Sized s
unfolding below
below_sized (Some zero) z e = record { count = 0; is = refl }
below_sized (Some (suc n)) z e = record { count = suc n; is = refl }
below_sized None z e = let q : ◌≡◌ {A = ℕ} 0 1 = cc in let y : ⊥ = omega arith in absurd y

sized_no_slash : (most : ℕ) (t : List ℕ) → Sized (up_to most (size_of t)) → run (is_not slash) t ≡ length t
unfolding size_of run
sized_no_slash most [] s = refl
sized_no_slash most (b ∷ t) s = size_no_slash 0 (b ∷ t) s.count (up_to_is most (size_from 0 (b ∷ t)) s.count
    s.is)

minus_no_slash : (b : ℕ) → eqb b minus_sign ≡ true → is_not slash b ≡ true
unfolding is_not
minus_no_slash b e = ap not (ne_eqb b slash (apart (eqb-true b minus_sign e)))
  where
    apart : b ≡ minus_sign → b ≡ slash → ⊥
    apart p q = omega arith

minus_first : (b : ℕ) (t : List ℕ) → eqb b minus_sign ≡ true → run (is_not slash) t ≡ length t
    → run (is_not slash) (b ∷ t) ≡ suc (length t)
unfolding run
minus_first b t d h = rw (minus_no_slash b d) (ap suc h)

number_no_slash : (w : List ℕ) (z : ℤ) → number_of w ≡ Some z → slash_at w ≡ length w
unfolding number_of slash_at
number_no_slash [] z e = let q : ◌≡◌ {A = ℕ} 0 1 = cc in let y : ⊥ = omega arith in absurd y
number_no_slash (b ∷ t) z e = go (eqb b minus_sign) refl e
  where
    go : (x : Bool) → eqb b minus_sign ≡ x
        → pick x (below (up_to least (size_of t))) (above (up_to greatest (size_of (b ∷ t)))) ≡ Some z
        → run (is_not slash) (b ∷ t) ≡ suc (length t)
    go true d h = minus_first b t d (sized_no_slash least t (below_sized (up_to least (size_of t)) z h))
    go false d h = sized_no_slash greatest (b ∷ t) (above_sized (up_to greatest (size_of (b ∷ t))) z h)

-- ---- the pair

pub first_bad : (x y : Option ℤ) → x ≡ None → item.Neither ≡ two_of x y
unfolding two_of
first_bad x y e = rw e

module _ (x y : Option ℤ) (m : ℤ) (e : x ≡ Some m) where
  pub second_bad : y ≡ None → item.Neither ≡ two_of x y
  unfolding two_of
  second_bad f = rw (e, f)

  pub two_numbers : (n : ℤ) → y ≡ Some n → item.Two m n ≡ two_of x y
  unfolding two_of
  two_numbers n f = rw (e, f)

-- what stands behind the slash
pub behind : (p : List ℕ) (from : ℕ) → take (length p - from) (drop from p) ≡ drop from p
behind p from = take_all (length p - from) (drop from p) (rw (length-drop from p) (omega arith))

-- ---- the word

module _ (w : List ℕ) where
  pub item_one : (z : ℤ) → number_of w ≡ Some z → item.One z ≡ item_of w
  unfolding item_of one_of
  item_one z e =
      let s : slash_at w ≡ length w = number_no_slash w z e in
      let h : length w ≤ slash_at w = omega arith in
      rw (le-ltb (slash_at w) (length w) h, e)

  module _ (at : ℕ) (is : at ≡ 0 + run (is_not slash) (drop 0 w)) where
    found : at ≡ slash_at w
    unfolding slash_at
    found = omega (arith, is)

    pub item_two : at < length w → item_of w ≡ two_of (number_of (take at w)) (number_of (drop (at + 1) w))
    unfolding item_of
    item_two h =
        let f : at + 1 ≡ suc at = omega arith in
        rw (← found, lt-ltb at (length w) h, f)

    pub item_neither : number_of w ≡ None → length w ≤ at → item.Neither ≡ item_of w
    unfolding item_of one_of
    item_neither e h = rw (← found, le-ltb at (length w) h, e)
