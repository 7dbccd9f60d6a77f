-- Small laws of tests, of choices and of order.
use mathlib.Core.Path.{◌≡◌, refl}
use mathlib.Core.Logic.{◌⊎◌, inl, inr}
use mathlib.Core.Bool.{Bool, true, false, ◌&&◌}
use Prim.Native.Nat.{ℕ, zero, suc, ◌≤◌, ◌<◌}
use native.Mathlib.Decide.{dec_le}
use native.Mathlib.Nat.{le_trans}
use native.Mathlib.Omega.{arith}
use lib.IntN.{ℤ, pos, negsuc}
use lib.Signed.{le_z}
use borrow.Author.Tests.{leb-true, le-leb}
pub use borrow.Author.Tests.{not-true as not_true, not-false as not_false}
use Rattle.paper.specs.Lists.{pick, all_three}

pub not_true_and_false : (b : Bool) → b ≡ true → b ≡ false → ⊥
not_true_and_false b p q = let z : ◌≡◌ {A = ℕ} 0 1 = cc in omega arith

pub and_left : (a b : Bool) → (a && b) ≡ true → a ≡ true
and_left true b e = refl
and_left false b e = e

pub and_right : (a b : Bool) → (a && b) ≡ true → b ≡ true
and_right true b e = e
and_right false b e = absurd (not_true_and_false false e refl)

pub and_both : (a b : Bool) → a ≡ true → b ≡ true → (a && b) ≡ true
and_both true b p q = q
and_both false b p q = p

-- one after the other
infixl 30 ◌&◌
pub ◌&◌ : {a b : Bool} → a ≡ true → b ≡ true → (a && b) ≡ true
◌&◌ {a} {b} p q = and_both a b p q

pub and_right_false : (a b : Bool) → (a && b) ≡ false → a ≡ true → b ≡ false
and_right_false true b e p = e
and_right_false false b e p = absurd (not_true_and_false false p refl)

pub pick_true : {A : Type 0} (b : Bool) (x y : A) → b ≡ true → pick b x y ≡ x
pick_true true x y e = refl
pick_true false x y e = absurd (not_true_and_false false e refl)

pub pick_false : {A : Type 0} (b : Bool) (x y : A) → b ≡ false → pick b x y ≡ y
pick_false true x y e = absurd (not_true_and_false true refl e)
pick_false false x y e = refl

pub pick_same : {A : Type 0} (b : Bool) (x : A) → pick b x x ≡ x
pick_same true x = refl
pick_same false x = refl

-- every two numbers are in order
pub le_or_lt : (a b : ℕ) → (a ≤ b) ⊎ (b < a)
le_or_lt a b = go (dec_le a b)
  where
    go : Dec (a ≤ b) → (a ≤ b) ⊎ (b < a)
    go (yes h) = inl h
    go (no h) = inr (omega arith)

-- ---- three of a kind

-- what passes at all three passes at each
pub each_of_three : (p : ℕ → Bool) → all_three p ≡ true → (i : ℕ) → i < 3 → p i ≡ true
each_of_three p v zero l = and_left (p 0) (p 1) (and_left (p 0 && p 1) (p 2) v)
each_of_three p v (suc zero) l = and_right (p 0) (p 1) (and_left (p 0 && p 1) (p 2) v)
each_of_three p v (suc (suc zero)) l = and_right (p 0 && p 1) (p 2) v
each_of_three p v (suc (suc (suc i))) l = absurd (omega arith)

-- ---- the order of signed numbers

pub order_trans : (a b c : ℤ) → le_z a b ≡ true → le_z b c ≡ true → le_z a c ≡ true
order_trans (pos a) (pos b) (pos c) p q = le-leb a c (le_trans (leb-true a b p) (leb-true b c q))
order_trans (pos a) (pos b) (negsuc c) p q = q
order_trans (pos a) (negsuc b) c p q = absurd (not_true_and_false false p refl)
order_trans (negsuc a) b (pos c) p q = refl
order_trans (negsuc a) (pos b) (negsuc c) p q = absurd (not_true_and_false false q refl)
order_trans (negsuc a) (negsuc b) (negsuc c) p q = le-leb c a (le_trans (leb-true c b q) (leb-true b a p))
