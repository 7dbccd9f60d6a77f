-- The library's `min` and `max` of signed numbers are the definition's lesser and greater: each asks for y < x where the
-- other asks for x ≤ y.
use mathlib.Core.Path.{◌≡◌, refl, ap, ◌∙◌}
use mathlib.Core.Bool.{Bool, true, false, not, cond}
use mathlib.Core.Logic.{◌⊎◌, inl, inr}
use Prim.Native.Nat.{ℕ, ◌≤◌, ◌<◌}
use lib.Dec.{leb, ltb}
use lib.IntN.{ℤ, pos, negsuc}
use lib.Signed.{lt_z, le_z}
use borrow.Author.Tests.{le-leb, lt-leb, lt-ltb, le-ltb}
use Rattle.std.specs.Int.{int_min, int_max}
use Rattle.paper.specs.Lists.{pick}
use Rattle.paper.proofs.Logic.{le_or_lt}
use Rattle.paper_interest.specs.Interest.{lesser_z, greater_z}

less_is_not_le : (a b : ℕ) → ltb b a ≡ not (leb a b)
less_is_not_le a b = go (le_or_lt a b)
  where
    go : (a ≤ b) ⊎ (b < a) → ltb b a ≡ not (leb a b)
    go (inl l) = rw (le-ltb b a l, le-leb a b l)
    go (inr l) = rw (lt-ltb b a l, lt-leb a b l)

less_is_not_le_z : (x y : ℤ) → lt_z y x ≡ not (le_z x y)
less_is_not_le_z (pos a) (pos b) = less_is_not_le a b
less_is_not_le_z (pos a) (negsuc b) = refl
less_is_not_le_z (negsuc a) (pos b) = refl
less_is_not_le_z (negsuc a) (negsuc b) = less_is_not_le b a

other_way : (t : Bool) (x y : ℤ) → cond (not t) x y ≡ pick t y x
other_way true x y = refl
other_way false x y = refl

pub max_is_greater : (x y : ℤ) → int_max x y ≡ greater_z x y
max_is_greater x y = ap (λ (t : Bool). cond t x y) (less_is_not_le_z x y) ∙ other_way (le_z x y) x y

pub min_is_lesser : (x y : ℤ) → int_min x y ≡ lesser_z x y
min_is_lesser x y = ap (λ (t : Bool). cond t y x) (less_is_not_le_z x y) ∙ other_way (le_z x y) y x
