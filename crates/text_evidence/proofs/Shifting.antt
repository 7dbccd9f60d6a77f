-- Which bytes of a buffer stand between two places.
use mathlib.Core.Path.{◌≡◌, refl, sym}
use mathlib.Core.List.{List, [], ◌∷◌}
use Prim.Native.Nat.{ℕ, zero, suc, ◌-◌}
use native.Mathlib.Omega.{arith}
use lib.ListN.{take, drop}
use lib.Seq.{take-nil}

-- the bytes between two places, in either order of taking them
pub drop_take_of : {A : Type 0} (f n : ℕ) (b : List A) → drop f (take n b) ≡ take (n - f) (drop f b)
drop_take_of zero n b = let e : n - 0 ≡ n = omega arith in rw e
drop_take_of (suc f) zero b = let e : 0 - suc f ≡ 0 = omega arith in rw e
drop_take_of (suc f) (suc n) [] = sym (take-nil (suc n - suc f))
drop_take_of (suc f) (suc n) (x ∷ b) = let e : suc n - suc f ≡ n - f = omega arith in rw e (drop_take_of f n b)
