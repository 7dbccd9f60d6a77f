-- What stands behind a place of a list, also where the list is shorter.
use mathlib.Core.Path.{◌≡◌, refl, ◌∙◌}
use mathlib.Core.Bool.{Bool, true, false}
use mathlib.Core.List.{List}
use Prim.Native.Nat.{ℕ, ◌-◌, ◌≤◌, min}
use native.Mathlib.Nat.{min-eq_left, min-eq_right}
use native.Mathlib.Omega.{arith}
use lib.Dec.{leb}
use lib.IntN.{ℤ}
use lib.ListN.{length, take, drop, length-drop, drop_of_length-le}
use lib.Seq.{take_all}
use borrow.Author.Tests.{leb-true, leb-false}

start_behind : (zs : List ℤ) (from : ℕ) → drop (min from (length zs)) zs ≡ drop from zs
start_behind zs from = go (leb from (length zs)) refl
  where
    go : (x : Bool) → leb from (length zs) ≡ x → drop (min from (length zs)) zs ≡ drop from zs
    go true e = rw (min-eq_left (leb-true from (length zs) e))
    go false e =
        let h : length zs ≤ from = omega (arith, leb-false from (length zs) e) in
        let n : length zs ≤ length zs = omega arith in
        rw (min-eq_right h, drop_of_length-le zs n, drop_of_length-le zs h)

pub behind : (zs : List ℤ) (from start : ℕ) → start ≡ min from (length zs) → take (length zs - start) (drop start zs) ≡
    drop from zs
behind zs from start e =
    take_all (length zs - start) (drop start zs) (rw (length-drop start zs) (omega arith))
    ∙ rw e (start_behind zs from)
