-- `inputs::is_on_grid` meets its contract: to lot 1 only the grid of 100 is asked, to lot 10 a multiple of 100 is one
-- of 10 too, and every number is on the grid of 1.
use mathlib.Core.Path.{◌≡◌, refl}
use mathlib.Core.Logic.{◌⊎◌, inl, inr}
use mathlib.Core.Bool.{Bool, true, false, ◌&&◌, ◌||◌}
use Prim.Native.Nat.{ℕ, ◌%◌, ◌≤◌, ◌<◌}
use native.Mathlib.Nat.{mod-one}
use native.Mathlib.Omega.{arith}
use lib.Dec.{eqb, ltb}
use borrow.Author.Tests.{le-leb, lt-leb, le-ltb, lt-ltb, eqb-true, eq-eqb}
use Rattle.paper.specs.Ranges.{grid_of}
use Rattle.paper.proofs.Logic.{le_or_lt}
use Rattle.inputs.proofs.prices.is_on_grid.Goals as goal

or_false_is_first : (a : Bool) → (a || false) ≡ a
or_false_is_first true = refl
or_false_is_first false = refl

hundred_is_ten : (x : ℕ) → (eqb (x % 100) 0 || eqb (x % 10) 0) ≡ eqb (x % 10) 0
hundred_is_ten x = go (eqb (x % 100) 0) refl
  where
    go : (t : Bool) → eqb (x % 100) 0 ≡ t → (t || eqb (x % 10) 0) ≡ eqb (x % 10) 0
    go true e = rw (eq-eqb (x % 10) 0 (omega (arith, eqb-true (x % 100) 0 e)))
    go false e = refl

-- the tests of the code
abbrev tests : (lot x : ℕ) → Bool
tests lot x = ltb 10 lot || eqb (x % 100) 0 || (ltb 1 lot && eqb (x % 10) 0)

tests_are_grid : (lot x : ℕ) → tests lot x ≡ eqb (x % grid_of lot) 0
unfolding grid_of
tests_are_grid lot x = one (le_or_lt lot 1)
  where
    ten : 1 < lot → (lot ≤ 10) ⊎ (10 < lot) → tests lot x ≡ eqb (x % grid_of lot) 0
    ten l (inl h) = rw (le-ltb 10 lot h, lt-ltb 1 lot l, lt-leb lot 1 l, le-leb lot 10 h) (hundred_is_ten x)
    ten l (inr h) = rw (lt-ltb 10 lot h, lt-leb lot 1 l, lt-leb lot 10 h, mod-one)

    one : (lot ≤ 1) ⊎ (1 < lot) → tests lot x ≡ eqb (x % grid_of lot) 0
    one (inl h) =
        let few : lot ≤ 10 = omega arith in
        rw (le-ltb 10 lot few, le-ltb 1 lot h, le-leb lot 1 h) (or_false_is_first (eqb (x % 100) 0))
    one (inr l) = ten l (le_or_lt lot 10)

pub returns : goal.returns
returns c = tests_are_grid c.args.lot c.args.x
