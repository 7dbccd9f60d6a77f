-- `reaches` meets its contract. Where a + b is at most x², 4·a·b ≤ (a + b)² is at most x⁴, so nothing wraps.
use Prim.Native.Nat.{ℕ, ◌+◌, ◌-◌, ◌*◌, ◌≤◌}
use native.Mathlib.Nat.{mul-le-mul, le_trans}
use native.Mathlib.Omega.{arith}
use borrow.Author.Tests.{lt-leb, le-leb}
use Rattle.paper_desk.specs.Rates.{roots_within}
use Rattle.rates_level.specs.Level.{reaches, reach_most}
use Rattle.rates_level.proofs.Reach.{four_products_below_square}
use Rattle.rates_level.proofs.reaches.Goals as goal
use Rattle.rates_level.proofs.reaches.Goals.{Else-square-a}

abbrev most : ℕ
most = reach_most * reach_most

-- the square's bound bounds both sides of the test
record Small (square a b : ℕ) : Type 0 where
  product : 4 * (a * b) ≤ most * most
  rest : (square - (a + b)) * (square - (a + b)) ≤ most * most

small : (square a b : ℕ) → square ≤ most → a + b ≤ square → Small square a b
small square a b h l =
    let sum : a + b ≤ most = omega arith in
    let rest : square - (a + b) ≤ most = omega arith in
    record { product = le_trans (four_products_below_square a b) (mul-le-mul sum sum); rest = mul-le-mul rest rest }

at : (c : Else-square-a) → Small (c.before.args.x * c.before.args.x) c.before.args.a c.before.args.b
at c = small _ _ _ (mul-le-mul c.before.requires.0 c.before.requires.0) c.if-square-a.false

pub overflow_mul-square : goal.overflow_mul-square
overflow_mul-square c = omega (arith, mul-le-mul c.requires.0 c.requires.0)

pub returns-then-square-a : goal.returns-then-square-a
unfolding reaches roots_within
returns-then-square-a c = rw (lt-leb _ _ c.if-square-a.true)

pub overflow_mul-result : goal.overflow_mul-result
overflow_mul-result c = omega (arith, c.requires, mul-le-mul c.requires.0 c.requires.0)

pub overflow_mul-result-2 : goal.overflow_mul-result-2
overflow_mul-result-2 c = omega (arith, at (goal.at.overflow_mul-result-2 c).Else-square-a)

pub overflow_mul-result-3 : goal.overflow_mul-result-3
overflow_mul-result-3 c = omega (arith, at (goal.at.overflow_mul-result-3 c).Else-square-a)

pub returns : goal.returns
unfolding reaches roots_within
returns c = rw (le-leb _ _ c.if-square-a.false)
