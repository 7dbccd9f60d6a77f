-- `product_to_grid` meets its contract: the ranges keep p·a and d·g within 64 bits and the figure too; the rest is
-- `rounded_wide`'s.
use Prim.Native.Nat.{ℕ, ◌*◌, ◌^◌, ◌≤◌, ◌<◌}
use native.Mathlib.Nat.{mul-le-mul, lt_of_mul-lt-mul_right}
use native.Mathlib.Omega.{arith}
use Rattle.paper.specs.Numbers.{coarsest_grid, price_most}
use Rattle.paper.specs.Roundings.{rounded}
use Rattle.exact.specs.Wide.{spread_most, year_most, scale_least, scale_most}
use Rattle.exact.proofs.Quotients.{rounded_below_next_step}
use Rattle.exact.proofs.product_to_grid.Goals as goal
use Rattle.exact.proofs.product_to_grid.Goals.{Start}

-- the bounds of the products, from the ranges
record Bounds (g p a b d : ℕ) : Type 0 where
  pa : p * a ≤ price_most * spread_most
  pab : p * a * b ≤ price_most * spread_most * year_most
  dg : d * g ≤ scale_most * coarsest_grid
  dg_low : scale_least * 1 ≤ d * g

product_bounded : (c : Start) → Bounds c.args.g c.args.p c.args.a c.args.b c.args.d
product_bounded c =
    let r = c.requires in
    record {
      pa = mul-le-mul r.price r.first;
      pab = mul-le-mul (mul-le-mul r.price r.first) r.second;
      dg = mul-le-mul r.high r.coarse;
      dg_low = mul-le-mul r.low r.grid;
    }

pub overflow_mul-p : goal.overflow_mul-p
overflow_mul-p c = omega (arith, product_bounded (goal.at.overflow_mul-p c).Start)

pub overflow_mul-d : goal.overflow_mul-d
overflow_mul-d c = omega (arith, product_bounded (goal.at.overflow_mul-d c).Start)

pub rounded_wide-requires : goal.rounded_wide-requires
rounded_wide-requires c = omega (arith, product_bounded (goal.at.rounded_wide-requires c).Start)

pub overflow_mul-result : goal.overflow_mul-result
overflow_mul-result c =
    let g = c.args.g in
    let n : ℕ = c.args.p * c.args.a * c.args.b in
    let d = c.args.d in
    let low = rounded_below_next_step c.args.way g n d c.requires.grid (omega (arith, c.requires.low)) in
    let small : rounded c.args.way n (d * g) * g < 2 ^ 63 =
    lt_of_mul-lt-mul_right d {m = rounded c.args.way n (d * g) * g} {n = 2 ^ 63}
    (omega (arith, product_bounded (goal.at.overflow_mul-result c).Start)) in
    rw c.rounded_wide.ensures (omega arith)

pub returns : goal.returns
returns c = rw c.rounded_wide.ensures
