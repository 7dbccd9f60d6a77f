-- `limits::bands_of` meets its contract by either way. The quick one is taken where P·(x_pr + S_1) is at most 4·10^12:
-- then its product with the greatest year fits 64 bits, and so does that of P·(x_pr - S_1), which is no more.
use mathlib.Core.Path.{◌≡◌, ap}
use mathlib.Core.Bool.{true}
use Prim.Native.Nat.{ℕ, ◌+◌, ◌*◌, ◌≤◌}
use native.Mathlib.Nat.{mul-le-mul, mul-le-mul_left}
use native.Mathlib.Omega.{arith}
use borrow.Author.Tests.{leb-true, eqb-true}
use Rattle.paper.specs.declared.Side.{Side}
use Rattle.paper.specs.declared.Side.TheVariants.{Upper, Lower}
use Rattle.paper.specs.Lists.{three}
use Rattle.paper.specs.Numbers.{one_in_hundredths, price_most, rate_most, divisor_most}
use Rattle.paper.specs.Ranges.{grid_of, term_at}
use Rattle.paper.proofs.Logic.{and_left, and_right}
use Rattle.limits.specs.Sides.{farthest_of, unmoved_spread, unmoved_divisor, unmoved_band}
use Rattle.limits.specs.LimitRanges.{LimitStatics, UnmovedInputs, whole_product_most, valid_limit_statics}
use Rattle.limits.specs.LimitLaws.{grid_in_range, unmoved_spread_high, unmoved_at_most_upper, unmoved_is_band}
use Rattle.limits.proofs.bands_of.Goals.{After-grid_of, After-struct_known-2-1, After-struct_known-then-st-c-1, After-unmoved_bands, Start}
use Rattle.limits.proofs.bands_of.Goals as goal

statics : (s : Start) → LimitStatics s.args.st
statics s = valid_limit_statics s.args.st s.requires.st_value

-- P·(x_pr ± S_1), and how large it is
abbrev product : Start → Side → ℕ
product s side = s.args.p.units * unmoved_spread s.args.st side s.args.s1.bp

product_high : (s : Start) (side : Side) → product s side ≤ price_most * (one_in_hundredths * divisor_most + rate_most)
product_high s side =
    let asked = s.requires.bands_asked.0 in
    mul-le-mul asked.price (unmoved_spread_high s.args.st side s.args.s1.bp (statics s) asked.rate_high)

-- the start, from where both products are known
abbrev start : After-struct_known-2-1 → Start
start c = c.before.before.before.before.before

-- both products, from where the quick way is taken
abbrev products : After-struct_known-then-st-c-1 → After-struct_known-2-1
products c = c.before.before.before.before.before

-- what the test of the quick way tells
record Quick (s : Start) : Type 0 where
  monitoring : s.args.st.monitoring ≡ true
  lower : s.args.c.lower ≡ 0
  upper : s.args.c.upper ≡ 0
  small : product s Upper ≤ whole_product_most

quick : (c : After-struct_known-then-st-c-1) → Quick (start (products c))
quick c =
    let upper = (products c).before in
    let a = (start (products c)).args in
    let t = c.before.if-st-c.true in
    let made : ℕ = a.p.units * upper.unmoved_spread-2.result in
    let most = leb-true made whole_product_most (search (t, and_left, and_right)) in
    record {
      monitoring = search (t, and_left, and_right);
      lower = eqb-true _ _ (search (t, and_left, and_right));
      upper = eqb-true _ _ (search (t, and_left, and_right));
      small = omega (arith, most, ap (λ (n : ℕ). a.p.units * n) upper.unmoved_spread-2.ensures);
    }

-- so the product of either side, which is at most the upper one, fits with the greatest year
whole_fits : (c : After-grid_of) (side : Side) (u : ℕ)
    → let s = start (products c.before) in
    let st = s.args.st in
    u ≡ unmoved_spread st side s.args.s1.bp
    → UnmovedInputs c.grid_of.result (unmoved_divisor st) (s.args.p.units * u)
whole_fits c side u e =
    let s = start (products c.before) in
    let a = s.args in
    let v = statics s in
    let grid = grid_in_range a.st.lot in
    let less = mul-le-mul_left a.p.units (unmoved_at_most_upper a.st side a.s1.bp) in
    rw (c.grid_of.ensures, e)
    (record {
      grid = grid.0;
      divisor_low = omega (arith, v.divisor_low);
      whole = omega (arith, (quick c.before).small, less, mul-le-mul v.divisor_high grid.1);
    })

-- the bands that the quick way makes, each number by its definition
made : (c : After-unmoved_bands)
    → let s = start (products c.before.before) in
    let a = s.args in
    c.unmoved_bands.result
    ≡ three (λ k. unmoved_band (grid_of a.st.lot) (unmoved_divisor a.st) (product s Lower) (product s Upper)
    (farthest_of a.st a.p.units) (term_at a.terms k))
made c =
    let upper = (products c.before.before).before in
    let lower = upper.before.before in
    let a = (start (products c.before.before)).args in
    rw c.unmoved_bands.ensures
    (λ i. three (λ k. unmoved_band (c.before.grid_of.ensures i) (unmoved_divisor a.st)
    (a.p.units * lower.unmoved_spread.ensures i) (a.p.units * upper.unmoved_spread-2.ensures i)
    (lower.before.farthest_of-farthest.ensures i) (term_at a.terms k)))

pub overflow_mul-lower : goal.overflow_mul-lower
overflow_mul-lower c = rw c.unmoved_spread.ensures (omega (arith, product_high (goal.at.overflow_mul-lower c).Start Lower))

pub overflow_mul-upper : goal.overflow_mul-upper
overflow_mul-upper c = rw c.unmoved_spread-2.ensures (omega (arith, product_high (start (goal.at.overflow_mul-upper c).After-struct_known-2-1) Upper))

pub overflow_mul-divisor-then-st-c : goal.overflow_mul-divisor-then-st-c
overflow_mul-divisor-then-st-c c = omega (arith, statics (start (products (goal.at.overflow_mul-divisor-then-st-c c).After-struct_known-then-st-c-1)))

pub returns-then-st-c : goal.returns-then-st-c
returns-then-st-c c =
    let s = start (products (goal.at.returns-then-st-c c).After-struct_known-then-st-c-1) in
    let a = s.args in
    let q = quick (goal.at.returns-then-st-c c).After-struct_known-then-st-c-1 in
    rw (made (goal.at.returns-then-st-c c).After-unmoved_bands)
    (λ i. three (λ k. unmoved_is_band a.st a.p.units a.s1.bp a.c (term_at a.terms k) (statics s)
    q.monitoring q.lower q.upper i))

pub unmoved_bands-requires-clause-unmoved_inputs : goal.unmoved_bands-requires-clause-unmoved_inputs
unmoved_bands-requires-clause-unmoved_inputs c = (
  whole_fits (goal.at.unmoved_bands-requires-clause-unmoved_inputs c).After-grid_of Lower _ c.unmoved_spread.ensures,
  whole_fits (goal.at.unmoved_bands-requires-clause-unmoved_inputs c).After-grid_of Upper _ c.unmoved_spread-2.ensures,
)
