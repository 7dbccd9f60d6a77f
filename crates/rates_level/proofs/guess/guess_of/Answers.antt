-- `guess::guess_of` meets its contract: every root is below 2^16, so that nothing wraps.
use Prim.Native.Nat.{ℕ, ◌*◌, ◌≤◌}
use native.Mathlib.Nat.{mul-le-mul, mul-pos, le_trans, le_of_lt, div-le_self}
use native.Mathlib.Omega.{arith}
use Rattle.paper.specs.Numbers.{liquidity_most}
use Rattle.rates_level.specs.RateStatics.{tentative_bound}
use Rattle.rates_level.specs.Level.{root_bound}
use Rattle.rates_level.proofs.guess.guess_of.Goals as goal
use Rattle.rates_level.proofs.guess.guess_of.Goals.{After-struct_known-2-1}

-- the two products at their most
record Products (tentative first liq second : ℕ) : Type 0 where
  left : tentative * first ≤ tentative_bound * root_bound
  right : liq * second ≤ liquidity_most * root_bound

products : (c : After-struct_known-2-1)
    → let a = c.before.before.before.before.args in
    Products a.tentative c.before.before.root_of.result a.st.liq c.before.root_of-2.result
products c =
    let s = c.before.before.before.before in
    record {
      left = mul-le-mul s.requires.m_le_ahead_most.1 (le_of_lt c.before.before.root_of.ensures);
      right = mul-le-mul s.requires.rate_statics.liquidity_high (le_of_lt c.before.root_of-2.ensures);
    }

pub overflow_mul-result : goal.overflow_mul-result
overflow_mul-result c = omega (arith, mul-le-mul c.requires.m_le_ahead_most.1 (le_of_lt c.root_of.ensures))

pub overflow_mul-result-2 : goal.overflow_mul-result-2
overflow_mul-result-2 c = omega (arith, products (goal.at.overflow_mul-result-2 c).After-struct_known-2-1)

pub overflow_add-result : goal.overflow_add-result
overflow_add-result c = omega (arith, products (goal.at.overflow_add-result c).After-struct_known-2-1)

pub overflow_mul-result-3 : goal.overflow_mul-result-3
overflow_mul-result-3 c =
    let st = c.requires.rate_statics in
    omega (arith, mul-le-mul st.step_high st.first_high)

pub nonzero_div-result : goal.nonzero_div-result
nonzero_div-result c =
    let st = c.requires.rate_statics in
    mul-pos st.step_low st.first_low

pub returns : goal.returns
returns c = le_trans (div-le_self _ _) (omega (arith, products (goal.at.returns c).After-struct_known-2-1))
