-- One turn of the search for a root, `next_bit`, on plain numbers: f is what is found when k bits are to come, and
-- p = 2^(k - 1) is the next of them.
use mathlib.Core.Path.{◌≡◌, ap}
use Prim.Native.Nat.{ℕ, ◌+◌, ◌-◌, ◌*◌, ◌^◌, ◌≤◌, ◌<◌}
use native.Mathlib.Nat.{mul-le-mul, mul-le-mul_left}
use native.Mathlib.Omega.{arith}
use lib.Pow.{pow-add, pow_pos}
use Rattle.paper.specs.Numbers.{one_in_ten_thousandths}
use Rattle.exact.specs.declared.Found.{Found}
use Rattle.exact.specs.RootBits.{Searched, OneBitMore}

-- what a turn computes with, in terms of p
pub record RootTurn (factor k p : ℕ) (f : Found) : Type 0 where
  pub two : 2 ^ k ≡ 2 * p
  pub shifted : factor * 2 ^ (20 + k - 1) ≡ factor * p * 2 ^ 20
  pub top : (f.x + 1) * (2 * p) ≤ 2 ^ 20
  pub few : f.x + 1 ≤ 2 ^ 20
  pub doubled : f.doubled ≡ factor * (f.x * (2 * p)) * 2 ^ 21
  pub above : f.rest < f.doubled + factor * (2 * p) * 2 ^ 20
  pub cap : factor * ((f.x + 1) * (2 * p)) ≤ one_in_ten_thousandths * 2 ^ 20

pub turn_fits : (factor k : ℕ) (f : Found) → 0 < k → factor ≤ one_in_ten_thousandths → Searched factor k f
    → RootTurn factor k (2 ^ (k - 1)) f
turn_fits factor k f pos hfactor s =
    let p : ℕ = 2 ^ (k - 1) in
    let one_more : 2 ^ (k - 1 + 1) ≡ p * 2 = pow-add 2 (k - 1) 1 in
    let same : k ≡ k - 1 + 1 = omega arith in
    let two : 2 ^ k ≡ 2 * p = omega (arith, ap (λ (z : ℕ). 2 ^ z) same) in
    let exponent : 20 + k - 1 ≡ 20 + (k - 1) = omega arith in
    let power : 2 ^ (20 + k - 1) ≡ 2 ^ 20 * p = rw exponent (pow-add 2 20 (k - 1)) in
    let top : (f.x + 1) * (2 * p) ≤ 2 ^ 20 = rw two at s.top in
    let some : 1 ≤ 2 * p = omega (arith, pow_pos (k - 1)) in
    record {
      two = two;
      shifted = rw power (omega arith);
      top = top;
      few = omega (arith, mul-le-mul_left (f.x + 1) some);
      doubled = rw two at s.doubled;
      above = rw two at s.above;
      cap = mul-le-mul hfactor top;
    }

module _ (factor k : ℕ) (f : Found) (step : ℕ) (pos : 0 < k) (hfactor : factor ≤ one_in_ten_thousandths)
    (s : Searched factor k f) (e : step ≡ factor * 2 ^ (20 + k - 1)) where
  -- the bit is taken
  pub taken_keeps : f.doubled + step ≤ f.rest + f.rest
      → OneBitMore factor k f
      (record {
        x = f.x + f.x + 1;
        doubled = f.doubled + step + step;
        rest = f.rest + f.rest - (f.doubled + step);
      })
  taken_keeps low =
      let t = turn_fits factor k f pos hfactor s in
      record {
        searched = record { bits = omega arith; top = omega arith; doubled = omega arith; above = omega arith };
        same = rw t.two (omega arith);
      }

  -- the bit is left
  pub left_keeps : f.rest + f.rest < f.doubled + step
      → OneBitMore factor k f (record { x = f.x + f.x; doubled = f.doubled; rest = f.rest + f.rest })
  left_keeps high =
      let t = turn_fits factor k f pos hfactor s in
      record {
        searched = record { bits = omega arith; top = omega arith; doubled = omega arith; above = omega arith };
        same = rw t.two (omega arith);
      }
