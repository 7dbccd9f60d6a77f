-- Bounds of quotients that the roundings share, on plain numbers.
use Prim.Native.Nat.{ℕ, ◌+◌, ◌*◌, ◌/◌, ◌≤◌, ◌<◌}
use native.Mathlib.Nat.{mul-pos, mul-le-mul_left, le_trans}
use native.Mathlib.Omega.{arith}
use Rattle.paper.specs.declared.Way.{Way}
use Rattle.paper.specs.Roundings.{rounded_to}
use Rattle.paper.proofs.Roundings.{quotient_low, rounded_near}

-- where the divisor is not 1 the quotient is at most half the number, and one more fits
pub at_most_half : (n d : ℕ) → 2 ≤ d → n / d * 2 ≤ n
at_most_half n d two = le_trans (mul-le-mul_left (n / d) two) (quotient_low n d (omega arith))

-- a figure on the grid is less than a step above the quotient
pub rounded_below_next_step : (way : Way) (g n d : ℕ) → 0 < g → 0 < d → rounded_to way g n d * d < n + d * g
rounded_below_next_step way g n d p q = omega (arith, rounded_near way n (d * g) (mul-pos q p))
