-- Document 02, W-201, clause 14.6 on natural numbers: figures so many days ahead, the rate lifted.
use Rattle.std.specs.Prelude.{ℕ, ◌+◌, ◌-◌, ◌*◌, ◌≤◌, ◌<◌, ℤ}
use Rattle.std.proofs.Math.IntN.{sub_ℕ}
use Rattle.paper.specs.Numbers.{maturity_most}
use Rattle.paper.specs.Roundings.{half_up}
use Rattle.interest_maturities.specs.Lift.{lift}
use Rattle.interest_maturities.specs.declared.forward.Point.{Point}

-- no lifted rate and no estimate is above it
abbrev pub figure_most : ℕ
figure_most = 2 * lift

pub record PointRange (p : Point) : Type 0 where
  pub days : p.t ≤ maturity_most
  pub rate : p.rate ≤ figure_most
  pub up : p.up ≤ figure_most
  pub down : p.down ≤ figure_most

-- the rate that a point has, of either sign
abbrev pub rate_of : Point → ℤ
rate_of p = sub_ℕ p.rate lift

-- y is after t and not after u, and the figures at both are figures
pub record Line (t f u g y : ℕ) : Type 0 where
  pub after : t < y
  pub until : y ≤ u
  pub days : u ≤ maturity_most
  pub first : f ≤ figure_most
  pub second : g ≤ figure_most

-- `interpolated`, of figures that are never below zero
unfoldable pub linear : (t f u g y : ℕ) → ℕ
linear t f u g y = half_up (f * (u - y) + g * (y - t)) (u - t)

-- each figure between those of two points
unfoldable pub point_between : (earlier later : Point) → (days : ℕ) → Point
point_between a b y =
    record {
      t = y;
      rate = linear a.t a.rate b.t b.rate y;
      up = linear a.t a.up b.t b.up y;
      down = linear a.t a.down b.t b.down y;
    }
