-- Document 02, W-201, clause 14.6: the figures of a key maturity that a term's are read off, and a term's, the rate
-- lifted.
use Rattle.std.specs.Prelude.{◌≡◌, List, ℕ, pos}
use Rattle.paper.specs.declared.Interest.{Interest}
use Rattle.paper.specs.declared.Maturity.{Maturity}
use Rattle.paper_interest.specs.Interest.{upward, downward, figure_at}
use Rattle.interest_maturities.specs.Lift.{lifted}
use Rattle.interest_maturities.specs.declared.forward.Point.{Point}
use Rattle.interest_maturities.specs.Points.{PointRange, rate_of}

abbrev pub point_of : Interest → Maturity → Point
point_of i k = record { t = k.t; rate = lifted k.r; up = upward i k; down = downward i k }

-- p has the figures y days ahead
pub record PointAt (i : Interest) (ks : List Maturity) (y : ℕ) (p : Point) : Type 0 where
  pub range : PointRange p
  pub rate : figure_at (λ k. k.r) ks y ≡ rate_of p
  pub up : figure_at (λ k. pos (upward i k)) ks y ≡ pos p.up
  pub down : figure_at (λ k. pos (downward i k)) ks y ≡ pos p.down
