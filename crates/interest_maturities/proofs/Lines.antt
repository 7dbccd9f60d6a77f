-- Laws of a figure between two (14.6): what it is of lifted figures, and that it is no greater than both.
use mathlib.Core.Path.{◌≡◌, ap, ◌∙◌}
use Prim.Native.Nat.{ℕ, ◌+◌, ◌-◌, ◌*◌, ◌≤◌, ◌<◌}
use native.Mathlib.Nat.{mul-le-mul, mul-le-mul_right}
use native.Mathlib.Omega.{arith}
use lib.IntN.{ℤ, pos, sub_ℕ, ◌+ℤ◌, ◌*ℤ◌}
use Rattle.paper.specs.Numbers.{maturity_most}
use Rattle.paper.specs.Roundings.{half_up_z}
use Rattle.paper_interest.specs.Interest.{interpolated}
use Rattle.paper.proofs.Roundings.{half_le}
use Rattle.paper.proofs.Differences.{difference_times, difference_plus, differences_equal}
use Rattle.paper_interest.proofs.Lifted.{half_shifts}
use Rattle.interest_maturities.specs.declared.forward.Point.{Point}
use Rattle.interest_maturities.specs.Points.{figure_most, PointRange, Line, linear, point_between}

-- the products of the sum
pub line_parts_within : (t f u g y : ℕ) → Line t f u g y → (f * (u - y) ≤ figure_most * maturity_most)
    × (g * (y - t) ≤ figure_most * maturity_most)
line_parts_within t f u g y l =
    let first : u - y ≤ maturity_most = omega arith in
    let second : y - t ≤ maturity_most = omega arith in (
      mul-le-mul l.first first,
      mul-le-mul l.second second,
    )

pub linear_le : (t f u g y most : ℕ) → t < y → y ≤ u → f ≤ most → g ≤ most → linear t f u g y ≤ most
unfolding linear
linear_le t f u g y most h k p q =
    let parts : u - t ≡ u - y + (y - t) = omega arith in
    let times : most * (u - t) ≡ most * (u - y + (y - t)) = ap (λ (z : ℕ). most * z) parts in
    half_le _ _ most (omega arith) (omega (arith, times, mul-le-mul_right (u - y) p, mul-le-mul_right (y - t) q))

-- between two figures lifted alike lies their figure, lifted alike
pub interpolated_lifted : (l t a u b y : ℕ) → t < y → y ≤ u → interpolated t (sub_ℕ a l) u (sub_ℕ b l) y
    ≡ sub_ℕ (linear t a u b y) l
unfolding interpolated linear
interpolated_lifted l t a u b y h k =
    let parts : u - t ≡ u - y + (y - t) = omega arith in
    let times : l * (u - t) ≡ l * (u - y + (y - t)) = ap (λ (z : ℕ). l * z) parts in
    let n : ℕ = a * (u - y) + b * (y - t) in
    let sum : (pos (u - y) *ℤ sub_ℕ a l) +ℤ (pos (y - t) *ℤ sub_ℕ b l) ≡ sub_ℕ n (l * (u - t)) =
    rw (difference_times (u - y) a l, difference_times (y - t) b l)
    (difference_plus ((u - y) * a) ((u - y) * l) ((y - t) * b) ((y - t) * l)
    ∙ differences_equal ((u - y) * a + (y - t) * b) ((u - y) * l + (y - t) * l) n (l * (u - t)) (omega (arith, times)))
    in
    ap (λ (z : ℤ). half_up_z z (u - t)) sum ∙ half_shifts n (u - t) l (omega arith)

-- a point between two is in range
pub point_between_in_range : (a b : Point) (y : ℕ) → PointRange a → PointRange b → a.t < y → y ≤ b.t
    → PointRange (point_between a b y)
unfolding point_between
point_between_in_range a b y p q h k =
    record {
      days = omega arith;
      rate = linear_le a.t a.rate b.t b.rate y figure_most h k p.rate q.rate;
      up = linear_le a.t a.up b.t b.up y figure_most h k p.up q.up;
      down = linear_le a.t a.down b.t b.down y figure_most h k p.down q.down;
    }
