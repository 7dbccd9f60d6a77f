-- Laws of a band's limits (16.2), counted from the base.
use mathlib.Core.Path.{◌≡◌, sym, ap, ◌∙◌}
use Prim.Native.Nat.{ℕ, ◌+◌, ◌-◌, ◌*◌, ◌≤◌, ◌<◌}
use native.Mathlib.Nat.{mul-le-mul, mul-le-mul_left, mul-le-mul_right, mul-pos}
use native.Mathlib.Omega.{arith}
use lib.IntN.{ℤ, pos, sub_ℕ, ◌+ℤ◌, ◌-ℤ◌, ◌*ℤ◌}
use Rattle.paper.specs.declared.Interest.{Interest}
use Rattle.paper.specs.Numbers.{one_in_hundredths, maturity_most, divisor_most}
use Rattle.paper.specs.Roundings.{half_up}
use Rattle.paper_interest.specs.Interest.{limit_from}
use Rattle.paper.proofs.Roundings.{half_le}
use Rattle.paper.proofs.Differences.{difference_times, difference_plus, difference_minus, differences_equal}
use Rattle.paper.proofs.Differences.{whole_is_difference}
use Rattle.paper_interest.proofs.Lifted.{half_shifts}
use Rattle.interest_maturities.specs.declared.forward.Point.{Point}
use Rattle.interest_maturities.specs.Lift.{lift}
use Rattle.interest_maturities.specs.Points.{figure_most, PointRange, rate_of}
use Rattle.interest_maturities.specs.Pair.{base, PairRange, forward_of, upper_of, lower_of, margin_of, Risen}

-- the products of the forward rate
pub record Rises (i : Interest) (m n : Point) : Type 0 where
  pub first : m.rate * i.ym ≤ figure_most * (maturity_most - 1)
  pub second : n.rate * i.yn ≤ figure_most * maturity_most

pub rises_in_range : (i : Interest) (m n : Point) → PairRange i → PointRange m → PointRange n → Rises i m n
rises_in_range i m n p a b =
    let early : i.ym ≤ maturity_most - 1 = omega arith in
    record { first = mul-le-mul a.rate early; second = mul-le-mul b.rate p.given.yn }

-- the lifts of the two rates leave the forward rate's own lift, which is the base's part
pub risen_is : (i : Interest) (m n : Point) → PairRange i → PointRange m → PointRange n
    → Risen i m n (n.rate * i.yn + (base - lift) * (i.yn - i.ym) - m.rate * i.ym)
unfolding forward_of
risen_is i m n p a b =
    let s = rises_in_range i m n p a b in
    record {
      is =
          differences_equal _ (base * (i.yn - i.ym)) (i.yn * n.rate + i.ym * lift) (i.yn * lift + i.ym * m.rate)
          (omega arith)
          ∙ sym (difference_minus (i.yn * n.rate) (i.yn * lift) (i.ym * m.rate) (i.ym * lift))
          ∙ sym (rw (difference_times i.yn n.rate lift, difference_times i.ym m.rate lift));
      low = omega arith;
      high = omega arith;
    }

-- a limit counted from the base
pub limit_counted : (i : Interest) (n : ℕ) → PairRange i
    → sub_ℕ (half_up n ((i.yn - i.ym) * i.xir)) base ≡ limit_from i (sub_ℕ n (base * ((i.yn - i.ym) * i.xir)))
unfolding limit_from
limit_counted i n p =
    let some : 0 < i.yn - i.ym = omega arith in
    sym (half_shifts n ((i.yn - i.ym) * i.xir) base (mul-pos some (omega arith)))

pub half_within : (n d : ℕ) → 0 < d → half_up n d ≤ n
half_within n d h = half_le n d n h (omega (arith, mul-le-mul_left n h))

-- ---- the sums that are rounded

-- the summands fit, and no margin is above x_IR·forward
pub record Sums (i : Interest) (r : ℕ) : Type 0 where
  pub product : i.xir * r ≤ divisor_most * ((base + figure_most) * maturity_most)
  pub margin : margin_of i figure_most ≤ one_in_hundredths * maturity_most * figure_most
  pub less : margin_of i figure_most ≤ i.xir * r

pub sums_in_range : (i : Interest) (m n : Point) (r : ℕ) → PairRange i → Risen i m n r → Sums i r
sums_in_range i m n r p s =
    let one : 1 ≤ i.xir = omega arith in
    record {
      product = mul-le-mul p.given.divisor_high s.high;
      margin = omega arith;
      less = omega (arith, mul-le-mul_right r one);
    }

module _ (i : Interest) (m n : Point) (r : ℕ) (s : Risen i m n r) where
  -- x_IR·forward, over the denominator of the limits
  multiplied_is : pos i.xir *ℤ forward_of i (rate_of m) (rate_of n)
      ≡ sub_ℕ (i.xir * r) (base * ((i.yn - i.ym) * i.xir))
  multiplied_is =
      ap (λ (z : ℤ). pos i.xir *ℤ z) (sym s.is)
      ∙ difference_times i.xir r (base * (i.yn - i.ym))
      ∙ ap (λ (z : ℕ). sub_ℕ (i.xir * r) z) (omega arith)

  pub upper_counted : (h : ℕ)
      → limit_from i (sub_ℕ (i.xir * r + margin_of i h) (base * ((i.yn - i.ym) * i.xir)))
      ≡ upper_of i (rate_of m) (rate_of n) (pos h)
  unfolding upper_of
  upper_counted h =
      let den : ℕ = base * ((i.yn - i.ym) * i.xir) in
      let sum : sub_ℕ (i.xir * r) den +ℤ pos (margin_of i h) ≡ sub_ℕ (i.xir * r + margin_of i h) den =
      ap (λ (z : ℤ). sub_ℕ (i.xir * r) den +ℤ z) (whole_is_difference (margin_of i h))
      ∙ difference_plus (i.xir * r) den (margin_of i h) 0
      ∙ differences_equal (i.xir * r + margin_of i h) (den + 0) (i.xir * r + margin_of i h) den (omega arith) in
      sym (ap (λ (z : ℤ). limit_from i (z +ℤ pos (margin_of i h))) multiplied_is ∙ ap (limit_from i) sum)

  pub lower_counted : (l : ℕ) → margin_of i l ≤ i.xir * r
      → limit_from i (sub_ℕ (i.xir * r - margin_of i l) (base * ((i.yn - i.ym) * i.xir)))
      ≡ lower_of i (rate_of m) (rate_of n) (pos l)
  unfolding lower_of
  lower_counted l k =
      let den : ℕ = base * ((i.yn - i.ym) * i.xir) in
      let sum : sub_ℕ (i.xir * r) den -ℤ pos (margin_of i l) ≡ sub_ℕ (i.xir * r - margin_of i l) den =
      ap (λ (z : ℤ). sub_ℕ (i.xir * r) den -ℤ z) (whole_is_difference (margin_of i l))
      ∙ difference_minus (i.xir * r) den (margin_of i l) 0
      ∙ differences_equal (i.xir * r + 0) (den + margin_of i l) (i.xir * r - margin_of i l) den (omega arith) in
      sym (ap (λ (z : ℤ). limit_from i (z -ℤ pos (margin_of i l))) multiplied_is ∙ ap (limit_from i) sum)
