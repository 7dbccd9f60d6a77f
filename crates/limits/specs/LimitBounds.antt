-- How large a limit and delta can be: the paper's laws, in the ranges that the limit rules ask for; and the products of
-- delta.
use Rattle.std.specs.Prelude.{◌≡◌, ℕ, ◌*◌, ◌/◌, ◌≤◌, ℤ}
use Rattle.std.proofs.Common.{sym, mul-le-mul, arith}
use Rattle.paper.specs.declared.Price.{Price}
use Rattle.paper.specs.declared.Rate.{Rate}
use Rattle.paper.specs.declared.Statics.{Statics}
use Rattle.paper.specs.declared.Side.{Side}
use Rattle.paper.specs.declared.Way.{Way}
use Rattle.paper.specs.Numbers.{one_in_bp, coarsest_grid, price_most, rate_most, shift_most, divisor_most}
use Rattle.paper.specs.Ranges.{grid_of}
use Rattle.paper_desk.specs.Limits.{limit_of, inward, shifted, range_limit, band_limit, delta_of, LimitStatics}
pub use Rattle.paper_desk.specs.Kept.{fresh_most, delta_most}
use Rattle.paper_desk.proofs.LimitSizes as sizes
use Rattle.paper_desk.proofs.LimitSizes.{grid_in_range}
use Rattle.exact.specs.SignedLaws.{within_most_is_at_most}
use Rattle.limits.specs.Sides.{farthest_rate, farthest_limit}
use Rattle.limits.specs.LimitRanges.{RangeInputs, BandInputs}
use Rattle.limits.specs.LimitLaws.{shifted_den_is_one, shifted_high, farthest_high, farthest_is_shifted}

-- however it is rounded, the price shifted by a rate is at most twice the greatest price
pub shifted_limit_high : (way : Way) (st : Statics) (side : Side) (p : Price) (rate : Rate) → RangeInputs p rate
    → limit_of way st (shifted side p.units rate.bp) ≤ fresh_most
shifted_limit_high way st side p rate r =
    let den : (shifted side p.units rate.bp).den ≡ one_in_bp = shifted_den_is_one side p.units rate.bp in
    sizes.limit_high way st (shifted side p.units rate.bp) (2 * (price_most / coarsest_grid)) (omega (arith, den))
    (rw den (omega (arith, shifted_high side p rate r)))

-- and so is the farthest limit of a side, whose rate is a maximum of the statics
pub farthest_limit_high : (st : Statics) (side : Side) (p : Price) → LimitStatics st → p.units ≤ price_most
    → farthest_limit st side p.units ≤ fresh_most
farthest_limit_high st side p s h =
    rw (sym (farthest_is_shifted st side p.units))
    (shifted_limit_high (inward side) st side p (record { bp = farthest_rate st side })
    (record { price = h; rate_high = farthest_high st side s }))

pub range_high : (st : Statics) (side : Side) (p : Price) (rate : Rate) → RangeInputs p rate
    → range_limit st p.units rate.bp side ≤ fresh_most
range_high st side p rate r = sizes.range_high st side p.units rate.bp r.price r.rate_high

pub band_high : (st : Statics) (side : Side) (p : Price) (s1 : Rate) (c k : ℕ) (repo : ℤ) → LimitStatics st
    → BandInputs p s1 c k repo → band_limit st p.units s1.bp k repo c side ≤ fresh_most
band_high st side p s1 c k repo s r =
    sizes.band_high st side p.units s1.bp c k repo s r.price r.days
    (within_most_is_at_most repo r.repo_high)

-- ---- delta

-- its products, in the order in which they are formed
pub record DeltaSizes (st : Statics) (p : Price) (s1 : Rate) : Type 0 where
  pub shift : st.shift ≤ shift_most
  pub rates : st.shift * s1.bp ≤ shift_most * rate_most
  pub num : st.shift * s1.bp * p.units ≤ shift_most * rate_most * price_most
  pub den : st.xpr * grid_of st.lot ≤ divisor_most * coarsest_grid

pub delta_sizes : (st : Statics) (p : Price) (s1 : Rate) → LimitStatics st → RangeInputs p s1 → DeltaSizes st p s1
delta_sizes st p s1 s r =
    let rates : st.shift * s1.bp ≤ shift_most * rate_most = mul-le-mul s.shift_high r.rate_high in
    record {
      shift = s.shift_high;
      rates = rates;
      num = mul-le-mul rates r.price;
      den = mul-le-mul s.divisor_high (grid_in_range st.lot).1;
    }

pub delta_high : (st : Statics) (p : Price) (s1 : Rate) → LimitStatics st → RangeInputs p s1
    → delta_of st s1.bp p.units ≤ delta_most
delta_high st p s1 s r = sizes.delta_high st p.units s1.bp s r.price r.rate_high
