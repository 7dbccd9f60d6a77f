-- Laws of a share's limits: how far their parts reach, and what a band limit is made of.
use Rattle.std.specs.Prelude.{◌≡◌, refl, true, false, ℕ, ◌+◌, ◌-◌, ◌*◌, ◌≤◌, ◌<◌, ℤ}
use Rattle.std.proofs.Common.{mul-le-mul, le_antisymm, arith}
use Rattle.paper.specs.declared.Price.{Price}
use Rattle.paper.specs.declared.Rate.{Rate}
use Rattle.paper.specs.declared.Statics.{Statics}
use Rattle.paper.specs.declared.Side.{Side}
use Rattle.paper.specs.declared.Side.TheVariants.{Upper, Lower}
use Rattle.paper.specs.declared.Way.{Way}
use Rattle.paper.specs.declared.Moves.{Moves}
use Rattle.paper.specs.declared.Term.{Term}
use Rattle.paper.specs.Numbers.{one_in_bp, one_in_hundredths, year_in_day_bp, rate_most, divisor_most, shift_most, moves_most}
use Rattle.paper.specs.Ranges.{grid_of}
use Rattle.paper.specs.Roundings.{rounded_to, grown}
use Rattle.paper_desk.specs.Limits.{share, limit_of, inward, shifted, farthest, spread, monitored, narrower_of, band_limit}
use Rattle.paper_desk.specs.Limits.{band_of}
use Rattle.paper.proofs.Roundings.{grid_monotone}
pub use Rattle.paper_desk.proofs.LimitSizes.{grid_in_range}
use Rattle.paper_desk.proofs.KindLaws as kinds
use Rattle.exact.specs.Wide.{spread_most}
use Rattle.limits.specs.Sides.{farthest_rate, farthest_limit, farthest_of, unmoved_spread, unmoved_divisor}
use Rattle.limits.specs.Sides.{unmoved_limit, unmoved_band}
use Rattle.limits.specs.LimitRanges.{LimitStatics, RangeInputs, shifted_most}

-- ---- quotients

-- two ways to write one quotient are rounded alike
same_quotient_rounds_alike : (way : Way) (g n d m e : ℕ) → 0 < g → 0 < d → 0 < e → n * e ≡ m * d
    → rounded_to way g n d ≡ rounded_to way g m e
same_quotient_rounds_alike way g n d m e p q r same =
    le_antisymm (grid_monotone way g n d m e p q r (omega arith)) (grid_monotone way g m e n d p r q (omega arith))

pub shifted_den_is_one : (side : Side) (p rate : ℕ) → (shifted side p rate).den ≡ one_in_bp
unfolding shifted
shifted_den_is_one Upper p rate = refl
shifted_den_is_one Lower p rate = refl

pub shifted_high : (side : Side) (p : Price) (rate : Rate) → RangeInputs p rate
    → (shifted side p.units rate.bp).num ≤ shifted_most
unfolding shifted
shifted_high Upper p rate r =
    let h : one_in_bp + rate.bp ≤ one_in_bp + rate_most = omega (arith, r.rate_high) in mul-le-mul r.price h
shifted_high Lower p rate r = let h : one_in_bp - rate.bp ≤ one_in_bp + rate_most = omega arith in mul-le-mul r.price h

pub farthest_high : (st : Statics) (side : Side) → LimitStatics st → farthest_rate st side ≤ rate_most
farthest_high st Upper s = s.upper_high
farthest_high st Lower s = s.lower_high

-- the farthest limit before it is rounded, by its rate
pub farthest_is_shifted : (st : Statics) (side : Side) (p : ℕ)
    → shifted side p (farthest_rate st side) ≡ farthest st side p
unfolding farthest
farthest_is_shifted st Upper p = refl
farthest_is_shifted st Lower p = refl

-- ---- the spread

-- e·S_1 of the ranges, in millionths
pub away_high : (st : Statics) (s1 c : ℕ) → LimitStatics st → s1 ≤ rate_most → c ≤ moves_most
    → (one_in_hundredths + 2 * c * st.shift) * s1 ≤ (one_in_hundredths + 2 * moves_most * shift_most) * rate_most
away_high st s1 c s r m =
    let most : one_in_hundredths + 2 * c * st.shift ≤ one_in_hundredths + 2 * moves_most * shift_most =
    omega (arith, mul-le-mul m s.shift_high) in
    mul-le-mul most r

pub spread_high : (st : Statics) (side : Side) (s1 c : ℕ) → LimitStatics st → s1 ≤ rate_most → c ≤ moves_most
    → spread st side s1 c ≤ spread_most
unfolding spread
spread_high st Upper s1 c s r m = omega (arith, s.divisor_high, away_high st s1 c s r m)
spread_high st Lower s1 c s r m = omega (arith, s.divisor_high)

-- ---- before the first move

-- a hundred goes out of the spread
spread_is_hundred_unmoved : (st : Statics) (side : Side) (s1 : ℕ)
    → spread st side s1 0 ≡ one_in_hundredths * unmoved_spread st side s1
unfolding spread
spread_is_hundred_unmoved st Upper s1 = omega arith
spread_is_hundred_unmoved st Lower s1 = omega arith

pub unmoved_spread_high : (st : Statics) (side : Side) (s1 : ℕ) → LimitStatics st → s1 ≤ rate_most
    → unmoved_spread st side s1 ≤ one_in_hundredths * divisor_most + rate_most
unmoved_spread_high st Upper s1 s r = omega (arith, s.divisor_high)
unmoved_spread_high st Lower s1 s r = omega (arith, s.divisor_high)

pub unmoved_at_most_upper : (st : Statics) (side : Side) (s1 : ℕ) → unmoved_spread st side s1 ≤ unmoved_spread st Upper s1
unmoved_at_most_upper st Upper s1 = omega arith
unmoved_at_most_upper st Lower s1 = omega arith

-- and out of its divisor: the quotient is the same, and so is each rounding of it
pub unmoved_is_monitored_limit : (st : Statics) (side : Side) (p s1 k : ℕ) (repo : ℤ) → LimitStatics st
    → unmoved_limit side (grid_of st.lot) (unmoved_divisor st) (p * unmoved_spread st side s1) k repo
    ≡ limit_of (inward side) st (monitored st p s1 k repo 0 side)
unfolding limit_of monitored
unmoved_is_monitored_limit st side p s1 k repo s =
    let u : ℕ = unmoved_spread st side s1 in
    let b : ℕ = grown year_in_day_bp k repo in
    let d : ℕ = unmoved_divisor st in
    let e : ℕ = one_in_bp * st.xpr * year_in_day_bp in
    rw (spread_is_hundred_unmoved st side s1)
    (same_quotient_rounds_alike (inward side) (grid_of st.lot) (p * u * b) d (p * (one_in_hundredths * u) * b) e
    (grid_in_range st.lot).0 (omega (arith, s.divisor_low)) (omega (arith, s.divisor_low)) (omega arith))

-- ---- a share's band limit: with monitoring the narrower of two, without it the farthest

pub band_is_narrower : (st : Statics) (side : Side) (p s1 c k : ℕ) (repo : ℤ) → LimitStatics st → st.monitoring ≡ true
    → band_limit st p s1 k repo c side
    ≡ narrower_of side (farthest_limit st side p) (limit_of (inward side) st (monitored st p s1 k repo c side))
unfolding band_limit
band_is_narrower st side p s1 c k repo s e =
    kinds.band_monitored share st side p s1 c k repo (omega arith) s.divisor_low e

pub band_is_farthest : (st : Statics) (side : Side) (p s1 c k : ℕ) (repo : ℤ) → st.monitoring ≡ false
    → band_limit st p s1 k repo c side ≡ farthest_limit st side p
unfolding band_limit
band_is_farthest st side p s1 c k repo e = kinds.band_unmonitored share st side p s1 c k repo e

-- with monitoring and before the first move, a term's band is that of P·(x_pr ± S_1)
pub unmoved_is_band : (st : Statics) (p s1 : ℕ) (c : Moves) (x : Term) → LimitStatics st → st.monitoring ≡ true
    → c.lower ≡ 0 → c.upper ≡ 0
    → unmoved_band (grid_of st.lot) (unmoved_divisor st) (p * unmoved_spread st Lower s1) (p * unmoved_spread st Upper s1)
    (farthest_of st p) x
    ≡ band_of st p s1 c x
unfolding band_of
unmoved_is_band st p s1 c x s e below above =
    rw (
      below,
      above,
      unmoved_is_monitored_limit st Lower p s1 x.k x.low s,
      unmoved_is_monitored_limit st Upper p s1 x.k x.high s,
      band_is_narrower st Lower p s1 0 x.k x.low s e,
      band_is_narrower st Upper p s1 0 x.k x.high s e,
    )
