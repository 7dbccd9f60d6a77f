-- Document 01, "Ranges, bands, alerts, moves" (10.1, 11.2, 17.8, 18): the limits, rounded by (g); document 02, W-206
-- (11.1): those of a bond. What the two kinds of security share is said over the kind.
use Rattle.std.specs.Prelude.{Bool, true, false, ℕ, ◌+◌, ◌-◌, ◌*◌, ◌≤◌, ◌<◌, min, max, ltb, ℤ, pos, ◌*ℤ◌}
use Rattle.std.proofs.Math.IntN.{sub_ℕ}
use Rattle.paper.specs.declared.Statics.{Statics}
use Rattle.paper.specs.declared.BondScale.{BondScale}
use Rattle.paper.specs.declared.Side.{Side}
use Rattle.paper.specs.declared.Side.TheVariants.{Upper, Lower}
use Rattle.paper.specs.declared.Way.{Way}
use Rattle.paper.specs.declared.Way.TheVariants.{Down, HalfUp, Up}
use Rattle.paper.specs.declared.Limits.{Limits}
use Rattle.paper.specs.declared.Moves.{Moves}
use Rattle.paper.specs.declared.Term.{Term}
use Rattle.paper.specs.Lists.{pick}
use Rattle.paper.specs.Numbers.{one_in_bp, one_in_hundredths, year_in_day_bp, one_in_per_cent_hundredths, rate_most, divisor_least}
use Rattle.paper.specs.Numbers.{divisor_most, shift_most}
use Rattle.paper.specs.Roundings.{Quotient, half_up, rounded_to, rounded_z, at_least_zero, lesser_of, greater_of, grown}
use Rattle.paper.specs.Ranges.{grid_of}

-- ---- the kind of security

-- a share, or a bond with what its limits take beside its statics
pub data Kind : Type 0 where
  share : Kind
  bond : BondScale → Kind

-- a bond without a face value has no limits (17)
abbrev pub HasFace : Kind → Type 0
HasFace share = 0 < 1
HasFace (bond b) = 0 < b.face

-- the statics that a limit is worked out in, within the ends that bound it
pub record LimitStatics (st : Statics) : Type 0 where
  pub divisor_low : divisor_least ≤ st.xpr
  pub divisor_high : st.xpr ≤ divisor_most
  pub shift_high : st.shift ≤ shift_most
  pub upper_high : st.pchmax ≤ rate_most
  pub lower_high : st.pclmax ≤ rate_most

-- ---- a limit, rounded

-- (g) "once each, .. to the grid", that way
unfoldable pub limit_of : Way → Statics → Quotient → ℕ
limit_of way st x = rounded_to way (grid_of st.lot) x.num x.den

-- W-209: "Round the upper limit down and the lower limit up, bonds' too": the way of a band's side
abbrev pub inward : Side → Way
inward Upper = Down
inward Lower = Up

-- what that is for: "An order at the published limit can lie outside the exact band", and at one inside it cannot
abbrev pub Inside : Side → (limit : ℕ) → Quotient → Type 0
Inside Upper limit x = limit * x.den ≤ x.num
Inside Lower limit x = x.num ≤ limit * x.den

-- x lies no farther in than y
abbrev pub Outward : Side → (x y : ℕ) → Type 0
Outward Upper x y = y ≤ x
Outward Lower x y = x ≤ y

-- W-206: "the grown price half up to a unit"
abbrev pub grown_price : Quotient → ℕ
grown_price x = half_up x.num x.den

-- 11.1: "(.. - Carry - НКД)/FaceValue·100", W-206: ".. to two decimals of the per cent. Negative limits are zero.",
-- that way. It is kept in hundredths of a per cent
unfoldable pub bond_limit_of : Way → BondScale → Quotient → ℕ
bond_limit_of way b x =
    at_least_zero
    (rounded_z way (pos one_in_per_cent_hundredths *ℤ sub_ℕ (grown_price x) (b.carry + b.accrued)) b.face)

-- the limit of either kind
abbrev pub limit_for : Way → Kind → Statics → Quotient → ℕ
limit_for way share st x = limit_of way st x
limit_for way (bond b) st x = bond_limit_of way b x

-- P·(1 + rate) above, P·(1 - rate) below
unfoldable pub shifted : Side → (p rate : ℕ) → Quotient
shifted Upper p rate = record { num = p * (one_in_bp + rate); den = one_in_bp }
shifted Lower p rate = record { num = p * (one_in_bp - rate); den = one_in_bp }

-- ---- ranges

-- "Range of level L: P·(1 ± S_L)."; W-209: "ranges .. keep half up"
unfoldable pub range_limit : Statics → (p rate : ℕ) → Side → ℕ
range_limit st p rate side = limit_of HalfUp st (shifted side p rate)

unfoldable pub range_of : Statics → (p rate : ℕ) → Limits
range_of st p rate = record { lower = range_limit st p rate Lower; upper = range_limit st p rate Upper }

-- ---- bands

-- "Monitoring no: P·(1 + PcH_max) and P·(1 - PcL_max)."
unfoldable pub farthest : Statics → Side → (p : ℕ) → Quotient
farthest st Upper p = shifted Upper p st.pchmax
farthest st Lower p = shifted Lower p st.pclmax

-- x_pr ± e·S_1, in millionths, with "e = 1 + 2·c·shift, shift as a fraction"; below, "max(0, ..)"
unfoldable pub spread : Statics → Side → (s1 c : ℕ) → ℕ
spread st Upper s1 c = one_in_bp * st.xpr + (one_in_hundredths + 2 * c * st.shift) * s1
spread st Lower s1 c = one_in_bp * st.xpr - (one_in_hundredths + 2 * c * st.shift) * s1

-- "(1 + R·k/36500)", R in per cent: x grown over k days at a repo rate
abbrev pub growing : (k : ℕ) → (repo : ℤ) → Quotient → Quotient
growing k repo x = record { num = x.num * grown year_in_day_bp k repo; den = x.den * year_in_day_bp }

-- a share's farthest limit does not grow; a bond's grows "(1 + REPORate·k/36500)" (11.1)
abbrev pub farthest_for : Kind → Statics → Side → (p k : ℕ) → Quotient
farthest_for share st side p k = farthest st side p
farthest_for (bond b) st side p k = growing k b.repo (farthest st side p)

-- "P·(1 + e·S_1/x_pr)·(1 + RRcH·k/36500)" above, "P·max(0, 1 - e·S_1/x_pr)·(1 + RRcL·k/36500)" below
unfoldable pub monitored : Statics → (p s1 k : ℕ) → (repo : ℤ) → (c : ℕ) → Side → Quotient
monitored st p s1 k repo c side =
    growing k repo (record { num = p * spread st side s1 c; den = one_in_bp * st.xpr })

-- "the upper is the lesser of that and ..; the lower the greater of that and .."
unfoldable pub narrower : Side → (x y : Quotient) → Quotient
narrower Upper x y = lesser_of x y
narrower Lower x y = greater_of x y

-- the same of two limits that are rounded already
abbrev pub narrower_of : Side → (x y : ℕ) → ℕ
narrower_of Upper x y = min x y
narrower_of Lower x y = max x y

-- a band limit of either kind, before it is rounded
abbrev pub band_before : Kind → Statics → (p s1 k : ℕ) → (repo : ℤ) → (c : ℕ) → Side → Quotient
band_before kind st p s1 k repo c side =
    let far : Quotient = farthest_for kind st side p k in
    pick st.monitoring (narrower side far (monitored st p s1 k repo c side)) far

-- (g) "once each", and W-209, inward
abbrev pub band_limit_for : Kind → Statics → (p s1 k : ℕ) → (repo : ℤ) → (c : ℕ) → Side → ℕ
band_limit_for kind st p s1 k repo c side = limit_for (inward side) kind st (band_before kind st p s1 k repo c side)

-- of a share
unfoldable pub band_limit : Statics → (p s1 k : ℕ) → (repo : ℤ) → (c : ℕ) → Side → ℕ
band_limit st p s1 k repo c side = band_limit_for share st p s1 k repo c side

-- a term's band, from its limits: "c the moves of that side since the evaluation"
abbrev pub band_by : (limit : (k : ℕ) → (repo : ℤ) → (c : ℕ) → Side → ℕ) → Moves → Term → Limits
band_by limit c x =
    record { lower = limit x.k x.low c.lower Lower; upper = limit x.k x.high c.upper Upper }

unfoldable pub band_of : Statics → (p s1 : ℕ) → Moves → Term → Limits
band_of st p s1 c x = band_by (band_limit st p s1) c x

-- 9: "a rounded lower band limit above its upper one"
unfoldable pub crossed : Limits → Bool
crossed x = ltb x.upper x.lower

-- ---- moves

-- "delta = 2·shift·S_1·P/x_pr"
unfoldable pub delta_of : Statics → (s1 p : ℕ) → ℕ
delta_of st s1 p = limit_of HalfUp st (record { num = 2 * st.shift * s1 * p; den = one_in_bp * st.xpr })

-- "It adds one to c"
unfoldable pub one_more : Side → Moves → Moves
one_more Upper c = record { lower = c.lower; upper = c.upper + 1 }
one_more Lower c = record { lower = c.lower + 1; upper = c.upper }

abbrev pub same_side : (x y : Side) → Bool
same_side Upper Upper = true
same_side Upper Lower = false
same_side Lower Upper = false
same_side Lower Lower = true

abbrev pub count_of : Side → Moves → ℕ
count_of Upper c = c.upper
count_of Lower c = c.lower

-- "shifts its three range limits by delta, lower ones stopping at 0 (18.4)"
unfoldable pub range_moved_by : Side → (delta : ℕ) → Limits → Limits
range_moved_by Upper delta x = record { lower = x.lower; upper = x.upper + delta }
range_moved_by Lower delta x = record { lower = x.lower - delta; upper = x.upper }

-- "remakes that side's three band limits": that side anew, the other as it stands
unfoldable pub band_moved : Side → (fresh x : Limits) → Limits
band_moved Upper fresh x = record { lower = x.lower; upper = fresh.upper }
band_moved Lower fresh x = record { lower = fresh.lower; upper = x.upper }
