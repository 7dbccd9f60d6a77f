-- What each side takes: its farthest rate and limit, its repo rate, and before the first move its spread, its monitored
-- limit and, of both sides, the band.
use Rattle.std.specs.Prelude.{ℕ, ◌+◌, ◌-◌, ◌*◌, ℤ}
use Rattle.paper.specs.declared.Limits.{Limits}
use Rattle.paper.specs.declared.Statics.{Statics}
use Rattle.paper.specs.declared.Side.{Side}
use Rattle.paper.specs.declared.Side.TheVariants.{Upper, Lower}
use Rattle.paper.specs.declared.Term.{Term}
use Rattle.paper.specs.Numbers.{one_in_hundredths, year_in_day_bp}
use Rattle.paper.specs.Roundings.{rounded_to, grown}
use Rattle.paper_desk.specs.Limits.{limit_of, inward, farthest, narrower_of}

-- "P·(1 + PcH_max) and P·(1 - PcL_max)"
abbrev pub farthest_rate : Statics → Side → ℕ
farthest_rate st Upper = st.pchmax
farthest_rate st Lower = st.pclmax

-- the farthest limit, rounded inward, and both: no term changes them
abbrev pub farthest_limit : Statics → Side → (p : ℕ) → ℕ
farthest_limit st side p = limit_of (inward side) st (farthest st side p)

abbrev pub farthest_of : Statics → (p : ℕ) → Limits
farthest_of st p = record { lower = farthest_limit st Lower p; upper = farthest_limit st Upper p }

-- RRcH above, RRcL below
abbrev pub repo_of : Side → Term → ℤ
repo_of Upper x = x.high
repo_of Lower x = x.low

-- ---- before the first move

-- x_pr ± S_1 in basis points: "e = 1 + 2·c·shift" is 1 where c is 0
abbrev pub unmoved_spread : Statics → Side → (s1 : ℕ) → ℕ
unmoved_spread st Upper s1 = one_in_hundredths * st.xpr + s1
unmoved_spread st Lower s1 = one_in_hundredths * st.xpr - s1

-- what P·(x_pr ± S_1), grown over the days, is divided by: x_pr in basis points, times a year
abbrev pub unmoved_divisor : Statics → ℕ
unmoved_divisor st = one_in_hundredths * st.xpr * year_in_day_bp

-- "P·(1 + e·S_1/x_pr)·(1 + RRcH·k/36500)" above and the like below, rounded inward, from P·(x_pr ± S_1)
abbrev pub unmoved_limit : Side → (g divisor unmoved k : ℕ) → (repo : ℤ) → ℕ
unmoved_limit side g divisor unmoved k repo =
    rounded_to (inward side) g (unmoved * grown year_in_day_bp k repo) divisor

-- a term's band, from P·(x_pr - S_1), P·(x_pr + S_1) and the farthest limits
abbrev pub unmoved_band : (g divisor lower upper : ℕ) → (farthest : Limits) → Term → Limits
unmoved_band g divisor lower upper far x =
    record {
      lower = narrower_of Lower far.lower (unmoved_limit Lower g divisor lower x.k x.low);
      upper = narrower_of Upper far.upper (unmoved_limit Upper g divisor upper x.k x.high);
    }
