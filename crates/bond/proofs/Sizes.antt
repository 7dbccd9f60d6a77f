-- How far a bond's limits reach before they are rounded and after: every product fits 64 bits, or the wide division.
use mathlib.Core.Path.{◌≡◌, refl}
use Prim.Native.Nat.{ℕ, ◌+◌, ◌*◌, ◌≤◌}
use native.Mathlib.Nat.{mul-le-mul}
use native.Mathlib.Omega.{arith}
use lib.IntN.{ℤ}
use lib.Signed.{mag}
use mir.Syntax.{w64}
use mir.Val.{to_z, of_z}
use mir.Facts.{to_z-of_z}
use Rattle.paper.specs.declared.Price.{Price}
use Rattle.paper.specs.declared.Rate.{Rate}
use Rattle.paper.specs.declared.Side.{Side}
use Rattle.paper.specs.declared.Side.TheVariants.{Upper, Lower}
use Rattle.paper.specs.declared.Statics.{Statics}
use Rattle.paper.specs.Numbers.{one_in_bp, year_in_day_bp, price_most, rate_most, divisor_least, term_days_most}
use Rattle.paper.specs.Numbers.{repo_most}
use Rattle.paper.specs.Roundings.{grown}
use Rattle.paper_desk.specs.Limits.{grown_price, growing, shifted, farthest, spread, LimitStatics}
use Rattle.paper.proofs.Roundings.{half_le}
use Rattle.exact.specs.SignedLaws.{growth_most, grown_near_base}
use Rattle.exact.specs.Wide.{Divides}
use Rattle.limits.specs.Sides.{farthest_rate}
use Rattle.limits.specs.LimitLaws.{shifted_high}
use Rattle.limits.specs.Sides.{repo_of}
use Rattle.limits.specs.LimitRanges.{term_repo_within_most, term_days_within_most}
use Rattle.paper.specs.declared.Term.{Term}
use Rattle.bond.specs.BondInputs.{GrowthRange, PriceRange, SideRange, TermRange, grown_most}

-- a repo rate is its own bits read back
pub rate_kept_in_bits : (x : ℤ) → mag x ≤ mag repo_most → to_z w64 (of_z w64 x) ≡ x
rate_kept_in_bits x h = to_z-of_z {w = w64} (record { sfits = omega arith })

-- ---- a term

module _ (p : Price) (s1 : Rate) (x : Term) (r : TermRange p s1 x) where
  pub price_in_range : PriceRange p x.k
  price_in_range = record { price = r.price; days = term_days_within_most x r.term }

module _ (side : Side) (p : Price) (s1 : Rate) (x : Term) (r : TermRange p s1 x) where
  pub side_in_range : SideRange p s1 x.k (repo_of side x)
  side_in_range =
      record {
        price = r.price;
        rate_high = r.rate_high;
        days = term_days_within_most x r.term;
        repo_high = term_repo_within_most side x r.term;
      }

  -- a side's repo rate is its own bits read back
  pub side_repo_kept : to_z w64 (of_z w64 (repo_of side x)) ≡ repo_of side x
  side_repo_kept = rate_kept_in_bits (repo_of side x) (term_repo_within_most side x r.term)

-- ---- the growth

-- a year with the days of a term: at most 3,950,000
pub year_high : (k : ℕ) (repo : ℤ) → k ≤ term_days_most → mag repo ≤ mag repo_most
    → grown year_in_day_bp k repo ≤ year_in_day_bp + growth_most
year_high k repo d r = (grown_near_base year_in_day_bp k repo d r).0

module _ (x den k : ℕ) (repo : ℤ) (g : GrowthRange x den k repo) where
  abbrev year : ℕ
  year = grown year_in_day_bp k repo

  product_high : x * year ≤ 3 * price_most * den * (year_in_day_bp + growth_most)
  product_high = mul-le-mul g.reach (year_high k repo g.days g.rate)

  -- the wide division takes it
  pub growth_divides : Divides x (grown year_in_day_bp k repo) (den * year_in_day_bp)
  growth_divides =
      record {
        positive = omega (arith, g.positive);
        divisor = omega (arith, g.divisor);
        factor = omega (arith, year_high k repo g.days g.rate);
        quotient = omega (arith, g.positive, product_high);
      }

  pub grown_high : grown_price (growing k repo (record { num = x; den = den })) ≤ grown_most
  grown_high =
      half_le (x * year) (den * year_in_day_bp) grown_most (omega (arith, g.positive)) (omega (arith, product_high))

-- ---- what grows

-- P·(1 ± rate)
pub shifted_grows : (side : Side) (p : Price) (rate : Rate) (k : ℕ) (repo : ℤ) → PriceRange p k → rate.bp ≤ rate_most
    → mag repo ≤ mag repo_most
    → GrowthRange (shifted side p.units rate.bp).num one_in_bp k repo
shifted_grows side p rate k repo r h m =
    record {
      positive = omega arith;
      divisor = omega arith;
      reach = omega (arith, shifted_high side p rate (record { price = r.price; rate_high = h }));
      days = r.days;
      rate = m;
    }

-- P·(1 ± S_1/x_pr): x_pr is at least a half and S_1 at most one, so at most three times P
spread_reach : (st : Statics) (side : Side) (s1 : ℕ) → divisor_least ≤ st.xpr → s1 ≤ rate_most
    → spread st side s1 0 ≤ 3 * (one_in_bp * st.xpr)
unfolding spread
spread_reach st Upper s1 h l = omega arith
spread_reach st Lower s1 h l = omega arith

pub spread_product_high : (st : Statics) (side : Side) (p s1 : ℕ) → divisor_least ≤ st.xpr → p ≤ price_most
    → s1 ≤ rate_most
    → p * spread st side s1 0 ≤ price_most * (3 * (one_in_bp * st.xpr))
spread_product_high st side p s1 h l m = mul-le-mul l (spread_reach st side s1 h m)

pub spread_grows : (st : Statics) (side : Side) (p : Price) (s1 : Rate) (k : ℕ) (repo : ℤ) → LimitStatics st
    → SideRange p s1 k repo
    → GrowthRange (p.units * spread st side s1.bp 0) (one_in_bp * st.xpr) k repo
spread_grows st side p s1 k repo s r =
    record {
      positive = omega (arith, s.divisor_low);
      divisor = omega (arith, s.divisor_high);
      reach = omega (arith, spread_product_high st side p.units s1.bp s.divisor_low r.price r.rate_high);
      days = r.days;
      rate = r.repo_high;
    }

-- the farthest quotient of a share, which a bond's grows from, is P·(1 ± the side's maximum)
pub farthest_is_shifted : (st : Statics) (side : Side) (p : ℕ) → farthest st side p
    ≡ shifted side p (farthest_rate st side)
unfolding farthest
farthest_is_shifted st Upper p = refl
farthest_is_shifted st Lower p = refl
