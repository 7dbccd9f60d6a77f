-- What a bond's limits are worked out in: the ranges that the rules ask for.
use Rattle.std.specs.Prelude.{◌≡◌, true, ℕ, ◌+◌, ◌-◌, ◌*◌, ◌≤◌, ◌<◌, ℤ}
use Rattle.std.specs.Int.Signed.{mag}
use Rattle.paper.specs.declared.BondScale.{BondScale}
use Rattle.paper.specs.declared.Price.{Price}
use Rattle.paper.specs.declared.Rate.{Rate}
use Rattle.paper.specs.declared.Term.{Term}
use Rattle.paper.specs.declared.Way.{Way}
use Rattle.paper.specs.Numbers.{one_in_bp, price_most, rate_most, divisor_most, term_days_most, repo_most}
use Rattle.paper.specs.Numbers.{one_in_per_cent_hundredths}
use Rattle.paper.specs.Roundings.{rounded}
use Rattle.paper.specs.Ranges.{valid_term}
use Rattle.paper_bonds.specs.BondNumbers.{money_most}
use Rattle.bond.specs.FlowLaws.{carry_most}

-- what is taken off a grown price, the face value that it is taken per cent of, and REPORate
pub record ScaleRange (b : BondScale) : Type 0 where
  pub carry : b.carry ≤ carry_most
  pub accrued : b.accrued ≤ money_most
  pub face : 0 < b.face
  pub repo : mag b.repo ≤ mag repo_most

-- a quotient that grows: at most three times the greatest price, as x_pr is at least a half and S_1 at most one
pub record GrowthRange (x den k : ℕ) (repo : ℤ) : Type 0 where
  pub positive : 0 < den
  pub divisor : den ≤ one_in_bp * divisor_most
  pub reach : x ≤ 3 * price_most * den
  pub days : k ≤ term_days_most
  pub rate : mag repo ≤ mag repo_most

-- the greatest grown price: a year with the days of a term is at most twice a year
abbrev pub grown_most : ℕ
grown_most = 6 * price_most

-- the limit that a grown price makes, without signs
abbrev pub per_cent_of : Way → BondScale → (grown : ℕ) → ℕ
per_cent_of way b grown = rounded way (one_in_per_cent_hundredths * (grown - (b.carry + b.accrued))) b.face

-- the evaluation P and the days k
pub record PriceRange (p : Price) (k : ℕ) : Type 0 where
  pub price : p.units ≤ price_most
  pub days : k ≤ term_days_most

-- of a side: P, S_1, the days k and that side's repo rate
pub record SideRange (p : Price) (s1 : Rate) (k : ℕ) (repo : ℤ) : Type 0 where
  pub price : p.units ≤ price_most
  pub rate_high : s1.bp ≤ rate_most
  pub days : k ≤ term_days_most
  pub repo_high : mag repo ≤ mag repo_most

-- of a term
pub record TermRange (p : Price) (s1 : Rate) (x : Term) : Type 0 where
  pub price : p.units ≤ price_most
  pub rate_high : s1.bp ≤ rate_most
  pub term : valid_term x ≡ true
