-- What a bond that is not refused 6 gives to the rules: its ranges, and that S_1 is a rate.
use mathlib.Core.Path.{◌≡◌}
use mathlib.Core.Bool.{Bool, true, false}
use Prim.Native.Nat.{ℕ, ◌≤◌, ◌<◌}
use native.Mathlib.Omega.{arith}
use lib.Signed.{mag}
use borrow.Author.Tests.{leb-true}
use Rattle.paper.specs.declared.Figures.{Figures}
use Rattle.paper.specs.Lists.{pick}
use Rattle.paper.specs.Numbers.{rate_most, volatility_most, age_most, ahead_most, repo_most}
use Rattle.paper.specs.Ranges.{valid_statics, tentative_top, valid_tentative, valid_term, term_at, rate_at}
use Rattle.paper_desk.specs.Rates.{tentative_rate, rated_by, minimum_of, unmodelled, figures_by_volatility}
use Rattle.paper.proofs.Logic.{and_left, and_right, each_of_three}
use Rattle.paper_desk.proofs.Level.{level_rate_is}
use Rattle.exact.specs.SignedLaws.{repo_within_most}
use Rattle.rates_level.specs.RateStatics.{RateStatics}
use Rattle.rates_level.proofs.Statics.{valid_are_rate_statics, within_tentative_bound}
use Rattle.rates.specs.RateRanges.{VolatilityRanges}
use Rattle.paper_bonds.specs.declared.Bond.{Bond}
use Rattle.paper_bonds.specs.BondNumbers.{net_most, money_most}
use Rattle.paper_bonds.specs.Bonds.{bond_statics, terms_of, valid_numbers, valid_bond, bond_figures, first_rate}
use Rattle.paper_bonds.proofs.BondFigures.{bond_statics_valid}

-- ---- the ranges

pub record BondFacts (b : Bond) : Type 0 where
  pub ahead : b.m ≤ ahead_most
  pub net : b.net ≤ net_most
  pub face : b.face ≤ money_most
  pub accrued : b.accrued ≤ money_most
  pub volatility : b.s ≤ volatility_most
  pub tentative : b.tentative.bp ≤ tentative_top (bond_statics b).h
  pub age : b.tentative.age ≤ age_most
  pub repo : mag b.repo ≤ mag repo_most

numbers_valid : (b : Bond) → valid_bond b ≡ true → valid_numbers b ≡ true
unfolding valid_bond
numbers_valid b v = search (v, and_left, and_right) depth 20

pub bond_facts : (b : Bond) → valid_bond b ≡ true → BondFacts b
unfolding valid_bond valid_numbers valid_tentative
bond_facts b v =
    let n = numbers_valid b v in
    record {
      ahead = leb-true _ _ (search (n, and_left, and_right) depth 20);
      net = leb-true _ _ (search (n, and_left, and_right) depth 20);
      face = leb-true _ _ (search (n, and_left, and_right) depth 20);
      accrued = leb-true _ _ (search (n, and_left, and_right) depth 20);
      volatility = leb-true _ _ (search (n, and_left, and_right) depth 20);
      tentative = leb-true _ _ (search (n, and_left, and_right) depth 20);
      age = leb-true _ _ (search (n, and_left, and_right) depth 20);
      repo = repo_within_most b.repo (search (v, and_right));
    }

pub bond_terms_valid : (b : Bond) → valid_bond b ≡ true → (k : ℕ) → k < 3 → valid_term (term_at (terms_of b) k) ≡ true
unfolding valid_bond
bond_terms_valid b v k h =
    each_of_three (λ k. valid_term (term_at (terms_of b) k)) (search (v, and_left, and_right) depth 10) k h

-- ---- what the rates ask

pub volatility_ranges : (b : Bond) → valid_bond b ≡ true
    → VolatilityRanges (bond_statics b) b.m b.s b.tentative
volatility_ranges b v =
    let facts = bond_facts b v in
    let statics : RateStatics (bond_statics b) = valid_are_rate_statics (bond_statics b) (bond_statics_valid b v) in
    record {
      statics = statics;
      ahead = facts.ahead;
      volatility = facts.volatility;
      tentative = within_tentative_bound statics facts.tentative;
      age = facts.age;
    }

-- S_1 is a rate: it is held at S_max, or is the first minimum
pub first_rate_high : (b : Bond) → valid_bond b ≡ true → first_rate b ≤ rate_most
unfolding bond_figures figures_by_volatility unmodelled minimum_of
first_rate_high b v = go (bond_statics b).ewma
  where
    valid : valid_statics (bond_statics b) ≡ true
    valid = bond_statics_valid b v

    statics : RateStatics (bond_statics b)
    statics = valid_are_rate_statics (bond_statics b) valid

    by_model : Figures
    by_model = rated_by (bond_statics b) b.m (tentative_rate (bond_statics b) b.s) b.s b.tentative

    go : (t : Bool) → rate_at (pick t by_model (unmodelled (bond_statics b) b.s b.tentative)).rates 0 ≤ rate_most
    go true =
        omega (
          arith,
          (level_rate_is (bond_statics b) 1 b.m by_model.tentative.bp valid).held,
          statics.most_high,
        )
    go false = omega (arith, statics)
