-- `tentative_of` meets its contract: t is the paper's, and no higher than a tentative rate may be.
use mathlib.Core.Path.{◌≡◌}
use native.Mathlib.Omega.{arith}
use Rattle.paper_interest.specs.Interest.{repo_tentative_rate, repo_tentative}
use Rattle.paper_interest.proofs.InterestRanges.{volatility_held, tentative_rate_held}
use Rattle.interest_maturities.proofs.repo.Key.tentative_of.Goals as goal
use Rattle.interest_maturities.proofs.repo.Key.tentative_of.Goals.{After-tentative_rate-t}

-- the t of the paper
t_is : (c : After-tentative_rate-t)
    → c.tentative_rate-t.result ≡ repo_tentative_rate c.before.args.self.i c.before.args.self.k
unfolding repo_tentative_rate
t_is c = rw (c.tentative_rate-t.ensures, c.before.requires)

pub tentative_rate-t-requires : goal.tentative_rate-t-requires
tentative_rate-t-requires c = rw c.requires (volatility_held _ _ c.args.self.interest_range c.args.self.key_range)

pub tentative_after-requires : goal.tentative_after-requires
tentative_after-requires c =
    omega (
      arith,
      t_is (goal.at.tentative_after-requires c).After-tentative_rate-t,
      tentative_rate_held _ _ c.args.self.interest_range c.args.self.key_range,
      c.args.self.interest_range.step_high,
      c.args.self.key_range,
    )

pub returns : goal.returns
unfolding repo_tentative
returns c = rw (c.tentative_after.ensures, t_is (goal.at.returns c).After-tentative_rate-t)
