-- `figures_of` meets its contract: each figure is made of those before it, and none is higher than the next rule takes.
use Prim.Native.Nat.{◌≤◌}
use Rattle.paper.specs.Numbers.{repo_tentative_most}
use Rattle.paper_interest.specs.Interest.{maturity_figures}
use Rattle.interest_maturities.specs.Estimates.{upward_is, downward_is}
use Rattle.paper_interest.proofs.InterestRanges.{repo_tentative_held}
use Rattle.interest_maturities.proofs.repo.Key.figures.Goals as goal
use Rattle.interest_maturities.proofs.repo.Key.figures.Goals.{After-tentative_of-tentative}

tentative_held : (c : After-tentative_of-tentative) → c.tentative_of-tentative.result.bp ≤ repo_tentative_most
tentative_held c = let start = c.before.before.before in
    rw c.tentative_of-tentative.ensures (repo_tentative_held _ _ start.args.self.interest_range start.args.self.key_range)

pub upward-requires : goal.upward-requires
upward-requires c = tentative_held (goal.at.upward-requires c).After-tentative_of-tentative

pub downward-requires : goal.downward-requires
downward-requires c = tentative_held (goal.at.downward-requires c).After-tentative_of-tentative

pub returns : goal.returns
unfolding maturity_figures
returns c =
    rw (
      c.downward.ensures,
      c.upward.ensures,
      c.tentative_of-tentative.ensures,
      c.volatility_of-volatility.ensures,
      c.change_of-change.ensures,
      upward_is c.args.self.i c.args.self.k,
      downward_is c.args.self.i c.args.self.k,
    )
