-- `volatility_of` meets its contract: it is the shares' rule, and the ranges are within the shares'.
use native.Mathlib.Omega.{arith}
use Rattle.paper_interest.specs.Interest.{repo_volatility}
use Rattle.paper_interest.proofs.InterestRanges.{change_held}
use Rattle.interest_maturities.proofs.repo.Key.volatility_of.Goals as goal

pub volatility_of-requires : goal.volatility_of-requires
volatility_of-requires c =
    let g = c.args.self.interest_range in
    let h = c.args.self.key_range in record {
      weighing = g.weighs;
      r_le_volatility_most = (
        omega (arith, change_held c.args.self.i c.args.self.k g h, c.requires),
        omega (arith, h.volatility),
      );
    }

pub returns : goal.returns
unfolding repo_volatility
returns c = rw (c.volatility_of.ensures, c.requires)
