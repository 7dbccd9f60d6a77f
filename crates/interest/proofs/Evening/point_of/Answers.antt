-- `interest::Evening::point_of` meets its contract: the figures of the key maturity, and its rate lifted.
use Rattle.paper_interest.specs.Interest.{maturity_figures, KeyRange}
use Rattle.interest_maturities.proofs.Bits.{rate_kept_in_bits}
use Rattle.interest_maturities.specs.KeyLaws.{key_in_range}
use Rattle.interest.proofs.Evening.point_of.Goals as goal
use Rattle.interest.proofs.Evening.point_of.Goals.{Start}

in_range : (c : Start) → KeyRange c.args.k
in_range c = key_in_range _ _ c.args.self.now.numbers_value c.requires

pub figures_of-figures-requires-clause-key_range : goal.figures_of-figures-requires-clause-key_range
figures_of-figures-requires-clause-key_range c = in_range (goal.at.figures_of-figures-requires-clause-key_range c).Start

pub lifted-requires : goal.lifted-requires
lifted-requires c = let r = (in_range (goal.at.lifted-requires c).Start).r in rw (rate_kept_in_bits _ r) r

pub returns : goal.returns
unfolding maturity_figures
returns c =
    rw (
      c.lifted.ensures,
      c.figures_of-figures.ensures,
      rate_kept_in_bits c.args.k.r (in_range (goal.at.returns c).Start).r,
    )
