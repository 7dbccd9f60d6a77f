-- `bond::limit::grown_price` meets its contract: the wide division of the quotient with its growth.
use mathlib.Core.Path.{◌≡◌}
use mir.Facts.{to_z-of_z}
use Rattle.paper.specs.Numbers.{year_in_day_bp}
use Rattle.paper.specs.Roundings.{grown}
use Rattle.bond.proofs.Sizes.{growth_divides}
use Rattle.bond.proofs.limit.grown_price.Goals as goal
use Rattle.bond.proofs.limit.grown_price.Goals.{After-grow}

days_are : (c : After-grow) → c.grow.result ≡ grown year_in_day_bp c.before.args.k c.before.args.repo
days_are c = rw (to_z-of_z c.before.ranges.repo) at c.grow.ensures

pub half_up_wide-requires : goal.half_up_wide-requires
half_up_wide-requires c =
    rw (days_are (goal.at.half_up_wide-requires c).After-grow) (growth_divides c.args.x c.args.den c.args.k c.args.repo c.requires)

pub returns : goal.returns
returns c = rw (c.half_up_wide.ensures, days_are (goal.at.returns c).After-grow)
