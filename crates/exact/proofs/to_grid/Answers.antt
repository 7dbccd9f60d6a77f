-- `to_grid` meets its contract: it is the rule, half up.
use Rattle.paper.specs.Roundings.{to_grid}
use Rattle.exact.proofs.to_grid.Goals as goal

pub returns : goal.returns
unfolding to_grid
returns c = c.rounded_to.ensures
