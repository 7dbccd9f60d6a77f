-- `limit::limit_in_range` meets its contract: its tests are those of the definition that a price and a rate in range
-- leave, and the grid is above 0.
use Rattle.limits.specs.LimitLaws.{grid_in_range}
use Rattle.gateway.specs.LimitCalls.{in_range_is}
use Rattle.gateway.proofs.limit.limit_in_range.Goals as goal

pub nonzero_rem-result : goal.nonzero_rem-result
nonzero_rem-result c = rw c.grid_of.ensures (grid_in_range _).0

pub returns : goal.returns
returns c rate e =
    rw (c.grid_of.ensures, c.own_in_range.ensures, c.valid_side.ensures)
    (in_range_is _ _ _ rate _ c.requires e)
