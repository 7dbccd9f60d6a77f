-- `level::level_in_range` meets its contract: its tests are the definition's.
use Rattle.paper_desk.specs.Gateway.{level_in_range}
use Rattle.gateway.proofs.level.level_in_range.Goals as goal

pub returns : goal.returns
unfolding level_in_range
returns c = rw c.valid_tentative.ensures
