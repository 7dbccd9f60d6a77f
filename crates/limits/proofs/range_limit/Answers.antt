-- `limits::range_limit` meets its contract: it is the shifted limit, rounded half up.
use Rattle.paper_desk.specs.Limits.{range_limit}
use Rattle.limits.proofs.range_limit.Goals as goal

pub returns : goal.returns
unfolding range_limit
returns c = c.shifted_limit.ensures
