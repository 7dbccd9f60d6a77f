-- `sums::sum_on` meets its contract: the sum inverted is what is left, and what is left inverted the sum.
use mathlib.Core.Path.{ap}
use Rattle.sums.specs.Sums.{inverted, sum_on}
use Rattle.sums.proofs.sum_on.Goals as goal

pub returns : goal.returns
unfolding sum_on
returns c = ap inverted c.add_bytes.ensures
