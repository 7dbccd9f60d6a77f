-- `inputs::is_rate` meets its contract: the code's test is the definition's.
use mathlib.Core.Path.{refl}
use Rattle.paper.specs.Ranges.{is_rate}
use Rattle.inputs.proofs.prices.is_rate.Goals as goal

pub returns : goal.returns
unfolding is_rate
returns c = refl
