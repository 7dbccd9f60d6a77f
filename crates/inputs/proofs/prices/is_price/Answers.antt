-- `inputs::is_price` meets its contract: the code's tests are the definition's.
use mathlib.Core.Path.{refl}
use Rattle.paper.specs.Ranges.{is_price}
use Rattle.inputs.proofs.prices.is_price.Goals as goal

pub returns : goal.returns
unfolding is_price
returns c = refl
