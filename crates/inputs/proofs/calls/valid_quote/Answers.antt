-- `inputs::valid_quote` meets its contract: the code's tests are the definition's, in its order.
use mathlib.Core.Path.{refl}
use Rattle.paper.specs.Ranges.{valid_quote}
use Rattle.inputs.proofs.calls.valid_quote.Goals as goal

pub returns : goal.returns
unfolding valid_quote
returns c = refl
