-- `inputs::valid_side` meets its contract: the code's test is the definition's.
use mathlib.Core.Path.{refl}
use Rattle.paper.specs.Ranges.{valid_side}
use Rattle.inputs.proofs.calls.valid_side.Goals as goal

pub returns : goal.returns
unfolding valid_side
returns c = refl
