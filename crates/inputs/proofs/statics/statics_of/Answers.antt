-- `inputs::statics_of` meets its contract: the code's fields are the definition's.
use mathlib.Core.Path.{refl}
use Rattle.paper.specs.Ranges.{statics_of}
use Rattle.inputs.proofs.statics.statics_of.Goals as goal

pub returns : goal.returns
unfolding statics_of
returns c = refl
