-- `inputs::valid_flags` meets its contract: the code's tests are the definition's.
use mathlib.Core.Path.{refl}
use Rattle.inputs.proofs.statics.valid_flags.Goals as goal

pub returns : goal.returns
returns c = refl
