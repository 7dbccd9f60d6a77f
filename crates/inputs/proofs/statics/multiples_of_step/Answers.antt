-- `inputs::multiples_of_step` meets its contract: the code's tests are the definition's, and the step is above 0.
use mathlib.Core.Path.{refl}
use Rattle.inputs.proofs.statics.multiples_of_step.Goals as goal

pub returns : goal.returns
returns c = refl
