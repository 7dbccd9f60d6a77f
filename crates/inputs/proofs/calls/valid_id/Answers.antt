-- `inputs::valid_id` meets its contract: the code's tests are the definition's.
use mathlib.Core.Path.{refl}
use Rattle.inputs.proofs.calls.valid_id.Goals as goal

pub returns : goal.returns
returns c = refl
