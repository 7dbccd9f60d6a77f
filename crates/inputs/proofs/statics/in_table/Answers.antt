-- `inputs::in_table` meets its contract: the code's tests are those of specs/Table.antt.
use mathlib.Core.Path.{refl}
use Rattle.inputs.proofs.statics.in_table.Goals as goal

pub returns : goal.returns
returns c = refl
