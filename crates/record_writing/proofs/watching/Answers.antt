-- `record_writing::watching` meets its contract: four fields are those given, and all else is the record's.
use mathlib.Core.Path.{refl}
use Rattle.record_writing.proofs.watching.Goals as goal

pub returns : goal.returns
returns c = refl
