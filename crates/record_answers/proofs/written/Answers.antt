-- `record_answers::written` meets its contract: one record is stored and shown.
use mathlib.Core.Path.{refl}
use Rattle.record_answers.proofs.written.Goals as goal

pub returns : goal.returns
returns c = refl
