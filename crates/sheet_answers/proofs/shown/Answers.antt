-- `sheet_answers::shown` meets its contract: a reading is asked of a slot that is known.
use Rattle.record_answers.proofs.Tests.{tested_true}
use mathlib.Core.Path.{ap}
use mathlib.Core.Bool.{not}
use Rattle.sheet_answers.proofs.shown.Goals as goal

pub read-requires : goal.read-requires
read-requires c = tested_true _ c.is_known.ensures (ap not c.if-not-is_known.false)
