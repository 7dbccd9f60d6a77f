-- `sheet_answers::evaluated` meets its contract: an evaluation is asked of a slot that is known.
use Rattle.record_answers.proofs.Tests.{tested_true}
use mathlib.Core.Path.{ap}
use mathlib.Core.Bool.{not}
use Rattle.sheet_answers.proofs.evaluated.Goals as goal

pub evaluated-requires : goal.evaluated-requires
evaluated-requires c = tested_true _ c.is_known.ensures (ap not c.if-not-is_known.false)
