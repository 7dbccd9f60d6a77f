-- `record_evaluation::unmade` meets its contract, field by field.
use mathlib.Core.Path.{refl}
use Rattle.paper_desk.specs.Desk.{blank}
use Rattle.record_evaluation.proofs.unmade.Goals as goal

pub returns : goal.returns
unfolding blank
returns c = refl
