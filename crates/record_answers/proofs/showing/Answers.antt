-- `record_answers::showing` meets its contract: the record stands in the answer as it is.
use mathlib.Core.Path.{refl}
use Rattle.paper_desk.specs.Desk.{showing}
use Rattle.record_answers.proofs.showing.Goals as goal

pub returns : goal.returns
unfolding showing
returns c = refl
