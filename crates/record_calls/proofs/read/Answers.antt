-- `record_calls::read` meets its contract: a known record is stored as it was found; 1 is the only check of a read.
use mathlib.Core.Path.{◌∙◌}
use Rattle.paper.specs.Verdicts.{none}
use Rattle.paper_desk.specs.Desk.{reading}
use Rattle.record_answers.proofs.Judging.{known_accepted}
use Rattle.record_calls.proofs.read.Goals as goal

pub returns : goal.returns
returns c = c.written.ensures ∙ known_accepted _ reading c.requires none
