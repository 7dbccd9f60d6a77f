-- `record_answers::saying` meets its contract: the verdict, with the blank for its record.
use Rattle.paper_desk.specs.Desk.{saying}
use Rattle.record_answers.proofs.saying.Goals as goal

pub returns : goal.returns
unfolding saying
returns c = rw c.blank.ensures
