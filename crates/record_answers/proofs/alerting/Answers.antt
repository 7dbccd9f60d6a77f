-- `record_answers::alerting` meets its contract: the two alerts, with the blank for its record.
use Rattle.paper_desk.specs.Desk.{alerting}
use Rattle.record_answers.proofs.alerting.Goals as goal

pub returns : goal.returns
unfolding alerting
returns c = rw c.blank.ensures
