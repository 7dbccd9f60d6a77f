-- `record_answers::answered` meets its contract: each arm makes the answer of the reply that it matched.
use Rattle.record_answers.specs.Effects.{answer_by}
use Rattle.record_answers.proofs.answered.Goals as goal

pub returns-in-Number : goal.returns-in-Number
unfolding answer_by
returns-in-Number c = rw (c.saying.ensures, c.in-Number.is)

pub returns-in-TheRecord : goal.returns-in-TheRecord
unfolding answer_by
returns-in-TheRecord c = rw (c.showing.ensures, c.in-TheRecord.is)

pub returns-in-Alerts : goal.returns-in-Alerts
unfolding answer_by
returns-in-Alerts c = rw (c.alerting.ensures, c.in-Alerts.is)
