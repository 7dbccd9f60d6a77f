-- `record_monitoring::alerts_on` meets its contract: each side's alert is of its near second after the quote, by the
-- session's seconds.
use Rattle.paper_desk.specs.Desk.{alerting, alerts_on}
use Rattle.record_monitoring.proofs.alerts_on.Goals as goal

pub returns : goal.returns
unfolding alerts_on alerting
returns c =
    rw (c.alert-2.ensures, c.alert.ensures, c.alert_seconds-u.ensures, c.requires)
