-- Whatever is asked: where it is accepted, the record that it makes of a good record is good. An ask more has its clause
-- here.
use mathlib.Core.Path.{◌≡◌}
use mathlib.Core.Bool.{true}
use Rattle.paper.specs.declared.Record.{Record}
use Rattle.paper.specs.Verdicts.{NoneApplies}
use Rattle.paper_desk.specs.Kept.{good}
use Rattle.paper_desk.specs.Desk.{Ask, evaluating, quoting, moving, reading, opening, receiving, rule_of}
use Rattle.paper_kept.proofs.Good.{evaluated_good, quoted_good, moved_good, opened_good, received_good}

pub made_good : (x : Ask) (r : Record) → good r ≡ true → NoneApplies ((rule_of x).checks r)
    → good ((rule_of x).made r) ≡ true
made_good (evaluating d rows) r v n = evaluated_good r d rows v n
made_good (quoting q) r v n = quoted_good r q v n
made_good (moving side) r v n = moved_good r side v n
made_good reading r v n = v
made_good opening r v n = opened_good r v
made_good (receiving x) r v n = received_good r x v
