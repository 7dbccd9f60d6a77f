-- `record_evaluation::used_by` meets its contract: its test is the definition's.
use Rattle.paper_desk.specs.Evaluation.{used_pair}
use Rattle.paper_desk.specs.Desk.{used_by}
use Rattle.record_evaluation.proofs.used_by.Goals as goal

pub returns-then-r : goal.returns-then-r
unfolding used_by used_pair
returns-then-r c = rw c.if-r.true

pub returns : goal.returns
unfolding used_by used_pair
returns c = rw c.if-r.false
