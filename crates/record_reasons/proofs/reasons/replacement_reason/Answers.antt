-- `reasons::replacement_reason` meets its contract, case by case.
use Rattle.paper_reasons.specs.Reasons.{replacement_was}
use Rattle.record_reasons.proofs.reasons.replacement_reason.Goals as goal

pub returns-then-won : goal.returns-then-won
unfolding replacement_was
returns-then-won c = rw c.if-won.true

pub returns : goal.returns
unfolding replacement_was
returns c = rw c.if-won.false
