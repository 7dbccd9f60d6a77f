-- `fields::named_or` meets its contract: its branch is the definition's.
use Rattle.record_reasons.proofs.fields.named_or.Goals as goal

pub returns-then-fault : goal.returns-then-fault
returns-then-fault c = rw c.if-fault.true

pub returns : goal.returns
returns c = rw c.if-fault.false
