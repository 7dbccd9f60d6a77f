-- `reasons::weight_reason` meets its contract: the tests of the code are the conditions, in their order.
use borrow.Author.Tests.{lt-ltb, le-ltb, le-leb}
use Rattle.paper_reasons.specs.Reasons.{weight_given}
use Rattle.record_reasons.proofs.reasons.weight_reason.Goals as goal

pub returns-then-b-gt1 : goal.returns-then-b-gt1
unfolding weight_given
returns-then-b-gt1 c = rw (lt-ltb _ _ c.if-b-gt1.true)

pub returns-then-s-r : goal.returns-then-s-r
unfolding weight_given
returns-then-s-r c = rw (le-ltb _ _ c.if-b-gt1.false, lt-ltb _ _ c.if-s-r.true)

pub returns : goal.returns
unfolding weight_given
returns c = rw (le-ltb _ _ c.if-b-gt1.false, le-ltb _ _ c.if-s-r.false, le-leb _ _ c.if-s-r.false)
