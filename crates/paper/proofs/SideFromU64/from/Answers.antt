-- The side of a number meets its law: each way rewrites with the test that led there.
use borrow.Author.Tests.{ne_eqb}
use Rattle.paper.specs.Ranges.{side_of}
use Rattle.paper.proofs.SideFromU64.from.Goals as goal

pub returns-then-number-eq0 : goal.returns-then-number-eq0
unfolding side_of
returns-then-number-eq0 c = rw c.if-number-eq0.true

pub returns-else-number-eq0 : goal.returns-else-number-eq0
unfolding side_of
returns-else-number-eq0 c = rw (ne_eqb _ _ c.if-number-eq0.false)
