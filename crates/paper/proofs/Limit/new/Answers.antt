-- `Limit::new` meets its contract: the test of the code is the definition's.
use borrow.Author.Tests.{le-leb, lt-leb}
use Rattle.paper.specs.Ranges.{limit_made}
use Rattle.paper.proofs.Limit.new.Goals as goal

pub returns-then-units-le-MOST_UNITS : goal.returns-then-units-le-MOST_UNITS
unfolding limit_made
returns-then-units-le-MOST_UNITS c = rw (le-leb _ _ c.if-units-le-MOST_UNITS.true)

pub returns-else-units-le-MOST_UNITS : goal.returns-else-units-le-MOST_UNITS
unfolding limit_made
returns-else-units-le-MOST_UNITS c = rw (lt-leb _ _ c.if-units-le-MOST_UNITS.false)
