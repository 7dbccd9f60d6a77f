-- `Rate::new` meets its contract: the test of the code is the definition's.
use borrow.Author.Tests.{le-leb, lt-leb}
use Rattle.paper.specs.Ranges.{is_rate, rate_made}
use Rattle.paper.proofs.Rate.new.Goals as goal

pub returns-then-bp-le-MOST_BP : goal.returns-then-bp-le-MOST_BP
unfolding rate_made is_rate
returns-then-bp-le-MOST_BP c = rw (le-leb _ _ c.if-bp-le-MOST_BP.true)

pub returns-else-bp-le-MOST_BP : goal.returns-else-bp-le-MOST_BP
unfolding rate_made is_rate
returns-else-bp-le-MOST_BP c = rw (lt-leb _ _ c.if-bp-le-MOST_BP.false)
