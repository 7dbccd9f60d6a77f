-- `volatility::weight_of` meets its contract: the tests of the code are the definition's.
use borrow.Author.Tests.{lt-ltb, le-ltb}
use Rattle.paper_desk.specs.Rates.{weight_of}
use Rattle.rates.proofs.volatility.weight_of.Goals as goal

pub returns-then-b-gt1 : goal.returns-then-b-gt1
unfolding weight_of
returns-then-b-gt1 c = rw (lt-ltb _ _ c.if-b-gt1.true)

pub returns-then-r-s : goal.returns-then-r-s
unfolding weight_of
returns-then-r-s c = rw (le-ltb _ _ c.if-b-gt1.false, lt-ltb _ _ c.if-r-s.true)

pub returns-else-r-s : goal.returns-else-r-s
unfolding weight_of
returns-else-r-s c = rw (le-ltb _ _ c.if-b-gt1.false, le-ltb _ _ c.if-r-s.false)
