-- `inputs::grid_of` meets its contract: each way rewrites with the tests that led there.
use borrow.Author.Tests.{le-leb, lt-leb}
use Rattle.paper.specs.Ranges.{grid_of}
use Rattle.inputs.proofs.prices.grid_of.Goals as goal

pub returns-then-lot-le1 : goal.returns-then-lot-le1
unfolding grid_of
returns-then-lot-le1 c = rw (le-leb _ 1 c.if-lot-le1.true)

pub returns-then-lot-le-LOT_TO_TEN : goal.returns-then-lot-le-LOT_TO_TEN
unfolding grid_of
returns-then-lot-le-LOT_TO_TEN c = rw (lt-leb _ 1 c.if-lot-le1.false, le-leb _ 10 c.if-lot-le-LOT_TO_TEN.true)

pub returns : goal.returns
unfolding grid_of
returns c = rw (lt-leb _ 1 c.if-lot-le1.false, lt-leb _ 10 c.if-lot-le-LOT_TO_TEN.false)
