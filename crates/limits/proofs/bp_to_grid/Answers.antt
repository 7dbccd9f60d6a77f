-- `limits::bp_to_grid` meets its contract: each arm rounds to the grid that the definition gives to the lot.
use borrow.Author.Tests.{le-leb, lt-leb}
use Rattle.paper.specs.Ranges.{grid_of}
use Rattle.limits.proofs.bp_to_grid.Goals as goal

pub returns-then-lot-le1 : goal.returns-then-lot-le1
unfolding grid_of
returns-then-lot-le1 c = rw (c.rounded_to.ensures, le-leb _ _ c.if-lot-le1.true)

pub returns-then-lot-le-LOT_TO_TEN : goal.returns-then-lot-le-LOT_TO_TEN
unfolding grid_of
returns-then-lot-le-LOT_TO_TEN c = rw (
  c.rounded_to-then-lot-le-LOT_TO_TEN.ensures,
  lt-leb _ _ c.if-lot-le1.false,
  le-leb _ _ c.if-lot-le-LOT_TO_TEN.true,
)

pub returns : goal.returns
unfolding grid_of
returns c = rw (
  c.rounded_to-2.ensures,
  lt-leb _ _ c.if-lot-le1.false,
  lt-leb _ _ c.if-lot-le-LOT_TO_TEN.false,
)
