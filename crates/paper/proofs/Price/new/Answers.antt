-- `Price::new` meets its contract: the test of the code is the definition's.
use Rattle.paper.specs.Ranges.{is_price, price_made}
use Rattle.paper.proofs.Price.new.Goals as goal

pub returns-then-units : goal.returns-then-units
unfolding price_made is_price
returns-then-units c = rw c.if-units.true

pub returns-else-units : goal.returns-else-units
unfolding price_made is_price
returns-else-units c = rw c.if-units.false
