-- `record_calls::good::within_moves` meets its contract: one test at each of the three places. Fifty moves are few enough
-- that the sum fits.
use Rattle.paper_desk.specs.Kept.{within_moves}
use borrow.Author.Rules.{rules}
use Rattle.record_calls.proofs.good.within_moves.Goals as goal

pub returns : goal.returns
unfolding within_moves
returns c = search rules
