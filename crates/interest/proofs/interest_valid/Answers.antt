-- `interest::interest_valid` meets its contract: the code's tests are the definition's, in its order. The two rates are
-- the last fields, and are read back from their bits.
use Rattle.std.proofs.Common.{rules}
use Rattle.paper_interest.specs.Interest.{valid_interest}
use Rattle.interest.proofs.interest_valid.Goals as goal

pub returns : goal.returns
unfolding valid_interest
returns c = rw (c.is_within.ensures, c.is_within-2.ensures) (search rules)
