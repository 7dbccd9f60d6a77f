-- `interest_maturities::maturity_of` meets its contract: each number stands at its place of the key maturity, and is read
-- back from its bits.
use Rattle.std.proofs.Common.{rules}
use Rattle.paper_interest.specs.Interest.{maturity_of, key_at}
use Rattle.interest_maturities.proofs.maturity_of.Goals as goal

pub returns : goal.returns
unfolding maturity_of key_at
returns c =
    rw (c.unsigned.ensures, c.unsigned-2.ensures, c.unsigned-3.ensures, c.unsigned-4.ensures) (search rules)
