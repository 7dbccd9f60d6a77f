-- `half_up_once` meets its contract: one quotient with half of the divisor added is half up.
use Rattle.exact.specs.Remainders.{one_quotient_is_half_up}
use Rattle.exact.proofs.half_up_once.Goals as goal

pub returns : goal.returns
returns c = one_quotient_is_half_up _ _ c.requires.0
