-- `downward` meets its contract: the estimate with that minimum.
use Rattle.interest_maturities.proofs.Bits.{rate_kept_in_bits}
use Rattle.interest_maturities.proofs.repo.Key.downward.Goals as goal

pub returns : goal.returns
returns c =
    let k = c.args.self.k in
    rw (c.estimate.ensures, c.security_minimum.ensures.0)
    (simp (rate_kept_in_bits k.index c.args.self.key_range.index, rate_kept_in_bits k.r c.args.self.key_range.r))
