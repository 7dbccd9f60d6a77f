-- `limits::farthest_rate` meets its contract, by the cases of the definition; both maxima are rates.
use Rattle.limits.specs.LimitRanges.{valid_limit_statics}
use Rattle.limits.proofs.farthest_rate.Goals as goal

pub of-requires : goal.of-requires
of-requires c = (valid_limit_statics _ c.requires).upper_high

pub of-requires-in-Lower : goal.of-requires-in-Lower
of-requires-in-Lower c = (valid_limit_statics _ c.requires).lower_high

pub returns-in-Upper : goal.returns-in-Upper
returns-in-Upper c = rw (c.in-Upper.is, c.of.ensures)

pub returns-in-Lower : goal.returns-in-Lower
returns-in-Lower c = rw (c.in-Lower.is, c.of-in-Lower.ensures)
