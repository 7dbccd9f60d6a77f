-- `limits::farthest_limit` meets its contract: the price shifted by the side's own maximum, rounded inward.
use Rattle.limits.specs.LimitRanges.{valid_limit_statics}
use Rattle.limits.specs.LimitLaws.{farthest_high, farthest_is_shifted}
use Rattle.limits.proofs.farthest_limit.Goals as goal

pub shifted_limit-requires : goal.shifted_limit-requires
shifted_limit-requires c =
    let v = valid_limit_statics c.args.st c.requires.st_value in
    record {
      price = c.requires.units_le_price_most;
      rate_high = rw c.farthest_rate.ensures (farthest_high c.args.st c.args.side v);
    }

pub returns : goal.returns
returns c =
    let a = c.args in
    rw (
      c.shifted_limit.ensures,
      c.inward.ensures,
      c.farthest_rate.ensures,
      farthest_is_shifted a.st a.side a.p.units,
    )
