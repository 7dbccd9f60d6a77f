-- `bond::limit::AtTerm::shifted_limit` meets its contract: the shares' P·(1 ± rate), grown with REPORate.
use Rattle.limits.specs.LimitLaws.{shifted_den_is_one}
use Rattle.bond.proofs.Sizes.{rate_kept_in_bits, shifted_grows, price_in_range}
use Rattle.bond.proofs.limit.AtTerm.shifted_limit.Goals as goal

pub shifted-requires : goal.shifted-requires
shifted-requires c = record { price = c.args.self.term_range.price; rate_high = c.requires }

pub limit_of-requires : goal.limit_of-requires
limit_of-requires c =
    let s = c.args.self in
    let repo = s.scale_range.repo in
    rw (c.shifted.ensures, rate_kept_in_bits s.b.repo repo)
    (shifted_grows c.args.side s.p c.args.rate s.x.k s.b.repo (price_in_range s.p s.s1 s.x s.term_range) c.requires repo)

pub returns : goal.returns
returns c =
    let s = c.args.self in
    rw (
      c.limit_of.ensures,
      c.inward.ensures,
      rate_kept_in_bits s.b.repo s.scale_range.repo,
      c.shifted.ensures,
      shifted_den_is_one c.args.side s.p.units c.args.rate.bp,
    )
