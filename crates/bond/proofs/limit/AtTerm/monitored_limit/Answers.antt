-- `bond::limit::AtTerm::monitored_limit` meets its contract: the shares' spread without moves, grown with the term's own
-- rate.
use Rattle.std.proofs.Common.{arith}
use Rattle.paper_desk.specs.Limits.{monitored, LimitStatics}
use Rattle.paper_desk.proofs.LimitSizes.{valid_limit_statics}
use Rattle.bond.proofs.Sizes.{spread_product_high, spread_grows, side_in_range, side_repo_kept}
use Rattle.bond.proofs.limit.AtTerm.monitored_limit.Goals as goal
use Rattle.bond.proofs.limit.AtTerm.monitored_limit.Goals.{Start}

statics_in_range : (s : Start) → LimitStatics s.args.self.st
statics_in_range s = valid_limit_statics s.args.self.st s.args.self.st_value

pub overflow_mul-self : goal.overflow_mul-self
overflow_mul-self c =
    let s = c.args.self in
    let range = statics_in_range (goal.at.overflow_mul-self c).Start in
    rw c.spread.ensures
    (omega (
      arith,
      range,
      spread_product_high s.st c.args.side s.p.units s.s1.bp range.divisor_low s.term_range.price s.term_range.rate_high,
    ))

pub overflow_mul-self-2 : goal.overflow_mul-self-2
overflow_mul-self-2 c = omega (arith, statics_in_range (goal.at.overflow_mul-self-2 c).Start)

pub limit_of-requires : goal.limit_of-requires
limit_of-requires c =
    let s = c.args.self in
    rw (c.spread.ensures, c.repo.ensures, side_repo_kept c.args.side s.p s.s1 s.x s.term_range)
    (spread_grows s.st c.args.side s.p s.s1 s.x.k _ (statics_in_range (goal.at.limit_of-requires c).Start)
    (side_in_range c.args.side s.p s.s1 s.x s.term_range))

pub returns : goal.returns
unfolding monitored
returns c =
    let s = c.args.self in
    rw (
      c.limit_of.ensures,
      c.inward.ensures,
      c.repo.ensures,
      side_repo_kept c.args.side s.p s.s1 s.x s.term_range,
      c.spread.ensures,
    )
