-- `interest::Evening::point_at` meets its contract: every figure is read off one key maturity, or between two.
use Rattle.interest_maturities.specs.KeyLaws.{valid_whole, whole_in_eights, whole_has_one, key_in_range}
use Rattle.interest.proofs.Terms.{point_in_range, point_here, point_between_lem}
use Rattle.interest.proofs.Evening.point_at.Goals as goal

pub neighbours-requires : goal.neighbours-requires
neighbours-requires c =
    let whole = valid_whole _ c.args.self.now.numbers_value in (whole_in_eights _ whole, whole_has_one _ whole)

pub returns-in-One : goal.returns-in-One
returns-in-One c =
    let evening = c.args.self.now in
    let reads = c.in-One.ensures in
    rw c.point_of.ensures
    (point_here _ _ _ evening.pair_range.given _ (key_in_range _ _ evening.numbers_value reads.among) reads)

pub between-requires-clause-point_range : goal.between-requires-clause-point_range
between-requires-clause-point_range c =
    let evening = c.args.self.now in
    rw c.point_of-in-Two.ensures
    (point_in_range _ _ evening.pair_range.given (key_in_range _ _ evening.numbers_value c.in-Two.ensures.among.0))

pub between-requires-clause-point_range_2 : goal.between-requires-clause-point_range_2
between-requires-clause-point_range_2 c =
    let evening = c.args.self.now in
    rw c.point_of-in-Two-2.ensures
    (point_in_range _ _ evening.pair_range.given (key_in_range _ _ evening.numbers_value c.in-Two.ensures.among.1))

pub returns-in-Two : goal.returns-in-Two
returns-in-Two c =
    let evening = c.args.self.now in
    let reads = c.in-Two.ensures in
    rw (c.between.ensures, c.point_of-in-Two.ensures, c.point_of-in-Two-2.ensures)
    (point_between_lem _ _ _ evening.pair_range.given _ _ (key_in_range _ _ evening.numbers_value reads.among.0)
    (key_in_range _ _ evening.numbers_value reads.among.1) reads)
