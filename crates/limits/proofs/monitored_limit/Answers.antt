-- `limits::monitored_limit` meets its contract: the three factors and the divisor of the definition, rounded once.
-- Their ranges are those of the wide product.
use mathlib.Core.Path.{◌≡◌}
use native.Mathlib.Omega.{arith}
use mir.Facts.{to_z-of_z}
use Rattle.paper.specs.Numbers.{year_in_day_bp}
use Rattle.paper.specs.Roundings.{grown}
use Rattle.paper_desk.specs.Limits.{limit_of, monitored}
use Rattle.exact.specs.SignedLaws.{grown_near_base}
use Rattle.limits.specs.LimitRanges.{LimitStatics, valid_limit_statics}
use Rattle.limits.specs.LimitLaws.{grid_in_range, spread_high}
use Rattle.limits.proofs.monitored_limit.Goals as goal
use Rattle.limits.proofs.monitored_limit.Goals.{After-grow-days, Start}

statics : (c : Start) → LimitStatics c.args.st
statics c = valid_limit_statics c.args.st c.requires.st_value

-- the days' factor
days : (c : After-grow-days)
    → c.grow-days.result ≡ grown year_in_day_bp c.before.before.before.args.k c.before.before.before.args.repo
days c = rw (to_z-of_z c.before.before.before.ranges.repo) at c.grow-days.ensures

pub overflow_mul-divisor : goal.overflow_mul-divisor
overflow_mul-divisor c = omega (arith, statics (goal.at.overflow_mul-divisor c).Start)

pub overflow_mul-divisor-2 : goal.overflow_mul-divisor-2
overflow_mul-divisor-2 c = omega (arith, statics (goal.at.overflow_mul-divisor-2 c).Start)

pub product_to_grid-requires : goal.product_to_grid-requires
product_to_grid-requires c =
    let a = c.args in
    let b = c.requires.band_inputs in
    let most = spread_high a.st a.side a.s1.bp a.c (statics (goal.at.product_to_grid-requires c).Start) b.rate_high b.moves_high in
    let year = (grown_near_base year_in_day_bp a.k a.repo b.days b.repo_high).0 in
    rw (c.grid_of-g.ensures, c.spread.ensures, days (goal.at.product_to_grid-requires c).After-grow-days)
    (omega (arith, grid_in_range a.st.lot, most, statics (goal.at.product_to_grid-requires c).Start, year))

pub returns : goal.returns
unfolding limit_of monitored
returns c =
    rw (
      c.product_to_grid.ensures,
      c.inward-way.ensures,
      c.grid_of-g.ensures,
      c.spread.ensures,
      days (goal.at.returns c).After-grow-days,
    )
