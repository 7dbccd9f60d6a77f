-- `limits::shifted_limit` meets its contract: the quotient, rounded once to the grid of the lot, which is at most twice
-- the greatest price and so a limit.
use mathlib.Core.Path.{◌≡◌}
use native.Mathlib.Omega.{arith}
use Rattle.paper_desk.specs.Limits.{limit_of, shifted}
use Rattle.limits.specs.LimitLaws.{shifted_den_is_one, shifted_high}
use Rattle.limits.specs.LimitBounds.{shifted_limit_high}
use Rattle.limits.proofs.shifted_limit.Goals as goal
use Rattle.limits.proofs.shifted_limit.Goals.{After-bp_to_grid}

is_limit_lem : (c : After-bp_to_grid)
    → let a = c.before.before.args in
    c.bp_to_grid.result ≡ limit_of a.way a.st (shifted a.side a.p.units a.rate.bp)
unfolding limit_of
is_limit_lem c =
    let a = c.before.before.args in
    rw (
      c.bp_to_grid.ensures,
      c.before.shifted.ensures,
      shifted_den_is_one a.side a.p.units a.rate.bp,
    )

pub bp_to_grid-requires : goal.bp_to_grid-requires
bp_to_grid-requires c =
    rw c.shifted.ensures (shifted_high c.args.side c.args.p c.args.rate c.requires)

pub of-requires : goal.of-requires
of-requires c =
    let a = c.args in
    omega (arith, is_limit_lem (goal.at.of-requires c).After-bp_to_grid, shifted_limit_high a.way a.st a.side a.p a.rate c.requires)

pub returns : goal.returns
returns c = rw c.of.ensures (is_limit_lem (goal.at.returns c).After-bp_to_grid)
