-- `volatility::choose` meets its contract: the choice of the code is the definition's, between the same two numbers.
use mathlib.Core.Path.{◌≡◌}
use native.Mathlib.Omega.{arith}
use Rattle.paper_desk.specs.Rates.{weight_of, weighted}
use Rattle.paper_desk.proofs.Volatility.{weight_most_lem}
use Rattle.rates.proofs.Volatilities.{replaced, not_replaced}
use Rattle.rates.proofs.volatility.choose.Goals as goal
use Rattle.rates.proofs.volatility.choose.Goals.{After-weighted-x}

-- the x of the paper
mean : (c : After-weighted-x)
    → (let start = c.before.before in
    c.weighted-x.result
    ≡ weighted (weight_of start.args.m start.args.b start.args.r start.args.s) start.args.s
    start.args.r)
mean c = rw (c.weighted-x.ensures, c.before.weight_of.ensures)

pub weighted-x-requires : goal.weighted-x-requires
weighted-x-requires c =
    let high = weight_most_lem c.args.m c.args.b c.args.r c.args.s c.requires.weighing in
    omega (arith, c.weight_of.ensures, high)

pub returns-then-replaces : goal.returns-then-replaces
returns-then-replaces c =
    rw c.replacement.ensures
    (replaced c.args.m c.args.b c.args.last c.args.r c.args.s _
    (mean (goal.at.returns-then-replaces c).After-weighted-x) (rw (← c.replaces.ensures) c.if-replaces.true))

pub returns-else-replaces : goal.returns-else-replaces
returns-else-replaces c =
    not_replaced c.args.m c.args.b c.args.last c.args.r c.args.s _
    (mean (goal.at.returns-else-replaces c).After-weighted-x) (rw (← c.replaces.ensures) c.if-replaces.false)
