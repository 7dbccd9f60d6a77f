-- `covers` meets its contract: a rate meets the requirement where, times rh_1, it reaches the two roots.
use Prim.Native.Nat.{◌*◌, ◌≤◌}
use native.Mathlib.Nat.{mul-le-mul}
use native.Mathlib.Omega.{arith}
use Rattle.rates_level.specs.Level.{Sought, reach_most}
use Rattle.rates_level.proofs.Reach.{level_is_sought, reaches_is_covers}
use Rattle.rates_level.proofs.covers.Goals as goal
use Rattle.rates_level.proofs.covers.Goals.{After-squares_of-squares}

-- the level's numbers are those of a search, so that they fit
sought : (c : After-squares_of-squares)
    → let a = c.before.before.args in
    Sought a.st.h a.st.rh1 a.st.smax c.before.level_of-own.result c.squares_of-squares.result
sought c =
    let s = c.before.before in
    rw (c.before.level_of-own.ensures, c.squares_of-squares.ensures)
    (level_is_sought s.args.st s.args.m s.args.tentative s.requires.rate_statics s.requires.m_le_ahead_most.0 s.requires.m_le_ahead_most.1
    s.args.level)

reach_high : (c : After-squares_of-squares) → let a = c.before.before.args in a.v.bp * a.st.rh1 ≤ reach_most
reach_high c = let s = c.before.before in mul-le-mul s.requires.m_le_ahead_most.2 s.requires.rate_statics.first_high

pub overflow_mul-v : goal.overflow_mul-v
overflow_mul-v c = omega (arith, reach_high (goal.at.overflow_mul-v c).After-squares_of-squares)

pub overflow_mul-own : goal.overflow_mul-own
overflow_mul-own c = omega (arith, (sought (goal.at.overflow_mul-own c).After-squares_of-squares).tentative_high)

pub overflow_mul-own-2 : goal.overflow_mul-own-2
overflow_mul-own-2 c = omega (arith, (sought (goal.at.overflow_mul-own-2 c).After-squares_of-squares).liquidity_high)

pub reaches-requires : goal.reaches-requires
reaches-requires c =
    (reach_high (goal.at.reaches-requires c).After-squares_of-squares, (sought (goal.at.reaches-requires c).After-squares_of-squares).tentative_high, (sought (goal.at.reaches-requires c).After-squares_of-squares).liquidity_high)

pub returns : goal.returns
returns c =
    rw (c.reaches.ensures, c.squares_of-squares.ensures, c.level_of-own.ensures)
    (reaches_is_covers c.args.st c.args.level c.args.m c.args.tentative c.args.v.bp)
