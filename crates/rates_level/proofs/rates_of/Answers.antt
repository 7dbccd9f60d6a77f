-- `rates_of` meets its contract, level by level, each from the one guess and the same squares.
use mathlib.Core.Path.{◌≡◌}
use Prim.Native.Nat.{ℕ}
use Rattle.paper_desk.specs.Rates.{level_rate}
use Rattle.rates_level.specs.Level.{level_of, least_rate, Sought}
use Rattle.rates_level.proofs.Reach.{level_is_sought, least_rate_is_level_rate}
use Rattle.rates_level.proofs.rates_of.Goals.{After-guess_of-guess}
use Rattle.rates_level.proofs.rates_of.Goals as goal

-- ---- what the levels share

sought : (c : After-guess_of-guess) (level : ℕ)
    → let st = c.before.before.args.st in
    Sought st.h st.rh1 st.smax (level_of st level) c.before.squares_of-squares.result
sought c level =
    let s = c.before.before in
    rw c.before.squares_of-squares.ensures
    (level_is_sought s.args.st s.args.m s.args.tentative s.requires.rate_statics s.requires.m_le_ahead_most.0 s.requires.m_le_ahead_most.1 level)

is_rate_lem : (c : After-guess_of-guess) (level : ℕ)
    → let a = c.before.before.args in
    let st = a.st in
    least_rate st.h st.rh1 st.smax (level_of st level) c.before.squares_of-squares.result
    ≡ level_rate st a.tentative a.m level
is_rate_lem c level =
    let s = c.before.before in
    rw c.before.squares_of-squares.ensures
    (least_rate_is_level_rate s.args.st level s.args.m s.args.tentative s.requires.rate_statics)

-- ---- the three levels

pub rate_near-requires-clause-sought : goal.rate_near-requires-clause-sought
rate_near-requires-clause-sought c =
    rw c.level_of.ensures (sought (goal.at.rate_near-requires-clause-sought c).After-guess_of-guess 1)

pub rate_near-requires-2-clause-sought : goal.rate_near-requires-2-clause-sought
rate_near-requires-2-clause-sought c =
    rw c.level_of-2.ensures (sought (goal.at.rate_near-requires-2-clause-sought c).After-guess_of-guess 2)

pub rate_near-requires-3-clause-sought : goal.rate_near-requires-3-clause-sought
rate_near-requires-3-clause-sought c =
    rw c.level_of-3.ensures (sought (goal.at.rate_near-requires-3-clause-sought c).After-guess_of-guess 3)

pub of-requires : goal.of-requires
of-requires c = c.rate_near.ensures.1

pub of-requires-2 : goal.of-requires-2
of-requires-2 c = c.rate_near-2.ensures.1

pub of-requires-3 : goal.of-requires-3
of-requires-3 c = c.rate_near-3.ensures.1

pub returns : goal.returns
returns c =
    rw (
      c.of-3.ensures,
      c.rate_near-3.ensures.0,
      c.level_of-3.ensures,
      is_rate_lem (goal.at.returns c).After-guess_of-guess 3,
      c.of-2.ensures,
      c.rate_near-2.ensures.0,
      c.level_of-2.ensures,
      is_rate_lem (goal.at.returns c).After-guess_of-guess 2,
      c.of.ensures,
      c.rate_near.ensures.0,
      c.level_of.ensures,
      is_rate_lem (goal.at.returns c).After-guess_of-guess 1,
    )
