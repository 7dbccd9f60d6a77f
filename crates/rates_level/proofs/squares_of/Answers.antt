-- `squares_of` meets its contract: each product is bounded by its factors' ranges.
use native.Mathlib.Omega.{arith}
use Rattle.rates_level.proofs.Reach.{SquareSizes, square_sizes}
use Rattle.rates_level.proofs.squares_of.Goals as goal
use Rattle.rates_level.proofs.squares_of.Goals.{Start}

sizes : (c : Start) → SquareSizes c.args.st.rh1 c.args.st.liq c.args.m c.args.tentative
sizes c = square_sizes c.args.st c.args.m c.args.tentative c.requires.rate_statics c.requires.m_le_ahead_most.0 c.requires.m_le_ahead_most.1

pub overflow_mul-result : goal.overflow_mul-result
overflow_mul-result c = omega (arith, sizes (goal.at.overflow_mul-result c).Start)

pub overflow_mul-result-2 : goal.overflow_mul-result-2
overflow_mul-result-2 c = omega (arith, sizes (goal.at.overflow_mul-result-2 c).Start)

pub overflow_mul-result-3 : goal.overflow_mul-result-3
overflow_mul-result-3 c = omega (arith, sizes (goal.at.overflow_mul-result-3 c).Start)

pub overflow_mul-result-4 : goal.overflow_mul-result-4
overflow_mul-result-4 c = omega (arith, sizes (goal.at.overflow_mul-result-4 c).Start)
