-- `tentative::tentative_rate_by_move` meets its contract: r and a step's worth fit.
use native.Mathlib.Omega.{arith}
use Rattle.paper_desk.specs.Rates.{tentative_rate_by_move}
use Rattle.rates.proofs.tentative.tentative_rate_by_move.Goals as goal

pub least_step-requires : goal.least_step-requires
least_step-requires c = omega (arith, c.requires.rate_statics)

pub returns : goal.returns
unfolding tentative_rate_by_move
returns c = c.least_step.ensures
