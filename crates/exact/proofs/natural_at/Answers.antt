-- `natural_at` meets its contract: a number that is not below zero fits as it is, and is itself as its bits are read
-- back.
use mathlib.Core.Path.{sym, ◌∙◌}
use lib.IntN.{ℤ, pos}
use lib.ListN.{get_or}
use mir.Syntax.{w64}
use mir.Val.{SFits}
use mir.Facts.{to_z-of_z}
use Rattle.exact.proofs.Sign.{Arm, not_below_zero_takes_its_arm, unsigned_above}
use Rattle.exact.proofs.natural_at.Goals as goal
use Rattle.exact.proofs.natural_at.Goals.{After-result-1}

-- the number at hand
abbrev given : After-result-1 → ℤ
given c = get_or c.before.args.numbers.now c.before.args.i (pos 0)

given_fits : (c : After-result-1) → SFits w64 (given c)
given_fits c = record { sfits = c.result-1.given }

as_it_is : (c : After-result-1) → Arm (given c) (given c)
as_it_is c = not_below_zero_takes_its_arm (given c) (given_fits c) c.before.requires.pos_value

pub overflow_cast-result : goal.overflow_cast-result
overflow_cast-result c = rw (to_z-of_z (given_fits (goal.at.overflow_cast-result c).After-result-1)) (as_it_is (goal.at.overflow_cast-result c).After-result-1).cast

pub returns : goal.returns
returns c = rw (to_z-of_z (given_fits (goal.at.returns c).After-result-1)) ((as_it_is (goal.at.returns c).After-result-1).is ∙ sym (unsigned_above (given (goal.at.returns c).After-result-1) c.requires.pos_value))
