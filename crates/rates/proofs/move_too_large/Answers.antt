-- `move_too_large` meets its contract: the test of the code is the definition's.
use mathlib.Core.Path.{refl}
use Rattle.paper_desk.specs.Rates.{move_too_large}
use Rattle.rates.proofs.move_too_large.Goals as goal

pub returns : goal.returns
unfolding move_too_large
returns c = refl
