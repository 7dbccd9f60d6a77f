-- `rows::are_crossed` meets its contract: its three tests are the definition's.
use mathlib.Core.Path.{refl}
use Rattle.rows.proofs.are_crossed.Goals as goal

pub returns : goal.returns
returns c = refl
