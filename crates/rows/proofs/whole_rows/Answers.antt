-- `rows::whole_rows` meets its contract: its two tests are the definition's.
use mathlib.Core.Path.{refl}
use Rattle.paper.specs.Ranges.{whole_rows}
use Rattle.rows.proofs.whole_rows.Goals as goal

pub returns : goal.returns
unfolding whole_rows
returns c = refl
