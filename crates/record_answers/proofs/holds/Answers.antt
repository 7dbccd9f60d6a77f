-- `record_answers::holds` meets its contract: the place is compared with the number of slots, as the definition does.
use mathlib.Core.Path.{refl}
use Rattle.record_answers.specs.Effects.{holds}
use Rattle.record_answers.proofs.holds.Goals as goal

pub returns : goal.returns
unfolding holds
returns c = refl
