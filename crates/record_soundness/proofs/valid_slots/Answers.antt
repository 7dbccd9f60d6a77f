-- `record_soundness::valid_slots` meets its contract: the code's tests are the definition's.
use mathlib.Core.Path.{refl}
use Rattle.paper.specs.Ranges.{valid_slots}
use Rattle.record_soundness.proofs.valid_slots.Goals as goal

pub returns : goal.returns
unfolding valid_slots
returns c = refl
