-- `record_soundness::valid_external` meets its contract: the code's tests are the definition's.
use mathlib.Core.Path.{refl}
use Rattle.paper.specs.Ranges.{valid_external}
use Rattle.record_soundness.proofs.valid_external.Goals as goal

pub returns : goal.returns
unfolding valid_external
returns c = refl
