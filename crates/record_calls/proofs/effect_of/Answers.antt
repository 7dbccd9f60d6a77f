-- `record_calls::effect_of` meets its contract: it claims to know nothing, so `effect_known` asks for nothing.
use mathlib.Core.Path.{refl}
use mathlib.Core.Bool.{false}
use Rattle.paper.proofs.Logic.{not_true_and_false}
use Rattle.record_calls.proofs.effect_of.Goals as goal

pub effect_known-requires : goal.effect_known-requires
effect_known-requires c = λ e. absurd (not_true_and_false false e refl)

pub returns : goal.returns
returns c = c.effect_known.ensures
