-- `record_soundness::sound_figures` meets its contract: the step of valid statics is not 0.
use mathlib.Core.Path.{sym, ◌∙◌, ap}
use mathlib.Core.Bool.{not}
use Rattle.paper.proofs.Logic.{not_false, and_right}
use Rattle.inputs.proofs.Facts.{statics_step_positive}
use Rattle.record_soundness.proofs.sound_figures.Goals as goal

pub valid_figures-requires : goal.valid_figures-requires
valid_figures-requires c =
    statics_step_positive _ (sym c.valid_statics.ensures
    ∙ and_right c.valid_id.result _ (not_false _ (ap not c.if-not-valid_id-valid_statics.false)))
