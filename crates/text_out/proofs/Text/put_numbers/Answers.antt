use native.Mathlib.Omega.{arith}
use Rattle.std.proofs.Common.{append-nil}
use Rattle.std.proofs.lemmas.Grind.{common_steps}
use Rattle.text_out.specs.Appends.{spaced_none, spaced_both}
use Rattle.text_out.proofs.Text.put_numbers.Goals as goal

pub loop-z-init : goal.loop-z-init
loop-z-init c = record { text = simp (spaced_none, append-nil); most = omega arith }

pub loop-z-preserved : goal.loop-z-preserved
loop-z-preserved c = grind (arith, common_steps, spaced_both)
