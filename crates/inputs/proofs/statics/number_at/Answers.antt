-- `number_at` meets its contract: before the end of the numbers it is the number as `exact::unsigned` reads it, and
-- past the end the definition, too, has 0.
use Rattle.paper.specs.Ranges.{unsigned}
use mathlib.Core.Path.{sym, ap}
use lib.IntN.{pos}
use lib.ListN.{get_or-eq_default}
use mir.Facts.{to_z-of_z}
use mir.Syntax.{w64}
use Rattle.inputs.proofs.statics.number_at.Goals as goal

pub returns-then-place-numbers : goal.returns-then-place-numbers
returns-then-place-numbers c = rw (to_z-of_z {w = w64} (record { sfits = c.unsigned-arg-1.given })) at c.unsigned.ensures

pub returns : goal.returns
unfolding unsigned
returns c = sym (ap unsigned (get_or-eq_default c.args.numbers.now (pos 0) c.if-place-numbers.false))
