-- `text_call::float_at` meets its contract: the float of the number at a place.
use mathlib.Core.Path.{ap, ◌∙◌}
use mir.Facts.{to_z-of_z}
use mir.Syntax.{w64}
use Rattle.text_protocol.specs.Calls.{float_of}
use borrow.Author.Rules.{rules}
use Rattle.text_call.proofs.float_at.Goals as goal

pub returns : goal.returns
returns c = (rw (to_z-of_z {w = w64} {z = c.signed_at.result} (search rules)) at c.float_of.ensures) ∙ ap
    float_of c.signed_at.ensures
