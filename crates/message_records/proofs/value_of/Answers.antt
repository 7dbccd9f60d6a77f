-- `value_of` meets its contract: a number that fits stands for itself, and -1 for every other.
use mathlib.Core.Path.{◌∙◌}
use mir.Facts.{to_z-of_z}
use mir.Syntax.{w64}
use Rattle.message_records.proofs.Values.{fitting_is_value}
use Rattle.message_records.proofs.value_of.Goals as goal

pub returns : goal.returns
returns c =
    rw (to_z-of_z {w = w64} {z = c.unwrap_or.result} (record { sfits = c.unwrap_or.type_inv }))
    (c.unwrap_or.ensures ∙ fitting_is_value c.try_from.result c.args.n c.try_from.ensures)
