-- `is_in` meets its contract: it is `is_within`, of the two ends and the value as their bits are read back.
use mir.Facts.{to_z-of_z}
use mir.Syntax.{w64}
use Rattle.messages.proofs.kinds.is_in.Goals as goal

pub returns : goal.returns
returns c =
    let told = c.struct_told-1.given in
    rw (
      to_z-of_z {w = w64} {z = c.args.field.low} (record { sfits = told.1.0.1 }),
      to_z-of_z {w = w64} {z = c.args.field.high} (record { sfits = told.1.1.0.1 }),
      to_z-of_z c.ranges.value,
    ) at c.is_within.ensures
