-- `sum_said` meets its contract: the second field, as its bits are read back.
use mir.Syntax.{w64}
use mir.Facts.{to_z-of_z}
use Rattle.listen_lines.proofs.streams.sum_said.Goals as goal

pub returns : goal.returns
returns c =
    rw (to_z-of_z {w = w64} (record { sfits = c.sum_of-arg-1.given })) at c.sum_of.ensures
