-- `unsigned_at` meets its contract: it is `unsigned` of the number at i as its bits are read back.
use mir.Syntax.{w64}
use mir.Facts.{to_z-of_z}
use Rattle.exact.proofs.unsigned_at.Goals as goal

pub returns : goal.returns
returns c = rw (to_z-of_z {w = w64} (record { sfits = c.unsigned-arg-1.given })) at c.unsigned.ensures
