-- `night_serve::reading::Securities::join_one` meets its contract: the id is there, or it is a new one.
use mathlib.Core.Path.{sym}
use native.Mathlib.Omega.{arith}
use Rattle.night_serve.proofs.Ids.{joins_there, joins_new}
use Rattle.night_serve.proofs.reading.Securities.join_one.Goals as goal

pub returns-then-is_some : goal.returns-then-is_some
returns-then-is_some c = joins_there _ _ _ _ c.find.ensures (sym c.if-is_some.ensures)

pub returns : goal.returns
returns c = joins_new _ _ _ _ c.find.ensures (sym c.if-is_some.ensures) (omega arith)
