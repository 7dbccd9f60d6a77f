-- `night_serve::reading::find` meets its contract: it is looked for from the last place on, and then before it.
use native.Mathlib.Omega.{arith}
use Rattle.night_serve.proofs.Entering.{found_behind, found_before}
use Rattle.night_serve.proofs.reading.find.Goals as goal

pub returns-in-Some : goal.returns-in-Some
returns-in-Some c = found_behind _ _ _ (omega arith) _ c.in-Some.ensures

pub returns : goal.returns
returns c = found_before _ _ _ (omega arith) _ c.in_default.ensures c.place_of-2.ensures
