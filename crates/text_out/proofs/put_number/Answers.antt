use native.Mathlib.Omega.{arith}
use Rattle.text_out.proofs.DigitTurns.{spelling_none, spelling_more, spelling_wrote}
use Rattle.text_out.proofs.put_number.Goals as goal

pub loop-i-init : goal.loop-i-init
loop-i-init c = spelling_none _ _ _ _ (omega arith)

pub loop-i-preserved : goal.loop-i-preserved
loop-i-preserved c = spelling_more _ _ _ _ _ _ _ c.loop-i.invariant c.loop-i-test.true

pub returns : goal.returns
returns c = spelling_wrote _ _ _ _ _ _ _ c.loop-i.invariant c.loop-i-test.false c.places-k.ensures
