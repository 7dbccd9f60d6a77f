use native.Mathlib.Omega.{arith}
use Rattle.messages.proofs.ByteTurns.{putting_none, putting_more, putting_all}
use Rattle.messages.proofs.widths.put_number.Goals as goal

pub loop-i-init : goal.loop-i-init
loop-i-init c = putting_none _ _ _ _

pub loop-i-preserved : goal.loop-i-preserved
loop-i-preserved c = putting_more _ _ _ _ _ _ _ c.loop-i.invariant (omega arith)

pub returns : goal.returns
returns c = putting_all _ _ _ _ _ _ _ c.loop-i.invariant (omega arith)
