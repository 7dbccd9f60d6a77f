use native.Mathlib.Omega.{arith}
use Rattle.exchange_text.proofs.CellTurns.{counting_none, counting_all, counting_stops, counting_over, counting_more}
use Rattle.exchange_text.proofs.cell.digits.Goals as goal

pub loop-left-init : goal.loop-left-init
loop-left-init c = counting_none _ _ _ c.requires

pub returns-in_default-clause-reads : goal.returns-in_default-clause-reads
returns-in_default-clause-reads c = counting_stops _ _ _ _ _ _ c.loop-left.invariant c.in_default.ensures

pub returns-in_default-clause-small : goal.returns-in_default-clause-small
returns-in_default-clause-small c = c.loop-left.invariant.small

pub returns-then-n-gt-NUMBER_MOST-clause-reads : goal.returns-then-n-gt-NUMBER_MOST-clause-reads
returns-then-n-gt-NUMBER_MOST-clause-reads c =
    counting_over _ _ _ _ _ _ c.loop-left.invariant (omega arith) _ _ c.in-Some.ensures c.if-n-gt-NUMBER_MOST.true

pub loop-left-preserved : goal.loop-left-preserved
loop-left-preserved c =
    counting_more _ _ _ _ _ _ c.loop-left.invariant (omega arith) _ _ c.in-Some.ensures c.if-n-gt-NUMBER_MOST.false

pub returns-clause-reads : goal.returns-clause-reads
returns-clause-reads c = counting_all _ _ _ _ _ _ c.loop-left.invariant (omega arith)
