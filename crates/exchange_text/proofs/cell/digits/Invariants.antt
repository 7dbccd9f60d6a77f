-- `exchange_text::cell::digits` meets its contract: what is left to read, behind the digits of n, leads to the same
-- number and the same text behind it.
use Rattle.exchange_text.proofs.CellTurns.{Counting}
use Rattle.exchange_text.proofs.cell.digits.Given as goal

abbrev pub invariant-loop-left : goal.invariant-loop-left
invariant-loop-left l = Counting l.text l.most l.whole l.left l.n l.rest

abbrev pub decreases-loop-left : goal.decreases-loop-left
decreases-loop-left l = l.left
