-- `exchange_text::row::fields` meets its contract: the fields that are left, behind the numbers stored, lead to the
-- same numbers and the same text behind them.
use Rattle.exchange_text.proofs.LineTurns.{Filling}
use Rattle.exchange_text.proofs.row.fields.Given as goal

abbrev pub invariant-loop-k : goal.invariant-loop-k
invariant-loop-k l = Filling l.text l.numbers l.k l.rest
