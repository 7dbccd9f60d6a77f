-- `exchange_text::cell::number` meets its contract: other digits stand behind the first, and a point leads to the
-- decimals.
use Rattle.exchange_text.proofs.CellTurns.{number_bad, number_pointed, number_whole}
use Rattle.exchange_text.proofs.cell.number.Goals as goal

pub returns-in_err-whole-clause-reads : goal.returns-in_err-whole-clause-reads
returns-in_err-whole-clause-reads c =
    rw c.from_residual.ensures
    (number_bad c.args.text.now c.args.first c.requires.0 c.args.column c.in_err-whole.ensures.reads)

pub returns-in-Some-clause-reads : goal.returns-in-Some-clause-reads
returns-in-Some-clause-reads c =
    number_pointed _ _ c.requires.0 c.args.column _ _ c.in_ok-whole.ensures.reads c.in_ok-whole.ensures.few.0 _ _
    c.in-Some.ensures c.decimals.ensures.reads

pub returns-clause-reads : goal.returns-clause-reads
returns-clause-reads c =
    number_whole _ _ c.requires.0 c.args.column _ _ c.in_ok-whole.ensures.reads c.in_ok-whole.ensures.few.0
    c.in_default.ensures _ c.ten_to.ensures.is
