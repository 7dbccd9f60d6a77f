-- `exchange_text::cell::decimals` meets its contract: the digits and the zeros behind them end where the reading ends,
-- and a byte more is passed.
use Rattle.exchange_text.proofs.CellTurns.{decimals_bad, decimals_none, decimals_is}
use Rattle.exchange_text.proofs.cell.decimals.Goals as goal

pub returns-in_err-number-clause-reads : goal.returns-in_err-number-clause-reads
returns-in_err-number-clause-reads c =
    rw c.from_residual.ensures
    (decimals_bad c.args.text.now c.args.column c.args.whole c.in_err-number.ensures.reads)

pub returns-then-text-behind-clause-reads : goal.returns-then-text-behind-clause-reads
returns-then-text-behind-clause-reads c =
    decimals_none _ _ _ _ _ _ c.in_ok-number.ensures.reads c.behind_zeros-behind.ensures c.if-text-behind.true

pub returns-clause-reads : goal.returns-clause-reads
returns-clause-reads c =
    decimals_is _ _ _ _ _ _ c.in_ok-number.ensures.reads c.behind_zeros-behind.ensures c.if-text-behind.false _
    c.ten_to.ensures.is
