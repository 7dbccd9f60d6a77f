-- `night_serve::reading::Securities::enter` meets its contract: the row goes behind those of its security, or there is
-- no room.
use Rattle.night_serve.proofs.Entering.{enters_seventeenth, enters_there, enters_too_many, enters_new}
use Rattle.night_serve.proofs.reading.Securities.enter.Goals as goal

pub returns-then-rows-ge-ROWS_MOST : goal.returns-then-rows-ge-ROWS_MOST
returns-then-rows-ge-ROWS_MOST c =
    enters_seventeenth _ _ c.told-line _ c.unsigned_at-id.ensures _ c.in-Some.ensures c.if-rows-ge-ROWS_MOST.true

pub returns-in-Some : goal.returns-in-Some
returns-in-Some c =
    enters_there _ _ c.told-line _ c.unsigned_at-id.ensures _ c.in-Some.ensures c.if-rows-ge-ROWS_MOST.false _
    c.put_row.ensures

pub returns-then-count-ge-SECURITIES_MOST : goal.returns-then-count-ge-SECURITIES_MOST
returns-then-count-ge-SECURITIES_MOST c =
    enters_too_many _ _ c.told-line _ c.unsigned_at-id.ensures c.in_default.ensures
    c.if-count-ge-SECURITIES_MOST.true

pub returns : goal.returns
returns c =
    enters_new _ _ c.told-line _ c.unsigned_at-id.ensures c.in_default.ensures c.if-count-ge-SECURITIES_MOST.false _
    c.put_row-2.ensures
