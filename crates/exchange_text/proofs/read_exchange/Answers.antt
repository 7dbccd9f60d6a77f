use mathlib.Core.Path.{sym, ◌∙◌}
use borrow.Author.Tests.{eqb-true}
use Rattle.exchange_protocol.specs.Exchange.{too_long}
use Rattle.exchange_text.proofs.TextTurns.{reads_none, reads_all, reads_bad, reads_other, reads_own}
use Rattle.exchange_text.proofs.TextTurns.{reads_seventeenth, further, some_left}
use Rattle.exchange_text.proofs.read_exchange.Goals as goal
use Rattle.exchange_text.proofs.read_exchange.Goals.{then-unsigned_at-id+else-count-ge-ROWS_MOST, else-unsigned_at-id}

pub returns-then-t-gt-TEXT_MOST : goal.returns-then-t-gt-TEXT_MOST
returns-then-t-gt-TEXT_MOST c = rw c.refused.ensures (too_long c.if-t-gt-TEXT_MOST.true)

pub loop-rest-init : goal.loop-rest-init
loop-rest-init c = reads_none _ _ c.if-t-gt-TEXT_MOST.false

pub returns-in_default : goal.returns-in_default
returns-in_default c =
    rw c.refused-in_default.ensures
    (reads_bad _ _ _ _ _ _ c.loop-rest.invariant (some_left _ c.loop-rest-test.ensures) c.in_default.ensures)

pub returns-then-count-ge-ROWS_MOST : goal.returns-then-count-ge-ROWS_MOST
returns-then-count-ge-ROWS_MOST c =
    rw c.refused-then-count-ge-ROWS_MOST.ensures
    (reads_seventeenth _ _ _ _ _ _ c.loop-rest.invariant _ _ c.in-Some.ensures
    (sym c.unsigned_at.ensures ∙ c.if-unsigned_at-id.true) c.if-count-ge-ROWS_MOST.true)

pub loop-rest-smaller : goal.loop-rest-smaller
loop-rest-smaller c = further _ _ _ _ _ _ c.loop-rest.invariant _ _ c.in-Some.ensures

pub loop-rest-preserved : goal.loop-rest-preserved
loop-rest-preserved c =
    elim c.if-unsigned_at-id.branch [
      | then-unsigned_at-id+else-count-ge-ROWS_MOST w ↦
          rw w.count-is
          (reads_own _ _ _ _ _ _ c.loop-rest.invariant _ _ c.in-Some.ensures
          (sym c.unsigned_at.ensures ∙ w.if-unsigned_at-id.true) w.if-count-ge-ROWS_MOST.false _
          (w.rows-is ∙ w.put_row.ensures))
      | else-unsigned_at-id w ↦
          rw (w.rows-is, w.count-is)
          (reads_other _ _ _ _ _ _ c.loop-rest.invariant _ _ c.in-Some.ensures
          (λ e. w.if-unsigned_at-id.false (c.unsigned_at.ensures ∙ e)))
    ]

pub returns : goal.returns
returns c = reads_all _ _ _ _ _ _ c.loop-rest.invariant (eqb-true _ 0 (sym c.loop-rest-test.ensures))
