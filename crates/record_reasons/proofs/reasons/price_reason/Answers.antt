-- `reasons::price_reason` meets its contract: the tests of the code are the conditions, in their order.
use Rattle.record_reasons.specs.Reasoned.{set_by, reason_from}
use Rattle.record_reasons.proofs.reasons.price_reason.Goals as goal

pub returns-then-f-p : goal.returns-then-f-p
unfolding reason_from set_by
returns-then-f-p c = rw (← c.between-p.ensures, c.if-f-p.true)

pub returns-then-f-p-2 : goal.returns-then-f-p-2
unfolding reason_from set_by
returns-then-f-p-2 c =
    rw (
      ← c.between-p.ensures,
      c.if-f-p.false,
      c.if-f-p-2.true,
    )

pub returns-then-f-p-3 : goal.returns-then-f-p-3
unfolding reason_from set_by
returns-then-f-p-3 c =
    rw (
      ← c.between-p.ensures,
      c.if-f-p.false,
      c.if-f-p-2.false,
      c.if-f-p-3.true,
    )

pub returns-then-f-p-4 : goal.returns-then-f-p-4
unfolding reason_from set_by
returns-then-f-p-4 c =
    rw (
      ← c.between-p.ensures,
      c.if-f-p.false,
      c.if-f-p-2.false,
      c.if-f-p-3.false,
      c.if-f-p-4.true,
    )

pub returns : goal.returns
unfolding reason_from set_by
returns c =
    rw (
      ← c.between-p.ensures,
      c.if-f-p.false,
      c.if-f-p-2.false,
      c.if-f-p-3.false,
      c.if-f-p-4.false,
    )
