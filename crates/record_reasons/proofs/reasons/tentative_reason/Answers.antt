-- `reasons::tentative_reason` meets its contract: the tests of the code are the conditions, in their order.
use Prim.Native.Nat.{◌+◌}
use native.Mathlib.Omega.{arith}
use borrow.Author.Tests.{le-leb, lt-leb, lt-ltb}
use Rattle.paper_reasons.specs.Reasons.{tentative_did}
use Rattle.record_reasons.proofs.reasons.tentative_reason.Goals as goal

pub returns-then-old-h : goal.returns-then-old-h
unfolding tentative_did
returns-then-old-h c =
    rw (le-leb (c.args.old.bp + c.args.h) c.args.t (omega arith))

pub returns-then-t-h : goal.returns-then-t-h
unfolding tentative_did
returns-then-t-h c = rw (lt-leb _ _ c.if-old-h.false, c.if-t-h.true)

pub returns-then-t-h-2 : goal.returns-then-t-h-2
unfolding tentative_did
returns-then-t-h-2 c =
    rw (lt-leb _ _ c.if-old-h.false, c.if-t-h.false, le-leb _ _ c.if-t-h-2.true)

pub returns : goal.returns
unfolding tentative_did
returns c =
    rw (
      lt-leb _ _ c.if-old-h.false,
      c.if-t-h.false,
      lt-leb _ _ c.if-t-h-2.false,
      lt-ltb _ _ c.if-old-h.false,
      lt-ltb _ _ c.if-t-h-2.false,
    )
