-- `tentative::tentative_after` meets its contract: the tests of the code are the definition's, in its order.
use Prim.Native.Nat.{◌+◌, ◌≤◌}
use native.Mathlib.Omega.{arith}
use borrow.Author.Tests.{leb-true, le-leb, lt-leb}
use Rattle.paper_desk.specs.Rates.{tentative_after}
use Rattle.paper.proofs.Logic.{and_left}
use Rattle.rates.proofs.tentative.tentative_after.Goals as goal

pub overflow_sub-fallen : goal.overflow_sub-fallen
overflow_sub-fallen c =
    let fall : c.args.t + c.args.h ≤ c.args.old.bp =
    leb-true _ _ (and_left _ _ c.if-t-h.true) in
    omega arith

pub returns-then-old-h : goal.returns-then-old-h
unfolding tentative_after
returns-then-old-h c =
    rw (le-leb (c.args.old.bp + c.args.h) c.args.t (omega arith))

pub returns-then-t-h : goal.returns-then-t-h
unfolding tentative_after
returns-then-t-h c = rw (lt-leb _ _ c.if-old-h.false, c.if-t-h.true)

pub returns-else-t-h : goal.returns-else-t-h
unfolding tentative_after
returns-else-t-h c =
    rw (lt-leb _ _ c.if-old-h.false, c.if-t-h.false, c.min.ensures)
