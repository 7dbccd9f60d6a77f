use mathlib.Core.Path.{sym, ◌∙◌}
use native.Mathlib.Omega.{arith}
use borrow.Author.Rules.{rules}
use Rattle.exchange_serve.proofs.Serving.{taking_none, taken_full, taken_ended, taking_more, more_came}
use Rattle.exchange_serve.proofs.take_in.Goals as goal

pub loop-len-init : goal.loop-len-init
loop-len-init c = rw c.unread-read.ensures (taking_none _)

pub returns-then-has_ended : goal.returns-then-has_ended
returns-then-has_ended c =
    taken_ended c.loop-len.invariant (search rules) c.fill-read.ensures
    (sym c.has_ended.ensures ∙ c.if-has_ended.true)

pub loop-len-preserved : goal.loop-len-preserved
loop-len-preserved c =
    rw c.came-len.ensures
    (taking_more c.loop-len.invariant (search rules) c.fill-read.ensures
    (sym c.has_ended.ensures ∙ c.if-has_ended.false))

pub overflow_add-len : goal.overflow_add-len
overflow_add-len c = let d = loop-len-preserved c in omega (arith, d.most)

pub loop-len-smaller : goal.loop-len-smaller
loop-len-smaller c =
    let some = more_came c.loop-len.invariant (search rules) c.fill-read.ensures (sym c.has_ended.ensures ∙ c.if-has_ended.false) in
    omega (arith, c.fill-read.ensures.long, c.came-len.ensures, some)

pub returns : goal.returns
returns c = taken_full c.loop-len.invariant (search rules)
