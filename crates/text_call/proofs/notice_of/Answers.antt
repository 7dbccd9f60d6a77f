-- `text_call::notice_of` meets its contract: by the side, a bid, an ask, or a move of no side.
use borrow.Author.Tests.{ne_eqb}
use Rattle.paper_desk.specs.Desk.{ask_of}
use Rattle.text_protocol.specs.Calls.{notice_call, call_asked}
use Rattle.text_call.proofs.notice_of.Goals as goal

pub returns-then-side-eq0 : goal.returns-then-side-eq0
unfolding notice_call call_asked ask_of
returns-then-side-eq0 c = λ rows. rw c.if-side-eq0.true

pub returns-then-side-eq1 : goal.returns-then-side-eq1
unfolding notice_call call_asked ask_of
returns-then-side-eq1 c = λ rows. rw c.if-side-eq1.true

pub returns : goal.returns
unfolding notice_call call_asked ask_of
returns c = λ rows. rw (ne_eqb _ 0 c.if-side-eq0.false, ne_eqb _ 1 c.if-side-eq1.false)
