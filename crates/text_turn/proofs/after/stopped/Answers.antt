-- `text_turn::after::stopped` meets its contract: where a write failed, no line more is heard.
use Rattle.text_turn.proofs.after.stopped.Goals as goal

pub returns-then-ok : goal.returns-then-ok
returns-then-ok c = rw c.if-ok.true

pub returns : goal.returns
returns c = rw c.if-ok.false
