-- `text_turn::after::is_due` meets its contract: whether the answers are written now.
use Rattle.text_turn.proofs.WaysOut.{not_due, always_due}
use Rattle.text_turn.proofs.after.is_due.Goals as goal

pub returns-then-i-eq0 : goal.returns-then-i-eq0
returns-then-i-eq0 c = λ e. always_due e

pub returns-then-i : goal.returns-then-i
returns-then-i c = λ e. not_due _ _ _ _ c.if-i-eq0.false c.if-i.true e

pub returns : goal.returns
returns c = λ e. always_due e
