-- `text_call::kept::kept_after` meets its contract, on both sides of its test.
use mathlib.Core.Path.{sym, ◌∙◌}
use Rattle.text_protocol.specs.Kept.{kept_after}
use Rattle.text_call.proofs.kept.kept_after.Goals as goal

pub returns-then-is_done : goal.returns-then-is_done
unfolding kept_after
returns-then-is_done c = rw (sym c.is_done.ensures ∙ c.if-is_done.true)

pub returns : goal.returns
unfolding kept_after
returns c = rw (sym c.is_done.ensures ∙ c.if-is_done.false)
