-- `ends_at` meets its contract: no byte of a word stands where the text ends, or where a blank stands.
use mathlib.Core.Path.{sym, ◌∙◌}
use Rattle.text_word.proofs.Leading.{ends_blank, ends_text}
use Rattle.text_word.proofs.ends_at.Goals as goal

pub returns-then-at-l : goal.returns-then-at-l
returns-then-at-l c = λ e. ends_blank _ _ c.if-at-l.true (sym c.is_blank.ensures ∙ e)

pub returns : goal.returns
returns c = λ e. ends_text _ _ c.if-at-l.false
