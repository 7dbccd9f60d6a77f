-- `text_word::same_bytes` meets its contract: the library's test of two lists is the definition's of two words.
use mathlib.Core.Path.{◌∙◌}
use Rattle.text_word.proofs.Words.{same_is}
use Rattle.text_word.proofs.same_bytes.Goals as goal

pub returns : goal.returns
returns c = c.eq.ensures ∙ same_is _ _
