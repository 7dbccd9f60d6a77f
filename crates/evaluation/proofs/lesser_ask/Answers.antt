-- `evaluation::lesser_ask` meets its contract: one law for each ask that is missing.
use mathlib.Core.Path.{◌∙◌}
use Rattle.evaluation.proofs.Sides.{lesser_is_second, lesser_is_first, lesser_is_min}
use Rattle.evaluation.proofs.lesser_ask.Goals as goal

pub returns-then-a-eq0 : goal.returns-then-a-eq0
returns-then-a-eq0 c = lesser_is_second _ _ c.if-a-eq0.true

pub returns-then-b-eq0 : goal.returns-then-b-eq0
returns-then-b-eq0 c = lesser_is_first _ _ c.if-b-eq0.true

pub returns : goal.returns
returns c = c.min.ensures ∙ lesser_is_min _ _ c.if-a-eq0.false c.if-b-eq0.false
