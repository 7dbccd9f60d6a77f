-- `evaluation::between` meets its contract: one law for each pair of sides.
use mathlib.Core.Path.{◌∙◌}
use Rattle.evaluation.proofs.Sides.{between_none_is_close, between_ask_alone_is_min, between_bid_alone_is_max}
use Rattle.evaluation.proofs.Sides.{between_both_is_median}
use Rattle.evaluation.proofs.between.Goals as goal

pub returns-then-ask-eq0 : goal.returns-then-ask-eq0
returns-then-ask-eq0 c = between_none_is_close _ _ _ c.if-bid-eq0.true c.if-ask-eq0.true

pub returns-else-ask-eq0 : goal.returns-else-ask-eq0
returns-else-ask-eq0 c = c.min.ensures ∙ between_ask_alone_is_min _ _ _ c.if-bid-eq0.true c.if-ask-eq0.false

pub returns-then-ask-eq0-2 : goal.returns-then-ask-eq0-2
returns-then-ask-eq0-2 c = c.max.ensures ∙ between_bid_alone_is_max _ _ _ c.if-bid-eq0.false
    c.if-ask-eq0-2.true

pub returns-else-ask-eq0-2 : goal.returns-else-ask-eq0-2
returns-else-ask-eq0-2 c = c.median.ensures ∙ between_both_is_median _ _ _ c.if-bid-eq0.false c.if-ask-eq0-2.false
