-- `reasons::reasons_of` meets its contract: with isEWMA yes the reasons are those of the model; with isEWMA no the
-- minimum set each level.
use mathlib.Core.Path.{◌∙◌}
use Rattle.record_reasons.proofs.Reasoning.{unmodelled_is}
use Rattle.record_reasons.proofs.reasons.reasons_of.Goals as goal

pub returns-then-old : goal.returns-then-old
returns-then-old c = rw (c.modelled.ensures, c.price_reason-price.ensures)

pub returns : goal.returns
returns c =
    c.unmodelled.ensures ∙ rw c.price_reason-price.ensures (unmodelled_is _ _ _ _ c.if-old.false)
