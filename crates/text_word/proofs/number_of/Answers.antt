-- `text_word::number_of` meets its contract: the number that a word spells.
use Rattle.text_word.proofs.WordLoops.{capped, signed_none, signed_bare, signed_minus, signed_plus}
use Rattle.text_word.proofs.number_of.Goals as goal

pub returns-then-p-eq0 : goal.returns-then-p-eq0
returns-then-p-eq0 c = signed_none _ c.if-p-eq0.true

pub returns-then-p-eq1 : goal.returns-then-p-eq1
returns-then-p-eq1 c = signed_bare _ c.if-p-eq45.true c.if-p-eq1.true

pub below-requires : goal.below-requires
below-requires c = capped _ _ _ c.number_from.ensures

pub returns-then-p-eq45 : goal.returns-then-p-eq45
returns-then-p-eq45 c =
    signed_minus _ _ _ c.if-p-eq45.true c.if-p-eq0.false c.if-p-eq1.false c.number_from.ensures
    c.below.ensures

pub above-requires : goal.above-requires
above-requires c = capped _ _ _ c.number_from-2.ensures

pub returns : goal.returns
returns c =
    signed_plus _ _ _ c.if-p-eq45.false c.if-p-eq0.false c.number_from-2.ensures c.above.ensures
