use Rattle.text_word.proofs.Leading.{leads_none, leads_more}
use Rattle.text_word.proofs.digits_at.Goals as goal

pub loop-i-init : goal.loop-i-init
loop-i-init c = leads_none _ _ c.requires

pub returns-then-b-lt-DIGIT_ZERO : goal.returns-then-b-lt-DIGIT_ZERO
returns-then-b-lt-DIGIT_ZERO c = c.loop-i.invariant

pub returns-then-b-gt-DIGIT_NINE : goal.returns-then-b-gt-DIGIT_NINE
returns-then-b-gt-DIGIT_NINE c = c.loop-i.invariant

pub returns-then-x-gt-SIZE_BEFORE_ANY_DIGIT : goal.returns-then-x-gt-SIZE_BEFORE_ANY_DIGIT
returns-then-x-gt-SIZE_BEFORE_ANY_DIGIT c = c.loop-i.invariant

pub loop-i-preserved : goal.loop-i-preserved
loop-i-preserved c =
    leads_more _ _ _ _ c.loop-i.invariant c.loop-i-test.true _ c.from-b.ensures
    c.if-b-lt-DIGIT_ZERO.false c.if-b-gt-DIGIT_NINE.false c.if-x-gt-SIZE_BEFORE_ANY_DIGIT.false

pub returns : goal.returns
returns c = c.loop-i.invariant
