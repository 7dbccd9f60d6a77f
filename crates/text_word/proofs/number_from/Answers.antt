use native.Mathlib.Omega.{arith}
use Rattle.text_word.proofs.WordLoops.{counting_none, counting_low, counting_high, counting_over, counting_more}
use Rattle.text_word.proofs.WordLoops.{counting_all}
use Rattle.text_word.proofs.number_from.Goals as goal

pub loop-i-init : goal.loop-i-init
loop-i-init c = counting_none _ _ _ c.requires.0

pub returns-then-b-lt-DIGIT_ZERO : goal.returns-then-b-lt-DIGIT_ZERO
returns-then-b-lt-DIGIT_ZERO c = counting_low _ _ _ _ _ c.loop-i.invariant
    c.loop-i-test.true _ c.from-b.ensures c.if-b-lt-DIGIT_ZERO.true

pub returns-then-b-gt-DIGIT_NINE : goal.returns-then-b-gt-DIGIT_NINE
returns-then-b-gt-DIGIT_NINE c =
    counting_high _ _ _ _ _ c.loop-i.invariant c.loop-i-test.true _ c.from-b.ensures
    c.if-b-gt-DIGIT_NINE.true

pub returns-then-x-gt-SIZE_BEFORE_ONE_MORE_DIGIT : goal.returns-then-x-gt-SIZE_BEFORE_ONE_MORE_DIGIT
returns-then-x-gt-SIZE_BEFORE_ONE_MORE_DIGIT c =
    counting_over _ _ _ _ _ c.loop-i.invariant c.loop-i-test.true _ c.from-b.ensures
    c.if-b-lt-DIGIT_ZERO.false c.if-b-gt-DIGIT_NINE.false (omega arith)

pub returns-then-most-y : goal.returns-then-most-y
returns-then-most-y c =
    counting_over _ _ _ _ _ c.loop-i.invariant c.loop-i-test.true _ c.from-b.ensures
    c.if-b-lt-DIGIT_ZERO.false c.if-b-gt-DIGIT_NINE.false c.if-most-y.true

pub loop-i-preserved : goal.loop-i-preserved
loop-i-preserved c =
    counting_more _ _ _ _ _ c.loop-i.invariant c.loop-i-test.true _ c.from-b.ensures
    c.if-b-lt-DIGIT_ZERO.false c.if-b-gt-DIGIT_NINE.false c.if-most-y.false

pub returns : goal.returns
returns c = counting_all _ _ _ _ _ c.loop-i.invariant c.loop-i-test.false
