-- `text_word::below` meets its contract: a size below zero.
use native.Mathlib.Nat.{pos_of_ne-zero}
use Rattle.text_word.proofs.WordLoops.{minus_zero, less_fits, turned_of, minus_is}
use Rattle.text_word.proofs.WordLoops.{bad_minus}
use Rattle.text_word.proofs.below.Goals as goal

pub returns-then-x-eq0 : goal.returns-then-x-eq0
returns-then-x-eq0 c = minus_zero _ _ c.in-Some.is c.if-x-eq0.true

pub overflow_cast-y : goal.overflow_cast-y
overflow_cast-y c = less_fits _ _ c.in-Some.is c.requires (pos_of_ne-zero
    c.if-x-eq0.false)

pub overflow_sub-result : goal.overflow_sub-result
overflow_sub-result c = turned_of _ _ c.in-Some.is c.requires (pos_of_ne-zero
    c.if-x-eq0.false)

pub returns-else-x-eq0 : goal.returns-else-x-eq0
returns-else-x-eq0 c = minus_is _ _ c.in-Some.is c.requires (pos_of_ne-zero
    c.if-x-eq0.false)

pub returns-in-None : goal.returns-in-None
returns-in-None c = bad_minus _ c.in-None.is
