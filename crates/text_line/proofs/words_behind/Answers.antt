use Rattle.text_line.proofs.LineLoop.{filling_end, filling_bad, filling_more}
use Rattle.text_word.proofs.Words.{word_some}
use native.Mathlib.Omega.{arith}
use Prim.Native.Nat.{◌<◌}
use mathlib.Core.Path.{◌∙◌}
use Rattle.text_line.proofs.words_behind.Goals as goal

pub returns-then-a-l : goal.returns-then-a-l
returns-then-a-l c =
    c.finish.ensures
    ∙ filling_end _ _ _ _ _ _ c.loop-xs.invariant _ c.past_blanks-a.ensures.0 (omega (arith, c.if-a-l.true))

pub returns-in_default : goal.returns-in_default
returns-in_default c =
    let word = c.word_at-w.ensures in
    filling_bad _ _ _ _ _ _ c.loop-xs.invariant _ c.past_blanks-a.ensures.0 _ (omega arith) word.is _ _ _
    word.item c.take_word.ensures c.in_default.is

pub loop-xs-smaller : goal.loop-xs-smaller
loop-xs-smaller c =
    let w : c.past_blanks-a.result < c.word_at-w.result.end =
    word_some c.args.l.now _ _ _ c.past_blanks-a.ensures.0 (omega arith)
    c.word_at-w.ensures.is in
    omega (arith, w, c.word_at-w.ensures.in_t)

pub loop-xs-preserved : goal.loop-xs-preserved
loop-xs-preserved c =
    let word = c.word_at-w.ensures in
    filling_more _ _ _ _ _ _ c.loop-xs.invariant _ c.past_blanks-a.ensures.0 _ (omega arith) word.is _ _ _
    word.item c.take_word.ensures _ c.in-Some.is word.in_t
