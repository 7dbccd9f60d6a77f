use Rattle.night_serve.proofs.Words.{words_none, words_more, words_all}
use Rattle.night.proofs.asked.Goals as goal

pub loop-i-init : goal.loop-i-init
loop-i-init c = rw c.no_words-a.ensures (words_none _ c.requires)

pub loop-i-preserved : goal.loop-i-preserved
loop-i-preserved c =
    words_more _ _ c.word_at.ensures.word _ _ _ c.loop-i.invariant
    c.word_at.ensures.is c.take_word-a.ensures

pub returns : goal.returns
returns c = words_all _ _ _ c.loop-i.invariant c.asked.ensures
