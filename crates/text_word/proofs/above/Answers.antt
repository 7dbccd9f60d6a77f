-- `text_word::above` meets its contract: a size of at most `greatest` is a signed number of 64 bits, so that the
-- cast keeps it (`plus_fits`, `plus_is`).
use Rattle.text_word.proofs.WordLoops.{plus_fits, plus_is, bad_plus}
use Rattle.text_word.proofs.above.Goals as goal

pub overflow_cast-result : goal.overflow_cast-result
overflow_cast-result c = plus_fits _ _ c.in-Some.is c.requires

pub returns-in-Some : goal.returns-in-Some
returns-in-Some c = plus_is _ _ c.in-Some.is c.requires

pub returns-in-None : goal.returns-in-None
returns-in-None c = bad_plus _ c.in-None.is
