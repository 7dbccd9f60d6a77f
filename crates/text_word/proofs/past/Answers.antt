-- `text_word::past` meets its contract: the run goes on behind the bytes that are passed.
use native.Mathlib.Omega.{arith}
use Rattle.text_word.proofs.WordLoops.{none_onward, running_none}
use Rattle.text_word.proofs.past.Goals as goal

pub returns-then-none_is : goal.returns-then-none_is
returns-then-none_is g c = none_onward _ _ _ _ _ _ (omega arith) (omega arith) c.none_is.ensures c.if-none_is.true

pub returns : goal.returns
returns g c = running_none _ _ _ c.requires
