-- `text_word::past_blanks` meets its contract: the run of the blanks ends behind as many as stand in front.
use native.Mathlib.Omega.{arith}
use Rattle.text_bytes.specs.Bytes.{is_blank}
use Rattle.text_word.proofs.WordLoops.{run_ends}
use Rattle.text_word.proofs.past_blanks.Goals as goal

pub overflow_add-result : goal.overflow_add-result
overflow_add-result c = let e = run_ends is_blank _ _ _ c.requires c.blanks.ensures in omega (arith, e.1)

pub returns : goal.returns
returns c = run_ends is_blank _ _ _ c.requires c.blanks.ensures
