-- `text_word::past_word` meets its contract: the run of the bytes of a word ends behind as many as stand in front.
use native.Mathlib.Omega.{arith}
use Rattle.text_word.specs.Parts.{is_solid}
use Rattle.text_word.proofs.WordLoops.{run_ends}
use Rattle.text_word.proofs.past_word.Goals as goal

pub overflow_add-result : goal.overflow_add-result
unfolding is_solid
overflow_add-result c = let e = run_ends is_solid _ _ _ c.requires c.solids.ensures in omega (arith, e.1)

pub returns : goal.returns
unfolding is_solid
returns c = run_ends is_solid _ _ _ c.requires c.solids.ensures
