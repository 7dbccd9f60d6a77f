-- `text_word::find_near` meets its contract: behind what is passed at once, the other bytes are counted.
use native.Mathlib.Omega.{arith}
use mathlib.Core.Path.{refl}
use Rattle.text_bytes.specs.Bytes.{is_not}
use Rattle.text_word.proofs.WordLoops.{onward_both, run_ends, running_end}
use Rattle.text_word.proofs.find_near.Goals as goal

pub overflow_add-result : goal.overflow_add-result
unfolding is_not
overflow_add-result c =
    let e = run_ends (is_not c.args.b) _ _ _ c.past-start.ensures.in_t c.others.ensures in
    omega (arith, e.1)

pub returns : goal.returns
unfolding is_not
returns c =
    let passed = onward_both (is_not c.args.b) _ _ _ _ c.past-start.result c.past.ensures c.past-start.ensures refl in
    running_end _ _ _ _ passed _ (run_ends (is_not c.args.b) _ _ _ c.past-start.ensures.in_t c.others.ensures)
