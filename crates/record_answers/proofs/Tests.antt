-- For the proofs of the rules over a slot. The code asks `if !test`, and its test is the definition's, as the contract
-- of the tested function says. `tested_true` is for the branch that goes on, `tested_false` for the one that refuses,
-- and `known_sound` for what needs a sound record. The file uses the laws of `paper` and the definitions of `Effects`,
-- and no rule, since the rules use it.
use mathlib.Core.Path.{◌≡◌, sym, ◌∙◌}
use mathlib.Core.Bool.{Bool, true, false, not, ◌&&◌}
use Rattle.paper.specs.Ranges.{valid_slots, sound}
use Rattle.paper.proofs.Logic.{and_right, not_true, not_false}
use Rattle.record_answers.specs.declared.Slot.{Slot}
use Rattle.record_answers.specs.Effects.{holds, is_known}

pub tested_true : {test : Bool} (is : Bool) → test ≡ is → not test ≡ false → is ≡ true
tested_true is e h = sym e ∙ not_false _ h

pub tested_false : {test : Bool} (is : Bool) → test ≡ is → not test ≡ true → is ≡ false
tested_false is e h = sym e ∙ not_true _ h

pub known_sound : (s : Slot) → is_known s ≡ true → sound s.rec ≡ true
unfolding is_known
known_sound s e = and_right (valid_slots s.count && holds s) (sound s.rec) e
