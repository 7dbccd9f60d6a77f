-- `desk::take` meets its contract: the slot at the place of the first slot with the id.
use mathlib.Core.Path.{ap, ◌∙◌}
use Rattle.desk.specs.Guesses.{slot_at}
use Rattle.desk.proofs.Guesses.{slot_at_first}
use Rattle.desk.proofs.take.Goals as goal

pub returns : goal.returns
returns c =
    c.take_at.ensures ∙ ap (slot_at c.args.t.now) c.place_of.ensures ∙ slot_at_first c.args.t.now c.args.id
