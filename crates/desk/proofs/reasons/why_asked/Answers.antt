-- `desk::reasons::why_asked` meets its contract: what its rule says of the slot is what the paper says of the table, on
-- the day that the terms make.
use mathlib.Core.Path.{ap, ◌∙◌}
use Rattle.paper.specs.Terms.{day_of}
use Rattle.record_answers.specs.declared.Slot.{Slot}
use Rattle.record_reasons.specs.Whys.{why_slot}
use Rattle.desk.proofs.OfSlot.{why_of_slot}
use Rattle.desk.proofs.reasons.why_asked.Goals as goal

pub returns : goal.returns
returns c =
    c.asked.ensures ∙ ap (λ (s : Slot). why_slot s (day_of c.args.a) c.args.rows.now) c.take.ensures
    ∙ why_of_slot c.args.t.now c.args.id (day_of c.args.a) c.args.rows.now
