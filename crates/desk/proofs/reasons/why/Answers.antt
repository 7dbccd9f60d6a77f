-- `desk::reasons::why` meets its contract: what its rule says of the slot is what the paper says of the table.
use mathlib.Core.Path.{ap, ◌∙◌}
use Rattle.record_answers.specs.declared.Slot.{Slot}
use Rattle.record_reasons.specs.Whys.{why_slot}
use Rattle.desk.proofs.OfSlot.{why_of_slot}
use Rattle.desk.proofs.reasons.why.Goals as goal

pub returns : goal.returns
returns c =
    c.why.ensures ∙ ap (λ (s : Slot). why_slot s c.args.d c.args.rows.now) c.take.ensures
    ∙ why_of_slot c.args.t.now c.args.id c.args.d c.args.rows.now
