-- Why, of the slot that a call found.
use Rattle.std.specs.Prelude.{List, ℤ}
use Rattle.paper.specs.declared.Day.{Day}
use Rattle.record_answers.specs.declared.Slot.{Slot}
use Rattle.record_answers.specs.Effects.{is_known}
use Rattle.paper_reasons.specs.declared.Why.{Why}
use Rattle.paper_reasons.specs.Why.{why_of}

unfoldable pub why_slot : Slot → Day → (rows : List ℤ) → Why
why_slot s d rows = why_of (is_known s) s.rec d rows
