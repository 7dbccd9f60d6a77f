-- What a receipt of outside prices comes to (W-211), by whether a float of it is bad and the pair that is kept after
-- it: of what was received nothing else is used.
use Rattle.std.specs.Prelude.{◌≡◌, Bool}
use Rattle.paper.specs.declared.External.{External}
use Rattle.paper_desk.specs.External.{Receipt, is_bad, kept_after}
use Rattle.paper_desk.specs.Desk.{receiving}
use Rattle.record_answers.specs.declared.Slot.{Slot}
use Rattle.record_answers.specs.declared.Effect.{Effect}
use Rattle.record_answers.specs.Effects.{effect_of}

-- o is the effect of any receipt that is as bad as this, and leaves this pair
abbrev pub Receives : Slot → (bad : Bool) → External → Effect → Type 0
Receives s bad kept o =
    (x : Receipt) → is_bad x ≡ bad → kept_after s.rec.external x ≡ kept → o ≡ effect_of s (receiving x)
