-- What the rule tells of the slot of an id is what the paper says of the table.
use mathlib.Core.Path.{◌≡◌, refl}
use mathlib.Core.List.{List}
use Prim.Native.Nat.{ℕ}
use lib.IntN.{ℤ}
use Rattle.paper.specs.declared.Record.{Record}
use Rattle.paper.specs.declared.Day.{Day}
use Rattle.paper_desk.specs.Desk.{stands, known}
use Rattle.paper_reasons.specs.Why.{why_on}
use Rattle.record_answers.specs.Effects.{slot_found, holds, is_known}
use Rattle.record_reasons.specs.Whys.{why_slot}

pub why_of_slot : (t : List Record) (id : ℕ) (d : Day) (rows : List ℤ)
    → why_slot (slot_found t id) d rows ≡ why_on t id d rows
unfolding why_slot why_on slot_found is_known holds known stands
why_of_slot t id d rows = refl
