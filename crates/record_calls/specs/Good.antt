-- A slot that is known, with a record that every accepted call keeps sound.
use Rattle.std.specs.Prelude.{Bool, ◌&&◌}
use Rattle.paper_desk.specs.Kept.{within_moves}
use Rattle.record_answers.specs.declared.Slot.{Slot}
use Rattle.record_answers.specs.Effects.{is_known}

unfoldable pub is_good : Slot → Bool
is_good s = is_known s && within_moves s.rec
