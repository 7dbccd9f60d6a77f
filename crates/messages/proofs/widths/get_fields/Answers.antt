use mir.Facts.{to_z-of_z}
use Rattle.messages.proofs.Halves.{signed_fits}
use native.Mathlib.Omega.{arith}
use Rattle.messages.proofs.Walks.{unpacking_none, unpacking_room, unpacking_more, unpacking_all}
use Rattle.messages.proofs.widths.get_fields.Goals as goal

pub loop-i-init : goal.loop-i-init
loop-i-init c = unpacking_none _ _ _ _ (omega arith) c.requires

pub get_number-requires : goal.get_number-requires
get_number-requires c = unpacking_room _ _ _ _ _ _ c.loop-i.invariant (omega arith)

pub signed_of-requires : goal.signed_of-requires
signed_of-requires c =
    ((unpacking_room _ _ _ _ _ _ c.loop-i.invariant (omega arith)).1, c.get_number.ensures.1)

pub loop-i-preserved : goal.loop-i-preserved
loop-i-preserved c =
    let g = c.get_number.ensures in
    let narrow = (unpacking_room _ _ _ _ _ _ c.loop-i.invariant (omega arith)).1 in
    rw (c.signed_of.ensures, to_z-of_z (signed_fits _ _ narrow g.1), g.0)
    (unpacking_more _ _ _ _ _ _ c.loop-i.invariant (omega arith))

pub returns : goal.returns
returns c = unpacking_all _ _ _ _ _ _ c.loop-i.invariant (omega arith)

pub overflow_add-from : goal.overflow_add-from
overflow_add-from c =
    omega (
      arith,
      (unpacking_room _ _ _ _ _ _ c.loop-i.invariant (omega arith)).0,
      c.well_formed,
    )
