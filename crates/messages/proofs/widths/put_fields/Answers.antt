use mir.Facts.{to_z-of_z}
use mir.Syntax.{w64}
use native.Mathlib.Omega.{arith}
use Rattle.messages.proofs.Walks.{packing_none, packing_room, packed_mag_in_width, packing_more}
use Rattle.messages.proofs.Walks.{packing_all}
use Rattle.messages.proofs.widths.put_fields.Goals as goal

pub loop-i-init : goal.loop-i-init
loop-i-init c = packing_none _ _ _ _ (omega arith) c.requires.0 c.requires.1

pub complement-requires : goal.complement-requires
complement-requires c = (
  (packing_room _ _ _ _ _ _ _ c.loop-i.invariant (omega arith)).1,
  rw (to_z-of_z {w = w64} (record { sfits = c.complement-arg-1.given }))
      (packed_mag_in_width _ _ _ _ _ _ _ c.loop-i.invariant (omega arith)),
)

pub put_number-requires : goal.put_number-requires
put_number-requires c =
    (packing_room _ _ _ _ _ _ _ c.loop-i.invariant (omega arith)).0

pub overflow_add-to : goal.overflow_add-to
overflow_add-to c =
    omega (arith, (packing_room _ _ _ _ _ _ _ c.loop-i.invariant (omega arith)).0)

pub loop-i-preserved : goal.loop-i-preserved
loop-i-preserved c =
    let a = c.complement-arg-1.given in
    let e = rw (to_z-of_z {w = w64} (record { sfits = a })) at c.complement.ensures in
    rw (c.put_number.ensures, e) (packing_more _ _ _ _ _ _ _ c.loop-i.invariant (omega arith))

pub returns : goal.returns
returns c = packing_all _ _ _ _ _ _ _ c.loop-i.invariant (omega arith)
