-- `places_of` meets its contract: the fields of the kind's row, and none past the last.
use mathlib.Core.Path.{sym}
use Prim.Native.Nat.{◌≤◌}
use lib.ListN.{length}
use lib.Seq.{length-take-le}
use Rattle.std.proofs.lemmas.List.{drop-replicate}
use Rattle.paper_messages.specs.Fields.{places_of, filled, fields_of, no_field}
use Rattle.messages.proofs.Rows.{count_within_places}
use Rattle.messages.proofs.kinds.places_of.Goals as goal

pub slice_bounds-places-end : goal.slice_bounds-places-end
unfolding fields_of
slice_bounds-places-end c = rw c.kind_of.ensures.fields (count_within_places c.args.kind)

pub slice_bounds-copy_from_slice-end : goal.slice_bounds-copy_from_slice-end
unfolding fields_of
slice_bounds-copy_from_slice-end c =
    let few : length c.kind_of.result.fields.now ≤ 27 =
    rw c.kind_of.ensures.fields (count_within_places c.args.kind) in
    sym (length-take-le _ _ few)

pub copy_from_slice-requires : goal.copy_from_slice-requires
unfolding fields_of
copy_from_slice-requires c =
    let few : length c.kind_of.result.fields.now ≤ 27 =
    rw c.kind_of.ensures.fields (count_within_places c.args.kind) in
    length-take-le _ _ few

pub returns : goal.returns
unfolding places_of filled
returns c =
    rw (
      c.copy_from_slice.ensures.after,
      c.kind_of.ensures.fields,
      drop-replicate (length (fields_of c.args.kind)) 27 no_field,
    )
