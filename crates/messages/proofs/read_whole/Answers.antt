-- `read_whole` meets its contract: the kind's own checks, in their order.
use mathlib.Core.Path.{◌≡◌, sym, ◌∙◌}
use mathlib.Core.Bool.{true}
use Prim.Native.Nat.{◌+◌}
use lib.ListN.{drop}
use Rattle.paper_messages.specs.Fields.{places_of}
use Rattle.paper_messages.specs.Messages.{length_width, kind_width, length_of, is_known_kind, values_at}
use borrow.Author.Tests.{not-true, not-false}
use Rattle.messages.proofs.Reading.{skipped, other_length_is_wrong, out_of_range, heard, room_for}
use mathlib.Core.Path.{ap}
use mathlib.Core.Bool.{not}
use Rattle.messages.proofs.read_whole.Goals as goal
use Rattle.messages.proofs.read_whole.Goals.{After-get_fields-fields, Else-length-length_of, Else-not-is_known_kind}

-- the kind is known
known : (c : Else-not-is_known_kind) → is_known_kind c.before.before.get_number-kind.result ≡ true
known c = sym c.before.is_known_kind.ensures ∙ not-false _ (ap not c.if-not-is_known_kind.false)

-- the length is the kind's
right : (c : Else-length-length_of)
    → let s = c.before.before.before.before.before.before in
    s.args.length ≡ length_of c.before.before.before.before.get_number-kind.result
right c = c.if-length-length_of.false ∙ c.before.length_of.ensures

-- the values that are read are those of the kind's fields
values : (c : After-get_fields-fields)
    → let at-kind = c.before.before.before.before.before.before in
    let s = at-kind.before.before in
    c.get_fields-fields.result
    ≡ values_at (places_of at-kind.get_number-kind.result)
    (drop (s.args.at + (length_width + kind_width)) s.args.buf.now)
values c = rw c.before.places_of.ensures at c.get_fields-fields.ensures

pub returns-then-not-is_known_kind : goal.returns-then-not-is_known_kind
returns-then-not-is_known_kind c =
    let k = sym c.is_known_kind.ensures ∙ not-true _ (ap not c.if-not-is_known_kind.true) in
    skipped _ _ _ _ c.requires c.get_number-kind.ensures.0 k

pub returns-then-length-length_of : goal.returns-then-length-length_of
returns-then-length-length_of c =
    let n = c.length_of.ensures in
    other_length_is_wrong _ _ _ _ c.requires c.get_number-kind.ensures.0 (known (goal.at.returns-then-length-length_of c).Else-not-is_known_kind)
    (λ e. c.if-length-length_of.true (e ∙ sym n))

pub get_fields-fields-requires : goal.get_fields-fields-requires
get_fields-fields-requires c =
    rw c.places_of.ensures (room_for _ _ _ _ c.requires (right (goal.at.get_fields-fields-requires c).Else-length-length_of))

pub returns-then-not-is_valid : goal.returns-then-not-is_valid
returns-then-not-is_valid c =
    let v = sym c.is_valid.ensures ∙ not-true _ (ap not c.if-not-is_valid.true) in
    out_of_range _ _ _ _ c.requires c.get_number-kind.ensures.0 (known (goal.at.returns-then-not-is_valid c).Else-not-is_known_kind) (right (goal.at.returns-then-not-is_valid c).Else-length-length_of) _
    (values (goal.at.returns-then-not-is_valid c).After-get_fields-fields) v

pub returns : goal.returns
returns c =
    let v = sym c.is_valid.ensures ∙ not-false _ (ap not c.if-not-is_valid.false) in
    heard _ _ _ _ c.requires c.get_number-kind.ensures.0 (known (goal.at.returns c).Else-not-is_known_kind) (right (goal.at.returns c).Else-length-length_of) _
    (values (goal.at.returns c).After-get_fields-fields) v
