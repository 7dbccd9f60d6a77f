-- `write` meets its contract: 23, then 24, and then three stores one behind the other.
use mathlib.Core.Path.{◌≡◌, sym, ap, ◌∙◌}
use mathlib.Core.Bool.{true}
use Prim.Native.Nat.{◌+◌, ◌≤◌}
use lib.ListN.{length}
use lib.Seq.{sets, length-sets}
use Rattle.paper_messages.specs.Bytes.{bytes_of}
use native.Mathlib.Omega.{arith}
use borrow.Author.Tests.{not-true, not-false}
use Rattle.paper_messages.specs.Messages.{length_width, kind_width, length_of, valid}
use Rattle.messages.proofs.Writing.{length_within_most, length_at_least_least, out_of_range, no_room}
use Rattle.messages.proofs.Writing.{fields_room, wrote}
use mathlib.Core.Bool.{not}
use Rattle.messages.proofs.write.Goals as goal
use Rattle.messages.proofs.write.Goals.{After-put_number, After-put_number-2, Else-buf-whole, Else-not-is_valid}

good : (c : Else-not-is_valid) → valid c.before.before.before.args.m ≡ true
good c = sym c.before.is_valid.ensures ∙ not-false _ (ap not c.if-not-is_valid.false)

-- the message is not longer than the buffer
enough : (c : Else-buf-whole)
    → let s = c.before.before.before.before.before.before in
    length_width + length_of s.args.m.kind ≤ length s.args.buf.now
enough c = omega (arith, c.before.length_of-length.ensures)

-- after the first store, and after the second
first : (c : After-put_number)
    → let s = c.before.before.before.before.before.before.before in
    c.put_number.new.buf ≡ sets s.args.buf.now 0 (bytes_of length_width (length_of s.args.m.kind))
first c = rw c.before.before.before.length_of-length.ensures at c.put_number.ensures

first_length : (c : After-put_number)
    → let s = c.before.before.before.before.before.before.before in
    length c.put_number.new.buf ≡ length s.args.buf.now
first_length c = ap length (first c) ∙ simp length-sets

second : (c : After-put_number-2)
    → let s = c.before.before.before.before.before.before.before.before.before.before.before in
    c.put_number-2.new.buf
    ≡ sets c.before.before.before.before.put_number.new.buf length_width (bytes_of kind_width s.args.m.kind)
second c = c.put_number-2.ensures

second_length : (c : After-put_number-2)
    → let s = c.before.before.before.before.before.before.before.before.before.before.before in
    length c.put_number-2.new.buf ≡ length s.args.buf.now
second_length c = ap length (second c) ∙ simp length-sets (first_length c.before.before.before.before)

pub returns-then-not-is_valid : goal.returns-then-not-is_valid
returns-then-not-is_valid c = out_of_range _ _ (sym c.is_valid.ensures ∙ not-true _ (ap not c.if-not-is_valid.true))

pub overflow_add-whole : goal.overflow_add-whole
overflow_add-whole c =
    omega (arith, c.length_of-length.ensures, length_within_most c.args.m.kind)

pub returns-then-buf-whole : goal.returns-then-buf-whole
returns-then-buf-whole c = no_room _ _ (good (goal.at.returns-then-buf-whole c).Else-not-is_valid) (omega (arith, c.length_of-length.ensures))

pub put_number-requires-2 : goal.put_number-requires-2
put_number-requires-2 c =
    let fits = enough (goal.at.put_number-requires-2 c).Else-buf-whole in
    omega (arith, first_length (goal.at.put_number-requires-2 c).After-put_number, fits, length_at_least_least c.args.m.kind)

pub put_fields-requires : goal.put_fields-requires
put_fields-requires c =
    fields_room c.args.buf.now _ (good (goal.at.put_fields-requires c).Else-not-is_valid) (enough (goal.at.put_fields-requires c).Else-buf-whole) _ _ c.places_of.ensures
    (second_length (goal.at.put_fields-requires c).After-put_number-2)

pub returns : goal.returns
returns c =
    let body = rw c.places_of.ensures at c.put_fields.ensures in
    rw c.length_of-length.ensures
    (wrote _ _ (good (goal.at.returns c).Else-not-is_valid) (enough (goal.at.returns c).Else-buf-whole) _ _ _
    (first (goal.at.returns c).After-put_number) (second (goal.at.returns c).After-put_number-2) body)
