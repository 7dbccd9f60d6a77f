-- The laws of the encoding, once over the list of fields: values in range read back from their bytes, whatever follows
-- them; bytes are the only writing of the values that they say; and every kind's widths hold its ranges.
use mathlib.Core.Path.{◌≡◌, refl, sym, ap}
use mathlib.Core.Bool.{Bool, true, false, ◌&&◌}
use mathlib.Core.List.{List, [], ◌∷◌, ◌++◌, append_assoc}
use Prim.Native.Nat.{ℕ, zero, suc, ◌+◌, ◌<◌, ◌≤◌}
use native.Mathlib.Omega.{arith}
use lib.Dec.{eqb, leb}
use lib.IntN.{ℤ}
use lib.ListN.{length, take, drop, get_or, length-append, length-drop}
use lib.Seq.{take_at, drop_at, take-add, length-take-le}
use borrow.Author.Tests.{leb-true, eqb-true}
use Rattle.paper.specs.Lists.{every}
use Rattle.paper.specs.Ranges.{within, within_z}
use Rattle.paper.proofs.Logic.{not_true_and_false, and_left, and_right}
use Rattle.paper_messages.specs.declared.Field.{Field}
use Rattle.paper_messages.specs.Bytes.{Bytes, in_width, width_most, fits_width, bytes_of, spelled, complement}
use Rattle.paper_messages.specs.Fields.{MessageKind, kinds_table, no_kind, fields_of, places, filled, no_field}
use Rattle.paper_messages.specs.Fields.{places_of}
use Rattle.paper_messages.specs.Messages.{length_width, kind_width, length_least, length_most, body_of, total}
use Rattle.paper_messages.specs.Messages.{length_of, in_ranges, holds_range, values_at}
use Rattle.paper_messages.specs.Broadcast.{message_most}
use Rattle.paper_messages.proofs.ByteLaws.{take_bytes, drop_bytes, bytes_length, bytes_back, bytes_only}
use Rattle.paper_messages.proofs.ByteLaws.{spelled_in_width, complement_in_width, complement_back}
use Rattle.paper_messages.proofs.ByteLaws.{complement_only, fits_between}

-- ---- one field

-- a width is at most eight bytes, and has every value of the field's range
pub held_width_within_most : (f : Field) → holds_range f ≡ true → f.width ≤ width_most
unfolding holds_range
held_width_within_most f h =
    leb-true f.width width_most
    (and_left (leb f.width width_most) _ (and_left _ (fits_width f.width f.high) h))

pub held_value_fits : (f : Field) (z : ℤ) → holds_range f ≡ true → within_z f.low f.high z ≡ true
    → fits_width f.width z ≡ true
unfolding holds_range
held_value_fits f z h w =
    let both = and_left (leb f.width width_most && fits_width f.width f.low) _ h in
    fits_between f.width f.low f.high z (and_right (leb f.width width_most) _ both)
    (and_right (leb f.width width_most && fits_width f.width f.low) _ h) w

-- ---- a list of fields

pub body_length : (fields : List Field) (values : List ℤ) → length fields ≤ length values
    → length (body_of fields values) ≡ total fields
unfolding body_of total
body_length [] values h = refl
body_length (f ∷ fields) [] h = let z : ⊥ = omega arith in absurd z
body_length (f ∷ fields) (z ∷ values) h =
    rw (
      length-append (bytes_of f.width (complement f.width z)) (body_of fields values),
      bytes_length f.width (complement f.width z),
      body_length fields values (omega arith),
    )

-- values in range are at least as many as the fields
pub in_ranges_has_values : (fields : List Field) (values : List ℤ) → in_ranges fields values ≡ true
    → length fields ≤ length values
unfolding in_ranges
in_ranges_has_values [] values r = omega arith
in_ranges_has_values (f ∷ fields) [] r = absurd (not_true_and_false false r refl)
in_ranges_has_values (f ∷ fields) (z ∷ values) r =
    let more = in_ranges_has_values fields values (and_right (within_z f.low f.high z) _ r) in omega arith

-- values in range read back, whatever stands behind them
pub body_back : (fields : List Field) (values : List ℤ) → length fields ≡ length values
    → every holds_range fields ≡ true
    → in_ranges fields values ≡ true
    → (rest : List ℕ)
    → values_at fields (body_of fields values ++ rest) ≡ values
unfolding body_of values_at every in_ranges
body_back [] [] n h r rest = refl
body_back [] (z ∷ values) n h r rest = let x : ⊥ = omega arith in absurd x
body_back (f ∷ fields) [] n h r rest = let x : ⊥ = omega arith in absurd x
body_back (f ∷ fields) (z ∷ values) n h r rest =
    let w : ℕ = f.width in
    let own : List ℕ = bytes_of w (complement w z) in
    let more : List ℕ = body_of fields values ++ rest in
    let fits : fits_width w z ≡ true =
    held_value_fits f z (and_left (holds_range f) _ h) (and_left (within_z f.low f.high z) _ r) in
    let long : length own ≡ w = bytes_length w (complement w z) in
    rw (
      append_assoc own (body_of fields values) rest,
      take_at own more w long,
      drop_at own more w long,
      bytes_back w (complement w z) (complement_in_width w z fits),
      complement_back w z fits,
      body_back fields values (omega arith) (and_right (holds_range f) _ h)
          (and_right (within_z f.low f.high z) _ r) rest,
    )

-- bytes are the only writing of the values that they say
pub body_only : (fields : List Field) (bytes : List ℕ) → Bytes bytes → total fields ≤ length bytes
    → body_of fields (values_at fields bytes) ≡ take (total fields) bytes
unfolding body_of values_at total
body_only [] bytes b h = refl
body_only (f ∷ fields) bytes b h =
    let w : ℕ = f.width in
    let own : List ℕ = take w bytes in
    let long : length own ≡ w = length-take-le w bytes (omega arith) in
    let small : spelled own < in_width w = rw long at (spelled_in_width own (take_bytes w bytes b)) in
    let here : bytes_of w (spelled own) ≡ own = rw long at (bytes_only own (take_bytes w bytes b)) in
    let left : total fields ≤ length (drop w bytes) = rw (length-drop w bytes) (omega arith) in
    rw (
      complement_only w (spelled own) small,
      here,
      body_only fields (drop w bytes) (drop_bytes w bytes b) left,
    ) (sym (take-add w (total fields) bytes))

-- the values that are read are as many as the fields, and look no further than the fields reach
pub values_length : (fields : List Field) (bytes : List ℕ) → length (values_at fields bytes) ≡ length fields
unfolding values_at
values_length [] bytes = refl
values_length (f ∷ fields) bytes = ap suc (values_length fields (drop f.width bytes))

-- ---- the kinds

-- what holds of each kind's places, and of those of no kind, holds of every kind's
of_every_kind : (p : List Field → Bool)
    → every (λ (k : MessageKind). p (filled no_field k.fields)) (no_kind ∷ kinds_table) ≡ true
    → (kind : ℕ)
    → p (places_of kind) ≡ true
unfolding places_of fields_of every
of_every_kind p all kind = of (no_kind ∷ kinds_table) all kind
  where
    of : (rows : List MessageKind) → every (λ (k : MessageKind). p (filled no_field k.fields)) rows ≡ true
        → (kind : ℕ)
        → p (filled no_field (get_or rows kind no_kind).fields) ≡ true
    of [] h kind = and_left (p (filled no_field [])) _ all
    of (k ∷ rows) h zero = and_left (p (filled no_field k.fields)) _ h
    of (k ∷ rows) h (suc kind) = of rows (and_right (p (filled no_field k.fields)) _ h) kind

-- every kind's widths hold its ranges
pub kinds_hold : (kind : ℕ) → every holds_range (places_of kind) ≡ true
unfolding every holds_range fits_width filled
kinds_hold kind = of_every_kind (every holds_range) refl kind

-- every kind has as many places as a message
pub kinds_have_places : (kind : ℕ) → length (places_of kind) ≡ places
unfolding every filled
kinds_have_places kind = eqb-true _ _ (of_every_kind (λ fields. eqb (length fields) places) refl kind)

-- every kind's length is one that a message may have
pub kinds_length_in_range : (kind : ℕ) → within length_least length_most (length_of kind) ≡ true
unfolding length_of total every filled
kinds_length_in_range kind =
    of_every_kind (λ fields. within length_least length_most (kind_width + total fields)) refl kind

-- no kind's message has more bytes than a buffer of `message_most` takes
pub kinds_within_most : (kind : ℕ) → length_width + length_of kind ≤ message_most
unfolding length_of total every filled
kinds_within_most kind =
    leb-true _ _ (of_every_kind (λ fields. leb (length_width + (kind_width + total fields)) message_most) refl kind)
