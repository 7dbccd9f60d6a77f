-- The walks of the writer and of the reader over the fields of a message, as laws over lists: the bytes still to
-- write, written behind those written, are the message, and the values still to read, behind those read, are its
-- values.
use mathlib.Core.Path.{◌≡◌, refl, sym, ◌∙◌}
use mathlib.Core.Bool.{true, ◌&&◌}
use mathlib.Core.List.{List, ◌∷◌, ◌++◌, append-nil}
use Prim.Native.Nat.{ℕ, suc, ◌+◌, ◌<◌, ◌≤◌}
use native.Mathlib.Omega.{arith}
use lib.IntN.{ℤ, pos}
use lib.ListN.{length, take, drop, get_or, set, length-set, drop_of_length-le}
use lib.Seq.{sets, length-sets, drop-cons, drop-drop, sets-eq}
use lib.Signed.{mag}
use Rattle.paper.specs.Lists.{every}
use Rattle.paper.specs.Ranges.{within_z}
use Rattle.paper.proofs.Logic.{and_left, and_right}
use Rattle.paper_messages.specs.declared.Field.{Field}
use Rattle.paper_messages.specs.Bytes.{in_width, width_most, bytes_of, spelled, complement, signed_of}
use Rattle.paper_messages.specs.Fields.{no_field}
use Rattle.paper_messages.specs.Messages.{body_of, total, in_ranges, holds_range, values_at}
use Rattle.paper_messages.proofs.ByteLaws.{bytes_length, fitting_mag_in_width}
use Rattle.paper_messages.proofs.FieldLaws.{held_width_within_most, held_value_fits, values_length}
pub use Rattle.exact.specs.StoreLaws.{sets_of_both}
use Rattle.messages.specs.FieldRoom.{Room, Holding}

-- ---- room for the field at hand, and for those behind it

record Here (at : ℕ) (f : Field) (b : List ℕ) : Type 0 where
  pub room : at + f.width ≤ length b
  pub narrow : f.width ≤ width_most

room_here : (at : ℕ) (f : Field) (fields : List Field) (b : List ℕ) → Room at (f ∷ fields) b → Here at f b
unfolding total every
room_here at f fields b r =
    record { room = omega (arith, r.room); narrow = held_width_within_most f (and_left (holds_range f) _ r.holds) }

room_behind : (at : ℕ) (f : Field) (fields : List Field) (b c : List ℕ) → Room at (f ∷ fields) b → length c ≡ length b
    → Room (at + f.width) fields c
unfolding total every
room_behind at f fields b c r e =
    record { room = rw e (omega (arith, r.room)); holds = and_right (holds_range f) _ r.holds }

-- ---- the writer

pub record Packing (b₀ : List ℕ) (at : ℕ) (fields : List Field) (values : List ℤ) (b : List ℕ) (i to : ℕ) : Type 0
  where
    pub as_many : length fields ≡ length values
    pub inside : i ≤ length fields
    pub same_length : length b ≡ length b₀
    pub room : Room to (drop i fields) b
    pub in_range_lem : in_ranges (drop i fields) (drop i values) ≡ true
    pub left : sets b to (body_of (drop i fields) (drop i values)) ≡ sets b₀ at (body_of fields values)

pub packing_none : (b : List ℕ) (at : ℕ) (fields : List Field) (values : List ℤ) → length fields ≡ length values
    → Room at fields b
    → Holding fields values
    → Packing b at fields values b 0 at
packing_none b at fields values e r h =
    record { as_many = e; inside = omega arith; same_length = refl; room = r; in_range_lem = h.in_range_lem; left = refl }

module _ (b₀ : List ℕ) (at : ℕ) (fields : List Field) (values : List ℤ) (b : List ℕ) (i to : ℕ)
    (p : Packing b₀ at fields values b i to) where
  module _ (h : i < length fields) where
    in_values : i < length values
    in_values = omega (arith, p.as_many)

    here : Room to (get_or fields i no_field ∷ drop (suc i) fields) b
    here = rw (drop-cons fields i no_field h) at p.room

    pub packing_room : (to + (get_or fields i no_field).width ≤ length b) × ((get_or fields i no_field).width ≤ width_most)
    packing_room =
        let r = room_here to (get_or fields i no_field) (drop (suc i) fields) b here in
        (r.room, r.narrow)

    -- the value at hand is in its field's range, and those behind it are in theirs
    ranged : (within_z (get_or fields i no_field).low (get_or fields i no_field).high (get_or values i (pos 0))
        && in_ranges (drop (suc i) fields) (drop (suc i) values))
        ≡ true
    unfolding in_ranges
    ranged = rw (drop-cons fields i no_field h, drop-cons values i (pos 0) in_values) at p.in_range_lem

    pub packed_mag_in_width : mag (get_or values i (pos 0)) < in_width (get_or fields i no_field).width
    unfolding every
    packed_mag_in_width =
        let f : Field = get_or fields i no_field in
        let z : ℤ = get_or values i (pos 0) in
        fitting_mag_in_width f.width z
        (held_value_fits f z (and_left (holds_range f) _ here.holds)
        (and_left (within_z f.low f.high z) _ ranged))

    -- the bytes of the field at hand
    abbrev own : List ℕ
    own = bytes_of (get_or fields i no_field).width (complement (get_or fields i no_field).width (get_or values i (pos 0)))

    pub packing_more : Packing b₀ at fields values (sets b to own) (i + 1) (to + (get_or fields i no_field).width)
    unfolding body_of
    packing_more =
        let e : i + 1 ≡ suc i = omega arith in
        let f : Field = get_or fields i no_field in
        let z : ℤ = get_or values i (pos 0) in
        let more : List ℕ = body_of (drop (suc i) fields) (drop (suc i) values) in
        let long : length own ≡ f.width = bytes_length f.width (complement f.width z) in
        let r : sets b to (own ++ more) ≡ sets b₀ at (body_of fields values) =
        rw (drop-cons fields i no_field h, drop-cons values i (pos 0) in_values) at p.left in
        record {
          as_many = p.as_many;
          inside = omega arith;
          same_length = length-sets b to own ∙ p.same_length;
          room = rw e (room_behind to f (drop (suc i) fields) b (sets b to own) here (length-sets b to own));
          in_range_lem = rw e (and_right (within_z f.low f.high z) _ ranged);
          left = rw e (sym (rw long at (sets_of_both own more b to)) ∙ r);
        }

  pub packing_all : length fields ≤ i → b ≡ sets b₀ at (body_of fields values)
  unfolding body_of
  packing_all h = rw (drop_of_length-le fields h) at p.left

-- ---- the reader

pub record Unpacking (b : List ℕ) (at : ℕ) (fields : List Field) (values : List ℤ) (i from : ℕ) : Type 0 where
  pub as_many : length fields ≡ length values
  pub inside : i ≤ length fields
  pub room : Room from (drop i fields) b
  pub left : sets values i (values_at (drop i fields) (drop from b)) ≡ values_at fields (drop at b)

pub unpacking_none : (b : List ℕ) (at : ℕ) (fields : List Field) (values : List ℤ) → length fields ≡ length values
    → Room at fields b
    → Unpacking b at fields values 0 at
unpacking_none b at fields values e r =
    let all : List ℤ = values_at fields (drop at b) in
    let as_long : length all ≡ length values = values_length fields (drop at b) ∙ e in
    let reach : 0 + length all ≤ length values = omega arith in
    let none : length values ≤ 0 + length all = omega arith in
    record {
      as_many = e;
      inside = omega arith;
      room = r;
      left = sets-eq all values 0 reach ∙ rw (drop_of_length-le values none) (append-nil all);
    }

module _ (b : List ℕ) (at : ℕ) (fields : List Field) (values : List ℤ) (i from : ℕ)
    (p : Unpacking b at fields values i from) where
  module _ (h : i < length fields) where
    there : Room from (get_or fields i no_field ∷ drop (suc i) fields) b
    there = rw (drop-cons fields i no_field h) at p.room

    pub unpacking_room : (from + (get_or fields i no_field).width ≤ length b) × ((get_or fields i no_field).width ≤ width_most)
    unpacking_room =
        let r = room_here from (get_or fields i no_field) (drop (suc i) fields) b there in
        (r.room, r.narrow)

    -- the value of the field at hand
    abbrev said : ℤ
    said =
        signed_of (get_or fields i no_field).width (spelled (take (get_or fields i no_field).width (drop from b)))

    pub unpacking_more : Unpacking b at fields (set values i said) (i + 1) (from + (get_or fields i no_field).width)
    unfolding values_at
    unpacking_more =
        let e : i + 1 ≡ suc i = omega arith in
        let f : Field = get_or fields i no_field in
        record {
          as_many = p.as_many ∙ sym (length-set values i said);
          inside = omega arith;
          room = rw e (room_behind from f (drop (suc i) fields) b b there refl);
          left = rw e (rw (drop-cons fields i no_field h, drop-drop f.width from b) at p.left);
        }

  pub unpacking_all : length fields ≤ i → values ≡ values_at fields (drop at b)
  unfolding values_at
  unpacking_all h = rw (drop_of_length-le fields h) at p.left
