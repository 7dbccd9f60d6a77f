-- What the writer answers and leaves, on plain values.
use mathlib.Core.Path.{◌≡◌, sym, ap, ◌∙◌}
use mathlib.Core.Bool.{true, false}
use mathlib.Core.List.{List, ◌++◌}
use Prim.Native.Nat.{ℕ, ◌+◌, ◌≤◌, ◌<◌}
use native.Mathlib.Omega.{arith}
use lib.Dec.{leb}
use lib.ListN.{length, drop, length-append}
use lib.Seq.{sets, sets-eq}
use borrow.Author.Tests.{lt-ltb, le-ltb, leb-true}
use Rattle.paper.specs.declared.Verdict.TheVariants.{FieldOutOfRange, NoRoom}
use Rattle.std.specs.Prelude.{Ok, Err}
use Rattle.paper.specs.Verdicts.{first_of, is_done}
use Rattle.paper.proofs.Logic.{and_left, and_right}
use Rattle.paper_messages.specs.declared.Field.{Field}
use Rattle.paper_messages.specs.declared.Message.{Message}
use Rattle.paper_messages.specs.Bytes.{bytes_of}
use Rattle.paper_messages.specs.Fields.{places_of}
use Rattle.paper_messages.specs.Messages.{length_width, kind_width, length_least, length_most, body_of, length_of, encode}
use Rattle.paper_messages.specs.Messages.{valid, write_checks, wrote_of, written}
use Rattle.paper_messages.proofs.ByteLaws.{bytes_length}
use Rattle.paper_messages.proofs.FieldLaws.{kinds_hold, kinds_length_in_range}
use Rattle.paper_messages.proofs.MessageLaws.{valid_is_in_ranges, encode_length}
use Rattle.messages.specs.FieldRoom.{Room, Holding}
use Rattle.messages.proofs.Walks.{sets_of_both}
use Rattle.messages.specs.Promises.{Writes}

-- a kind's length is small
pub length_within_most : (kind : ℕ) → length_of kind ≤ length_most
length_within_most kind = leb-true (length_of kind) length_most
    (and_right (leb length_least (length_of kind)) (leb (length_of kind) length_most) (kinds_length_in_range kind))

pub length_at_least_least : (kind : ℕ) → length_least ≤ length_of kind
length_at_least_least kind =
    leb-true length_least (length_of kind)
    (and_left (leb length_least (length_of kind)) (leb (length_of kind) length_most) (kinds_length_in_range kind))

-- three stores one behind the other are one of the whole message
stores_are_encode : (b : List ℕ) (m : Message)
    → sets
    (sets (sets b 0 (bytes_of length_width (length_of m.kind))) length_width (bytes_of kind_width m.kind))
    (length_width + kind_width)
    (body_of (places_of m.kind) m.fields)
    ≡ sets b 0 (encode m)
unfolding encode
stores_are_encode b m =
    let head : List ℕ = bytes_of length_width (length_of m.kind) in
    let kind : List ℕ = bytes_of kind_width m.kind in
    let body : List ℕ = body_of (places_of m.kind) m.fields in
    let all : sets b 0 (head ++ kind ++ body) ≡ sets (sets b 0 (head ++ kind)) (length_width + kind_width) body =
    rw (
      length-append head kind,
      bytes_length length_width (length_of m.kind),
      bytes_length kind_width m.kind,
    ) at (sets_of_both (head ++ kind) body b 0) in
    let two : sets b 0 (head ++ kind) ≡ sets (sets b 0 head) length_width kind =
    rw (bytes_length length_width (length_of m.kind)) at (sets_of_both head kind b 0) in
    sym (all ∙ ap (λ (l : List ℕ). sets l (length_width + kind_width) body) two)

-- stores from the first byte on, and what stays behind them
set_at_front : (b xs : List ℕ) → length xs ≤ length b → sets b 0 xs ≡ xs ++ drop (length xs) b
set_at_front b xs h =
    let none : 0 + length xs ≡ length xs = omega arith in
    rw none at (sets-eq xs b 0 (omega arith))

module _ (b : List ℕ) (m : Message) where
  pub out_of_range : valid m ≡ false → Writes b m (Err FieldOutOfRange) b
  unfolding wrote_of written write_checks first_of is_done
  out_of_range v = record { answers = rw v; leaves = rw v }

  module _ (v : valid m ≡ true) where
    pub no_room : length b < length_width + length_of m.kind
        → Writes b m (Err NoRoom) b
    unfolding wrote_of written write_checks first_of is_done
    no_room h =
        let small : length b < length (encode m) = rw (encode_length m v) h in
        let e = lt-ltb (length b) (length (encode m)) small in
        record { answers = rw (v, e); leaves = rw (v, e) }

    module _ (h : length_width + length_of m.kind ≤ length b) where
      -- the fields have their room behind the kind
      pub fields_room : (places : List Field) (c : List ℕ) → places ≡ places_of m.kind → length c ≡ length b
          → (Room (length_width + kind_width) places c) × (Holding places m.fields)
      unfolding length_of
      fields_room places c p e = rw p (
        record { room = rw e (omega arith); holds = kinds_hold m.kind },
        record { in_range_lem = valid_is_in_ranges m v },
      )

      -- the three stores are the message, and the rest stays
      pub wrote : (c₁ c₂ c₃ : List ℕ) → c₁ ≡ sets b 0 (bytes_of length_width (length_of m.kind))
          → c₂ ≡ sets c₁ length_width (bytes_of kind_width m.kind)
          → c₃ ≡ sets c₂ (length_width + kind_width) (body_of (places_of m.kind) m.fields)
          → Writes b m (Ok (length_width + length_of m.kind)) c₃
      unfolding wrote_of written write_checks first_of is_done
      wrote c₁ c₂ c₃ e₁ e₂ e₃ =
          let room : length (encode m) ≤ length b = rw (encode_length m v) h in
          let e = le-ltb (length b) (length (encode m)) room in
          record {
            answers = rw (v, e, encode_length m v);
            leaves = rw (v, e) (rw (e₂, e₁) at e₃ ∙ stores_are_encode b m ∙ set_at_front b (encode m) room);
          }
