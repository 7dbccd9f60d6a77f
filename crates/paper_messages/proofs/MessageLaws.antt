-- The laws of a whole message, for every kind: how long it is, that it reads back, and that it is the only encoding of
-- its fields.
use mathlib.Core.Path.{◌≡◌, refl, sym, ap, ◌∙◌}
use mathlib.Core.Bool.{Bool, true, false, ◌&&◌}
use mathlib.Core.List.{List, ◌++◌, append_assoc}
use Prim.Native.Nat.{ℕ, ◌+◌, ◌≤◌}
use native.Mathlib.Omega.{arith}
use lib.Dec.{eqb, leb}
use lib.ListN.{length, take, drop, length-append, length-drop}
use lib.Seq.{take_at, drop_at, take-add, length-take-le, drop-append_seam}
use borrow.Author.Tests.{leb-true, le-ltb, eq-eqb, eqb-true, ltb-false, not-false}
use Rattle.paper.specs.declared.Verdict.{Verdict}
use Rattle.paper.specs.declared.Verdict.TheVariants.{Done}
use Rattle.paper.specs.Lists.{pick, every}
use Rattle.paper.specs.Ranges.{within}
use Rattle.paper.specs.Verdicts.{first_of, is_done, NoneApplies, none, also, all_refusals}
use Rattle.paper.proofs.Logic.{and_left, and_right, and_right_false}
use Rattle.paper_desk.proofs.Refusals.{done_is, done_means_none_applies}
use Rattle.paper_messages.specs.declared.Message.{Message}
use Rattle.paper_messages.specs.Bytes.{Bytes, bytes_of, spelled}
use Rattle.paper_messages.specs.Fields.{kinds_count, places, places_of}
use Rattle.paper_messages.specs.Messages.{length_width, kind_width, body_of, total, length_of, encode, is_known_kind}
use Rattle.paper_messages.specs.Messages.{in_ranges, valid, length_least, length_most, length_at, kind_at, message_at}
use Rattle.paper_messages.specs.Messages.{values_at, read_checks, AcceptedBytes, accepted_heard}
use Rattle.paper_messages.specs.Messages.{heard_at}
use Rattle.paper_messages.proofs.ByteLaws.{take_bytes, drop_bytes, bytes_length, bytes_back, bytes_only}
use Rattle.paper_messages.proofs.FieldLaws.{body_length, in_ranges_has_values, body_back, body_only, kinds_hold}
use Rattle.paper_messages.proofs.FieldLaws.{kinds_have_places, kinds_length_in_range}
use Rattle.paper_messages.specs.Messages.{known_heard, message_heard, next_heard, verdict_of}
use Rattle.std.specs.Prelude.{Ok, Err, Some, None, is_some}

-- ---- what a valid message is

module _ (m : Message) (v : valid m ≡ true) where
  pub valid_is_known : is_known_kind m.kind ≡ true
  unfolding valid
  valid_is_known =
      and_left (is_known_kind m.kind) _
      (and_left (is_known_kind m.kind && in_ranges (places_of m.kind) m.fields) _ v)

  pub valid_is_in_ranges : in_ranges (places_of m.kind) m.fields ≡ true
  unfolding valid
  valid_is_in_ranges =
      and_right (is_known_kind m.kind) _
      (and_left (is_known_kind m.kind && in_ranges (places_of m.kind) m.fields) _ v)

  -- four bytes of length, and so many as it says
  pub encode_length : length (encode m) ≡ length_width + length_of m.kind
  unfolding encode length_of bytes_of total
  encode_length =
      let body : List ℕ = body_of (places_of m.kind) m.fields in
      let enough = in_ranges_has_values (places_of m.kind) m.fields valid_is_in_ranges in
      let head : List ℕ = bytes_of length_width (kind_width + total (places_of m.kind)) in
      let kind : List ℕ = bytes_of kind_width m.kind in
      rw (
        length-append head (kind ++ body),
        length-append kind body,
        bytes_length length_width (kind_width + total (places_of m.kind)),
        bytes_length kind_width m.kind,
        body_length (places_of m.kind) m.fields enough,
      )

-- ---- what is heard

-- a message is heard where no check applies
pub heard_accepted : (b : List ℕ) (at : ℕ) → first_of (read_checks (drop at b)) ≡ Done
    → heard_at b at ≡ accepted_heard at (drop at b)
unfolding heard_at is_done
heard_accepted b at e = rw e

-- the number that is answered is the first that applies
pub heard_verdict : (b : List ℕ) (at : ℕ) → verdict_of (heard_at b at) ≡ first_of (read_checks (drop at b))
unfolding heard_at accepted_heard
heard_verdict b at = go (first_of (read_checks (drop at b))) (is_done (first_of (read_checks (drop at b)))) refl
  where
    go : (v : Verdict) (t : Bool) → is_done v ≡ t
        → verdict_of (pick t (accepted_heard at (drop at b)) (Err v)) ≡ v
    go v true e = sym (done_is v e)
    go v false e = refl

-- ---- what is written reads back

module _ (m : Message) (v : valid m ≡ true) (full : length m.fields ≡ places) (rest : List ℕ) where
  head : List ℕ
  head = bytes_of length_width (length_of m.kind)

  tag : List ℕ
  tag = bytes_of kind_width m.kind

  body : List ℕ
  body = body_of (places_of m.kind) m.fields

  encode_in_parts : encode m ++ rest ≡ head ++ (tag ++ (body ++ rest))
  unfolding encode head tag body
  encode_in_parts = simp append_assoc

  length_said : length_at (encode m ++ rest) ≡ length_of m.kind
  unfolding head
  length_said =
      let small : length_of m.kind ≤ length_most =
      leb-true (length_of m.kind) length_most
      (and_right (leb length_least (length_of m.kind)) _ (kinds_length_in_range m.kind)) in
      rw (
        encode_in_parts,
        take_at head (tag ++ (body ++ rest)) length_width (bytes_length length_width (length_of m.kind)),
      )
      (bytes_back length_width (length_of m.kind) (omega arith))

  kind_said : kind_at (encode m ++ rest) ≡ m.kind
  unfolding head tag is_known_kind
  kind_said =
      let most : m.kind ≤ kinds_count = leb-true m.kind kinds_count
      (and_right (leb 1 m.kind) (leb m.kind kinds_count) (valid_is_known m v)) in
      rw (
        encode_in_parts,
        drop_at head (tag ++ (body ++ rest)) length_width (bytes_length length_width (length_of m.kind)),
        take_at tag (body ++ rest) kind_width (bytes_length kind_width m.kind),
      ) (bytes_back kind_width m.kind (omega arith))

  body_behind : drop (length_width + kind_width) (encode m ++ rest) ≡ body ++ rest
  unfolding head tag
  body_behind =
      let six : length (head ++ tag) ≡ length_width + kind_width =
      rw (length-append head tag, bytes_length length_width (length_of m.kind), bytes_length kind_width m.kind) in
      rw (
        encode_in_parts,
        ← (append_assoc head tag (body ++ rest)),
        drop_at (head ++ tag) (body ++ rest) (length_width + kind_width) six,
      )

  message_said : message_at (encode m ++ rest) ≡ m
  unfolding message_at body
  message_said =
      let values : values_at (places_of m.kind) (body ++ rest) ≡ m.fields =
      body_back (places_of m.kind) m.fields (kinds_have_places m.kind ∙ sym full) (kinds_hold m.kind)
      (valid_is_in_ranges m v) rest in
      rw (kind_said, body_behind, values)

  -- no check applies to it
  first_done : first_of (read_checks (encode m ++ rest)) ≡ Done
  unfolding read_checks first_of
  first_done =
      let n : ℕ = length (encode m ++ rest) in
      let long : n ≡ length_width + length_of m.kind + length rest =
      rw (length-append (encode m) rest, encode_length m v) in
      let four : length_width ≤ n = omega arith in
      let all : length_width + length_of m.kind ≤ n = omega arith in
      rw (
        le-ltb n length_width four,
        length_said,
        kinds_length_in_range m.kind,
        le-ltb n (length_width + length_of m.kind) all,
        kind_said,
        valid_is_known m v,
        eq-eqb (length_of m.kind) (length_of m.kind) refl,
        message_said,
        v,
      )

  accepted_is : (place : ℕ)
      → accepted_heard place (encode m ++ rest)
      ≡ Ok (record {
        kind = m.kind;
        length = length_of m.kind;
        next = place + length (encode m);
        message = Some m;
      })
  unfolding accepted_heard
  accepted_is place = rw (length_said, kind_said, valid_is_known m v, message_said, encode_length m v)

  -- it is heard at any place, whatever stands before it and behind it
  pub reads_back : (front : List ℕ)
      → heard_at (front ++ (encode m ++ rest)) (length front)
      ≡ Ok (record {
        kind = m.kind;
        length = length_of m.kind;
        next = length front + length (encode m);
        message = Some m;
      })
  reads_back front =
      heard_accepted (front ++ (encode m ++ rest)) (length front) none_first
      ∙ rw (drop-append_seam front (encode m ++ rest)) all
    where
      all : accepted_heard (length front) (encode m ++ rest)
          ≡ Ok (record {
            kind = m.kind;
            length = length_of m.kind;
            next = length front + length (encode m);
            message = Some m;
          })
      all = accepted_is (length front)

      none_first : first_of (read_checks (drop (length front) (front ++ (encode m ++ rest)))) ≡ Done
      none_first = rw (drop-append_seam front (encode m ++ rest)) first_done

-- ---- an accepted message is the only encoding of its fields

pub done_means_accepted : (bytes : List ℕ) → first_of (read_checks bytes) ≡ Done → AcceptedBytes bytes
unfolding read_checks all_refusals every is_done
done_means_accepted bytes e = of (done_means_none_applies (read_checks bytes) refl (ap is_done e))
  where
    of : NoneApplies (read_checks bytes) → AcceptedBytes bytes
    of (also a (also b (also c (also d (also f none))))) =
        record {
          follows = ltb-false (length bytes) (length_width + length_at bytes) c;
          in_length = not-false (within length_least length_most (length_at bytes)) b;
          right =
              λ k.
              eqb-true (length_at bytes) (length_of (kind_at bytes))
              (not-false (eqb (length_at bytes) (length_of (kind_at bytes)))
              (and_right_false (is_known_kind (kind_at bytes)) _ d k));
          in_range_lem =
              λ k. not-false (valid (message_at bytes)) (and_right_false (is_known_kind (kind_at bytes)) _ f k);
        }

-- three parts one behind the other
three_parts : (a b c : ℕ) (s : List ℕ) → take a s ++ take b (drop a s) ++ take c (drop (a + b) s) ≡ take (a + (b + c)) s
three_parts a b c s =
    let e : a + (b + c) ≡ a + b + c = omega arith in
    rw e (sym (take-add (a + b) c s ∙ ap (λ (l : List ℕ). l ++ take c (drop (a + b) s)) (take-add a b s)))

module _ (bytes : List ℕ) (all : Bytes bytes) (a : AcceptedBytes bytes) (k : is_known_kind (kind_at bytes) ≡ true) where
  number_back : (width : ℕ) (part : List ℕ) → Bytes part → width ≤ length part
      → bytes_of width (spelled (take width part)) ≡ take width part
  number_back width part b h =
      rw (length-take-le width part h) at (bytes_only (take width part) (take_bytes width part b))

  pub only_encoding : encode (message_at bytes) ≡ take (length_width + length_at bytes) bytes
  unfolding encode message_at length_of
  only_encoding =
      let n : length_at bytes ≡ kind_width + total (places_of (kind_at bytes)) = a.right k in
      let behind : List ℕ = drop length_width bytes in
      let last : List ℕ = drop (length_width + kind_width) bytes in
      let room : length_width + (kind_width + total (places_of (kind_at bytes))) ≤ length bytes = rw n at a.follows in
      let in-behind : kind_width ≤ length behind = rw (length-drop length_width bytes) (omega arith) in
      let in-last : total (places_of (kind_at bytes)) ≤ length last =
      rw (length-drop (length_width + kind_width) bytes) (omega arith) in
      let e₁ : bytes_of length_width (kind_width + total (places_of (kind_at bytes))) ≡ take length_width bytes =
      rw n at (number_back length_width bytes all (omega arith)) in
      let e₂ : bytes_of kind_width (kind_at bytes) ≡ take kind_width behind =
      number_back kind_width behind (drop_bytes length_width bytes all) in-behind in
      let e₃ : body_of (places_of (kind_at bytes)) (values_at (places_of (kind_at bytes)) last)
      ≡ take (total (places_of (kind_at bytes))) last =
      body_only (places_of (kind_at bytes)) last (drop_bytes (length_width + kind_width) bytes all) in-last in
      rw (e₁, e₂, e₃, n) (three_parts length_width kind_width (total (places_of (kind_at bytes))) bytes)

-- there is a message where the kind is known
pub some_picked : (known : Bool) (m : Message) → is_some (pick known (Some m) None) ≡ known
some_picked true m = refl
some_picked false m = refl

-- of what the reader hears in a buffer of bytes: a message of a known kind is valid, and the bytes from the place on to
-- the next are its encoding
pub heard_only : (b : List ℕ) (at : ℕ) → Bytes b → verdict_of (heard_at b at) ≡ Done → known_heard (heard_at b at) ≡ true
    → let m = message_heard (heard_at b at) in
    (valid m ≡ true) × (encode m ≡ take (length (encode m)) (drop at b)) × (next_heard (heard_at b at) ≡ at + length (encode m))
unfolding accepted_heard
heard_only b at all e known =
    let bytes : List ℕ = drop at b in
    let first : first_of (read_checks bytes) ≡ Done = sym (heard_verdict b at) ∙ e in
    let is : heard_at b at ≡ accepted_heard at bytes = heard_accepted b at first in
    let k : is_known_kind (kind_at bytes) ≡ true =
    sym (ap known_heard is ∙ some_picked (is_known_kind (kind_at bytes)) (message_at bytes)) ∙ known in
    let a : AcceptedBytes bytes = done_means_accepted bytes first in
    let m-is : message_heard (heard_at b at) ≡ message_at bytes = ap message_heard is ∙ said k in
    let only : encode (message_at bytes) ≡ take (length_width + length_at bytes) bytes =
    only_encoding bytes (drop_bytes at b all) a k in
    let long : length (encode (message_at bytes)) ≡ length_width + length_at bytes =
    ap length only ∙ length-take-le (length_width + length_at bytes) bytes a.follows in
    rw (m-is, long) (a.in_range_lem k, only, ap next_heard is)
  where
    said : is_known_kind (kind_at (drop at b)) ≡ true → message_heard (accepted_heard at (drop at b)) ≡ message_at (drop at b)
    said k = rw k
