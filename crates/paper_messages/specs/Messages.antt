-- W-212: "Send each record as a message: a four-byte length of what follows, little-endian, a two-byte kind, then the
-- fields at fixed widths". What a message's bytes are, when a message is valid, what the writer answers and leaves, and
-- what the reader hears.
use Rattle.std.specs.Prelude.{◌≡◌, Bool, true, false, not, ◌&&◌, List, [], ◌∷◌, ◌++◌, ℕ, ◌+◌, ◌≤◌, leb, ltb, eqb, ℤ, pos, length, take, drop, replicate}
use Rattle.std.specs.Prelude.{Some, None, is_some, unwrap_or, Result, Ok, Err}
use Rattle.paper.specs.declared.Verdict.{Verdict}
use Rattle.paper.specs.declared.Verdict.TheVariants.{Done, CutShort, WrongLength, FieldOutOfRange, NoRoom}
use Rattle.paper.specs.Lists.{pick}
use Rattle.paper.specs.Numbers.{id_most}
use Rattle.paper.specs.Ranges.{within, within_z, unsigned_at, given_of, valid_given}
use Rattle.paper.specs.Verdicts.{Check, first_of, is_done}
use Rattle.paper_messages.specs.declared.Field.{Field}
use Rattle.paper_messages.specs.declared.Message.{Message}
use Rattle.paper_messages.specs.declared.Heard.{Heard}
use Rattle.paper_messages.specs.declared.ReaderAnswer.{ReaderAnswer}
use Rattle.paper_messages.specs.Bytes.{width_most, fits_width, bytes_of, spelled, complement, signed_of}
use Rattle.paper_messages.specs.Fields.{statics_message_kind, kinds_count, places, places_of}

-- what the writer and the reader answer: what they did, or the number of their refusal. The number of what is not
-- refused is 0
abbrev pub verdict_of : {A : Type 0} → Result A Verdict → Verdict
verdict_of (Ok x) = Done
verdict_of (Err v) = v

-- ---- the bytes of a message

-- "a four-byte length of what follows, little-endian, a two-byte kind"
abbrev pub length_width : ℕ
length_width = 4

abbrev pub kind_width : ℕ
kind_width = 2

-- "then the fields at fixed widths"
unfoldable pub body_of : List Field → (values : List ℤ) → List ℕ
body_of [] values = []
body_of (f ∷ fields) [] = []
body_of (f ∷ fields) (z ∷ values) = bytes_of f.width (complement f.width z) ++ body_of fields values

-- how many bytes fields take
unfoldable pub total : List Field → ℕ
total [] = 0
total (f ∷ fields) = f.width + total fields

-- what the length of a kind's messages is: that of the kind and the fields
unfoldable pub length_of : (kind : ℕ) → ℕ
length_of kind = kind_width + total (places_of kind)

unfoldable pub encode : Message → List ℕ
encode m =
    bytes_of length_width (length_of m.kind)
    ++ bytes_of kind_width m.kind
    ++ body_of (places_of m.kind) m.fields

-- ---- when a message is valid

unfoldable pub is_known_kind : (kind : ℕ) → Bool
is_known_kind kind = within 1 kinds_count kind

-- each value in its field's range
unfoldable pub in_ranges : List Field → (values : List ℤ) → Bool
in_ranges [] values = true
in_ranges (f ∷ fields) [] = false
in_ranges (f ∷ fields) (z ∷ values) = within_z f.low f.high z && in_ranges fields values

-- a width holds a field's range. It is a law of every kind (proofs/FieldLaws), and what lets a value read back
unfoldable pub holds_range : Field → Bool
holds_range f =
    leb f.width width_most && fits_width f.width f.low && fits_width f.width f.high

-- kind 1, an id and then the statics in the order of their table, is judged as an admission judges them: orders and
-- multiples of h too
unfoldable pub as_admission : (values : List ℤ) → Bool
as_admission values = within 1 id_most (unsigned_at values 0) && valid_given (given_of (drop 1 values))

-- a known kind, every value in its range, zeros past the last field, and the rule of kind 1
unfoldable pub valid : Message → Bool
valid m =
    is_known_kind m.kind
    && in_ranges (places_of m.kind) m.fields
    && pick (eqb m.kind statics_message_kind) (as_admission m.fields) true

-- ---- the writer

-- "The writer gives 23, then 24, no room, exactly when the message is longer than the buffer"
unfoldable pub write_checks : (buffer : List ℕ) → Message → List Check
write_checks buffer m =
    record { verdict = FieldOutOfRange; applies = not (valid m) }
    ∷ record { verdict = NoRoom; applies = ltb (length buffer) (length (encode m)) }
    ∷ []

-- how many bytes it wrote, or the number of a refusal
unfoldable pub wrote_of : (buffer : List ℕ) → Message → Result ℕ Verdict
wrote_of buffer m =
    let v : Verdict = first_of (write_checks buffer m) in
    pick (is_done v) (Ok (length (encode m))) (Err v)

-- the buffer after it: the message and then what stood there; a refusal leaves it untouched
unfoldable pub written : (buffer : List ℕ) → Message → List ℕ
written buffer m =
    pick (is_done (first_of (write_checks buffer m))) (encode m ++ drop (length (encode m)) buffer) buffer

-- ---- the reader

-- the values that stand at these fields
unfoldable pub values_at : List Field → (bytes : List ℕ) → List ℤ
values_at [] bytes = []
values_at (f ∷ fields) bytes =
    signed_of f.width (spelled (take f.width bytes)) ∷ values_at fields (drop f.width bytes)

-- the length, the kind and the message that bytes begin with
abbrev pub length_at : (bytes : List ℕ) → ℕ
length_at bytes = spelled (take length_width bytes)

abbrev pub kind_at : (bytes : List ℕ) → ℕ
kind_at bytes = spelled (take kind_width (drop length_width bytes))

unfoldable pub message_at : (bytes : List ℕ) → Message
message_at bytes =
    record {
      kind = kind_at bytes;
      fields = values_at (places_of (kind_at bytes)) (drop (length_width + kind_width) bytes);
    }

-- "its length, 2 to 4,096"
abbrev pub length_least : ℕ
length_least = 2

abbrev pub length_most : ℕ
length_most = 4096

-- "A length outside 2 to 4,096 is 22 at once, otherwise 21 comes first, then 22, then 23." Fewer bytes than a length
-- has are a message cut short; an unknown kind has no length that is wrong for it, and no field
unfoldable pub read_checks : (bytes : List ℕ) → List Check
read_checks bytes =
    record { verdict = CutShort; applies = ltb (length bytes) length_width }
    ∷ record { verdict = WrongLength; applies = not (within length_least length_most (length_at bytes)) }
    ∷ record { verdict = CutShort; applies = ltb (length bytes) (length_width + length_at bytes) }
    ∷ record {
      verdict = WrongLength;
      applies = is_known_kind (kind_at bytes) && not (eqb (length_at bytes) (length_of (kind_at bytes)));
    }
    ∷ record { verdict = FieldOutOfRange; applies = is_known_kind (kind_at bytes) && not (valid (message_at bytes)) }
    ∷ []

-- what no check applies to: a whole message, and of a known kind one of its length, with valid fields
pub record AcceptedBytes (bytes : List ℕ) : Type 0 where
  pub follows : length_width + length_at bytes ≤ length bytes
  pub in_length : within length_least length_most (length_at bytes) ≡ true
  pub right : is_known_kind (kind_at bytes) ≡ true → length_at bytes ≡ length_of (kind_at bytes)
  pub in_range_lem : is_known_kind (kind_at bytes) ≡ true → valid (message_at bytes) ≡ true

abbrev pub no_message : Message
no_message = record { kind = 0; fields = replicate places (pos 0) }

-- what the reader answers at a place
abbrev pub Hearing : Type 0
Hearing = Result Heard Verdict

-- the parts of what is heard; a refusal has zeros, and an unknown kind no message
abbrev pub kind_heard : Hearing → ℕ
kind_heard (Ok h) = h.kind
kind_heard (Err v) = 0

abbrev pub length_heard : Hearing → ℕ
length_heard (Ok h) = h.length
length_heard (Err v) = 0

abbrev pub next_heard : Hearing → ℕ
next_heard (Ok h) = h.next
next_heard (Err v) = 0

abbrev pub known_heard : Hearing → Bool
known_heard (Ok h) = is_some h.message
known_heard (Err v) = false

abbrev pub message_heard : Hearing → Message
message_heard (Ok h) = unwrap_or h.message no_message
message_heard (Err v) = no_message

-- the same in one record: of a refusal, its number and zeros
unfoldable pub refused_heard : Verdict → ReaderAnswer
refused_heard v = record { verdict = v; known = false; kind = 0; length = 0; next = 0; message = no_message }

-- and of all that is heard
abbrev pub answer_of : Hearing → ReaderAnswer
answer_of h =
    record {
      verdict = verdict_of h;
      known = known_heard h;
      kind = kind_heard h;
      length = length_heard h;
      next = next_heard h;
      message = message_heard h;
    }

-- a message that is not refused: "A reader meeting an unknown kind skips it by its length .. and says so", and the next
-- one begins behind it
unfoldable pub accepted_heard : (place : ℕ) → (bytes : List ℕ) → Hearing
accepted_heard place bytes =
    Ok (record {
      kind = kind_at bytes;
      length = length_at bytes;
      next = place + (length_width + length_at bytes);
      message = pick (is_known_kind (kind_at bytes)) (Some (message_at bytes)) None;
    })

-- what the reader hears at a place of a lent buffer
unfoldable pub heard_at : (buffer : List ℕ) → (place : ℕ) → Hearing
heard_at buffer place =
    let bytes : List ℕ = drop place buffer in
    let v : Verdict = first_of (read_checks bytes) in
    pick (is_done v) (accepted_heard place bytes) (Err v)

-- and the same in one record
abbrev pub answer_at : (buffer : List ℕ) → (place : ℕ) → ReaderAnswer
answer_at buffer place = answer_of (heard_at buffer place)
