-- docs/BROADCAST.md, "A whole stream", byte for byte, and what its damages are heard as.
use Rattle.std.specs.Prelude.{◌≡◌, refl, Bool, true, false, List, [], ◌∷◌, ◌++◌, map, ℕ, pos, take, set}
use Rattle.paper.specs.Ranges.{unsigned}
use Rattle.paper.specs.Verdicts.{is_done, first_of}
use Rattle.sums.specs.Sums.{divided, bits_of, after_bits, after_bytes, sum_on, sum_of}
use Rattle.paper.specs.declared.Verdict.TheVariants.{Done}
use Rattle.paper_messages.specs.declared.Message.{Message}
use Rattle.paper_messages.specs.declared.ReaderAnswer.{ReaderAnswer}
use Rattle.paper_streams.specs.declared.Stream.{Stream}
use Rattle.paper_messages.specs.Broadcast.{sent, all_sent}
use Rattle.paper_messages.specs.Bytes.{bytes_of, spelled, complement, signed_of}
use Rattle.paper_messages.specs.Fields.{reasons_message_kind, session_message_kind, fields_of, filled, places_of}
use Rattle.paper_messages.specs.Messages.{body_of, total, length_of, encode, is_known_kind, in_ranges, valid}
use Rattle.paper_messages.specs.Messages.{values_at, message_at, read_checks, no_message, accepted_heard, heard_at}
use Rattle.paper_messages.specs.Messages.{answer_at}
use Rattle.paper_messages.specs.Records.{value_of, message}
use Rattle.paper_streams.specs.Streams.{begin_message, end_message, begun, ended, whole_stream, no_stream, end_fits_of}
use Rattle.paper_streams.specs.Streams.{number_in, stream_after, may_stand, is_whole_from, is_whole}
use Rattle.paper_streams.specs.Alone.{stands_alone}

-- ---- the messages

-- the price by its close, weight up, replacement yes, the tentative rate rose; the three levels by the three reasons
unfoldable pub reasons_told : Message
reasons_told =
    message reasons_message_kind
    (pos 7 ∷ pos 4 ∷ pos 1 ∷ pos 2 ∷ pos 1 ∷ pos 1 ∷ pos 1 ∷ pos 2 ∷ pos 3 ∷ [])

unfoldable pub session_told : Message
session_told = message session_message_kind (pos 7 ∷ pos 4 ∷ [])

unfoldable pub begin_bytes : List ℕ
begin_bytes = 6 ∷ 0 ∷ 0 ∷ 0 ∷ 6 ∷ 0 ∷ 1 ∷ 0 ∷ 0 ∷ 0 ∷ []

unfoldable pub reasons_bytes : List ℕ
reasons_bytes =
    17 ∷ 0 ∷ 0 ∷ 0 ∷ 5 ∷ 0 ∷ 7 ∷ 0 ∷ 0 ∷ 0 ∷ 4 ∷ 0 ∷ 0 ∷ 0 ∷ 1 ∷ 2 ∷ 1 ∷ 1 ∷ 1 ∷ 2 ∷ 3 ∷ []

unfoldable pub session_bytes : List ℕ
session_bytes = 10 ∷ 0 ∷ 0 ∷ 0 ∷ 8 ∷ 0 ∷ 7 ∷ 0 ∷ 0 ∷ 0 ∷ 4 ∷ 0 ∷ 0 ∷ 0 ∷ []

-- three messages stand before it, and their sum is 6E2210A1
unfoldable pub end_bytes : List ℕ
end_bytes = 14 ∷ 0 ∷ 0 ∷ 0 ∷ 7 ∷ 0 ∷ 3 ∷ 0 ∷ 0 ∷ 0 ∷ 0 ∷ 0 ∷ 0 ∷ 0 ∷ 161 ∷ 16 ∷ 34 ∷ 110 ∷ []

-- ---- a whole stream

unfoldable pub stream_of : List Message → List ℕ
unfolding whole_stream ended begun begin_message end_message all_sent sent message value_of encode body_of bytes_of complement
    signed_of length_of total places_of fields_of filled is_known_kind valid in_ranges sum_of sum_on after_bytes after_bits bits_of
    divided
stream_of ms = whole_stream ms

-- one of two messages; and one of none, whose sum, 80719C49, has its highest bit set
pub streams_are : (stream_of (reasons_told ∷ session_told ∷ []) ≡ begin_bytes ++ reasons_bytes ++ session_bytes ++ end_bytes)
    × (stream_of [] ≡ begin_bytes ++ 14 ∷ 0 ∷ 0 ∷ 0 ∷ 7 ∷ 0 ∷ 1 ∷ 0 ∷ 0 ∷ 0 ∷ 0 ∷ 0 ∷ 0 ∷ 0 ∷ 73 ∷ 156 ∷ 113 ∷ 128 ∷ [])
unfolding stream_of reasons_told session_told message filled begin_bytes reasons_bytes session_bytes end_bytes
streams_are = (refl, refl)

-- ---- what is heard as one whole stream

unfoldable pub heard_whole : List ℕ → Bool
unfolding is_whole is_whole_from number_in end_fits_of may_stand stream_after heard_at accepted_heard read_checks first_of is_done
    is_known_kind valid in_ranges message_at values_at spelled signed_of complement length_of total places_of fields_of filled
    unsigned sum_of sum_on after_bytes after_bits bits_of divided
heard_whole input = is_whole input

unfoldable pub damages : List (List ℕ)
unfolding begin_bytes reasons_bytes session_bytes end_bytes
damages =
    []  -- nothing at all
    ∷ (begin_bytes ++ session_bytes ++ end_bytes)  -- a message dropped
    ∷ (begin_bytes ++ reasons_bytes ++ session_bytes ++ session_bytes ++ end_bytes)  -- one doubled
    ∷ (begin_bytes ++ session_bytes ++ reasons_bytes ++ end_bytes)  -- two exchanged
    ∷ (reasons_bytes ++ session_bytes ++ end_bytes)  -- no `begin`
    ∷ (begin_bytes ++ begin_bytes ++ reasons_bytes ++ session_bytes ++ end_bytes)  -- a second `begin`
    ∷ (begin_bytes ++ reasons_bytes ++ session_bytes)  -- no `end`
    ∷ (begin_bytes ++ reasons_bytes ++ session_bytes ++ take 17 end_bytes)  -- its last byte lost
    ∷ (begin_bytes ++ reasons_bytes ++ session_bytes ++ end_bytes ++ session_bytes)  -- a message behind it
    ∷ (begin_bytes ++ set reasons_bytes 20 2 ++ session_bytes ++ end_bytes)  -- another reason
    ∷ (begin_bytes ++ reasons_bytes ++ set session_bytes 10 5 ++ end_bytes)  -- another day
    ∷ (begin_bytes ++ reasons_bytes ++ session_bytes ++ set end_bytes 6 4)  -- another count
    ∷ (begin_bytes ++ reasons_bytes ++ session_bytes ++ set end_bytes 17 111)  -- another sum
    ∷ (set begin_bytes 6 2 ++ reasons_bytes ++ session_bytes ++ end_bytes)  -- another version
    ∷ []

pub whole_are : (heard_whole (begin_bytes ++ reasons_bytes ++ session_bytes ++ end_bytes) ≡ true)
    × (heard_whole (begin_bytes ++ 14 ∷ 0 ∷ 0 ∷ 0 ∷ 7 ∷ 0 ∷ 1 ∷ 0 ∷ 0 ∷ 0 ∷ 0 ∷ 0 ∷ 0 ∷ 0 ∷ 73 ∷ 156 ∷ 113 ∷ 128 ∷ []) ≡ true)
    -- an unknown kind counts, and its bytes
    × (heard_whole (begin_bytes ++ (2 ∷ 0 ∷ 0 ∷ 0 ∷ 9 ∷ 0 ∷ []) ++ 14 ∷ 0 ∷ 0 ∷ 0 ∷ 7 ∷ 0 ∷ 2 ∷ 0 ∷ 0 ∷ 0 ∷ 0 ∷ 0 ∷ 0 ∷ 0 ∷ 45 ∷ 246 ∷ 223 ∷ 35 ∷ []) ≡ true)
    × (map heard_whole damages
    ≡ false ∷ false ∷ false ∷ false ∷ false ∷ false ∷ false ∷ false ∷ false ∷ false ∷ false ∷ false ∷ false ∷ false ∷ [])
unfolding heard_whole damages begin_bytes reasons_bytes session_bytes end_bytes
whole_are = (refl, refl, refl, refl)

-- ---- the number of an `end`

-- of a stream that has come so far, what is answered of the `end` of a whole one; 21, 22 and 23 come before 25
unfoldable pub end_judged : Stream → List ℕ → ℕ
unfolding number_in end_fits_of heard_at accepted_heard read_checks first_of is_done is_known_kind valid in_ranges
    message_at values_at spelled signed_of complement length_of total places_of fields_of filled unsigned
end_judged s bytes = number_in s (answer_at bytes 0)

abbrev pub come : (count sum : ℕ) → Stream
come count sum = record { began = true; count = count; sum = sum }

pub ends_are : (end_judged (come 3 1847726241) end_bytes ≡ 0)
    × (end_judged (come 4 1847726241) end_bytes ≡ 25)
    × (end_judged (come 3 1847726242) end_bytes ≡ 25)
    × (end_judged no_stream end_bytes ≡ 25)
    × (end_judged no_stream (take 17 end_bytes) ≡ 21)
    × (end_judged no_stream (set end_bytes 0 13) ≡ 22)
    × (end_judged no_stream (set end_bytes 13 128) ≡ 23)
    × (end_judged no_stream session_bytes ≡ 0)
unfolding end_judged end_bytes session_bytes
ends_are = (refl, refl, refl, refl, refl, refl, refl, refl)

-- ---- what counts is the kind that is heard

-- an answer of a kind with no message, as no reader gives it of `begin` and `end`: what begins and ends a stream is the
-- kind
unfoldable pub of_kind : ℕ → ReaderAnswer
of_kind kind = record { verdict = Done; known = false; kind = kind; length = 2; next = 6; message = no_message }

pub kinds_heard_are : (stream_after no_stream (of_kind 6) [] ≡ come 1 0)
    × (stream_after (come 3 5) (of_kind 7) [] ≡ no_stream)
    × (number_in (come 3 5) (of_kind 6) ≡ 0)
    × (number_in (come 3 5) (of_kind 7) ≡ 25)
    × (may_stand no_stream (of_kind 6) ≡ true)
    × (may_stand (come 3 5) (of_kind 6) ≡ false)
    × (stands_alone 0 no_stream (of_kind 6) ≡ true)
    × (stands_alone 6 (come 3 5) (of_kind 6) ≡ false)
unfolding of_kind number_in end_fits_of stream_after may_stand stands_alone is_done sum_of sum_on after_bytes unsigned
    complement
kinds_heard_are = (refl, refl, refl, refl, refl, refl, refl, refl)
