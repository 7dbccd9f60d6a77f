-- docs/BROADCAST.md, "A whole stream": `begin`, messages, and an `end` that says how many messages stand before it and
-- the sum of their bytes. What such a stream is as bytes, how far a stream is heard, what the reader answers of an `end`
-- (25), and when an input is one whole stream.
use Rattle.std.specs.Prelude.{Bool, true, false, not, ◌&&◌, List, [], ◌∷◌, ◌++◌, ℕ, zero, suc, ◌-◌, eqb, pos, length, take, drop, get_or}
use Rattle.paper.specs.Lists.{pick}
use Rattle.paper.specs.Ranges.{unsigned_at}
use Rattle.paper.specs.Verdicts.{number_of, is_done}
use Rattle.sums.specs.Sums.{sum_on, sum_of}
use Rattle.paper_messages.specs.declared.Message.{Message}
use Rattle.paper_messages.specs.declared.ReaderAnswer.{ReaderAnswer}
use Rattle.paper_streams.specs.declared.Stream.{Stream}
use Rattle.paper_messages.specs.Broadcast.{all_sent}
use Rattle.paper_messages.specs.Bytes.{complement, signed_of}
use Rattle.paper_messages.specs.Fields.{begin_message_kind, end_message_kind, stream_version, sum_width}
use Rattle.paper_messages.specs.Messages.{Hearing, encode, message_heard, answer_at}
use Rattle.paper_messages.specs.Records.{value_of, message}

-- ---- the writer: what a whole stream is

unfoldable pub begin_message : Message
begin_message = message begin_message_kind (pos stream_version ∷ [])

-- how many messages stand before it, and the sum of their bytes
unfoldable pub end_message : (count sum : ℕ) → Message
end_message count sum = message end_message_kind (value_of count ∷ signed_of sum_width sum ∷ [])

-- `begin`, and messages
unfoldable pub begun : List Message → List ℕ
begun ms = encode begin_message ++ all_sent ms

-- with an `end` that says so much
unfoldable pub ended : List Message → (count sum : ℕ) → List ℕ
ended ms count sum = begun ms ++ encode (end_message count sum)

-- THE WHOLE STREAM of messages
unfoldable pub whole_stream : List Message → List ℕ
whole_stream ms = ended ms (suc (length ms)) (sum_of (begun ms))

-- ---- the reader: how far a stream is heard

abbrev pub no_stream : Stream
no_stream = record { began = false; count = 0; sum = 0 }

-- the kind of the message that is heard: 0 of a refusal and of an unknown kind
abbrev pub known_kind : Hearing → ℕ
known_kind h = (message_heard h).kind

abbrev pub is_begin : ReaderAnswer → Bool
is_begin h = eqb h.kind begin_message_kind

abbrev pub is_end : ReaderAnswer → Bool
is_end h = eqb h.kind end_message_kind

-- what an `end` says
abbrev pub count_said : Message → ℕ
count_said m = unsigned_at m.fields 0

abbrev pub sum_said : Message → ℕ
sum_said m = complement sum_width (get_or m.fields 1 (pos 0))

-- the stream began, and the `end` says what came of it
unfoldable pub end_fits_of : Stream → Message → Bool
end_fits_of s m = s.began && eqb (count_said m) s.count && eqb (sum_said m) s.sum

-- the number of an `end` that does not fit its stream
abbrev pub not_whole : ℕ
not_whole = 25

-- THE NUMBER THAT IS ANSWERED: 21, 22 and 23 as of every message, and then 25
unfoldable pub number_in : Stream → ReaderAnswer → ℕ
number_in s h =
    pick (is_done h.verdict) (pick (is_end h && not (end_fits_of s h.message)) not_whole 0) (number_of h.verdict)

-- how far the stream is heard behind a message of these bytes: `begin` begins one, `end` ends it, and between them every
-- message counts, an unknown one too. What no `begin` stands before is counted by nobody
unfoldable pub stream_after : Stream → ReaderAnswer → (bytes : List ℕ) → Stream
stream_after s h bytes =
    pick (is_begin h) (record { began = true; count = 1; sum = sum_of bytes })
    (pick (is_end h) no_stream
    (pick s.began (record { began = true; count = suc s.count; sum = sum_on s.sum bytes }) s))

-- the bytes of the message at a place
abbrev pub bytes_at : (input : List ℕ) → (place : ℕ) → ReaderAnswer → List ℕ
bytes_at input place h = take (h.next - place) (drop place input)

-- ---- ONE WHOLE STREAM

-- whether a message may stand where the stream is so far: `begin` first, and every other behind it
unfoldable pub may_stand : Stream → ReaderAnswer → Bool
may_stand s h = pick (is_begin h) (not s.began) s.began

-- from a place on, in at most so many messages: nothing is refused, `begin` stands first and nowhere else, and `end`
-- last
unfoldable pub is_whole_from : (most : ℕ) → (input : List ℕ) → (place : ℕ) → Stream → Bool
is_whole_from zero input place s = false
is_whole_from (suc most) input place s =
    let h : ReaderAnswer = answer_at input place in
    eqb (number_in s h) 0
    && pick (is_end h) (eqb h.next (length input))
    (may_stand s h
    && is_whole_from most input h.next (stream_after s h (bytes_at input place h)))

-- a message has bytes, so that no input has more messages than bytes
unfoldable pub is_whole : (input : List ℕ) → Bool
is_whole input = is_whole_from (length input) input 0 no_stream

-- the messages of a known kind from a place on, up to the end of the input or a refusal
unfoldable pub messages_from : (most : ℕ) → (input : List ℕ) → (place : ℕ) → List Message
messages_from zero input place = []
messages_from (suc most) input place =
    let h : ReaderAnswer = answer_at input place in
    pick (is_done h.verdict)
    (pick h.known (h.message ∷ []) [] ++ messages_from most input h.next) []

unfoldable pub messages_in : (input : List ℕ) → List Message
messages_in input = messages_from (length input) input 0
