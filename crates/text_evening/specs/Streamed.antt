-- docs/BROADCAST.md, "What `broadcast` writes": the messages of an evening's lines as one whole stream, and how far a
-- stream is told while lines come.
use Rattle.std.specs.Prelude.{true, List, ℕ, ◌+◌, min}
use Rattle.sums.specs.Sums.{sum_on, sum_of}
use Rattle.paper_messages.specs.Messages.{encode}
use Rattle.paper_streams.specs.declared.Stream.{Stream}
use Rattle.paper_streams.specs.Streams.{begin_message, whole_stream}
use Rattle.text_evening.specs.declared.Telling.{Telling}
use Rattle.text_evening.specs.declared.Telling.TheVariants.{Answers, Reasons, Messages}
use Rattle.text_evening.specs.Evening.{Evening, last_number, all_messages}

-- WHAT `broadcast` WRITES of lines, from the line `from` on, where its input has ended and every line was heard
unfoldable pub stream_of : (from : ℕ) → (lines : List (List ℕ)) → Evening → List ℕ
stream_of from lines e = whole_stream (all_messages (Messages from) lines e)

-- ---- while lines come

-- behind `begin`
unfoldable pub begun_stream : Stream
begun_stream = record { began = true; count = 1; sum = sum_of (encode begin_message) }

-- behind so many messages more, of these bytes: they are counted as far as 64 bits count. Where lines are told in words
-- there is no stream
unfoldable pub stream_on : Telling → Stream → (count : ℕ) → (bytes : List ℕ) → Stream
stream_on Answers s count bytes = s
stream_on Reasons s count bytes = s
stream_on (Messages from) s count bytes =
    record { began = s.began; count = min (s.count + count) last_number; sum = sum_on s.sum bytes }
