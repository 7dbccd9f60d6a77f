-- W-212, the program `listen`, step by step: a step hears the message at its place, or says of a stream that it has no
-- end, or reads on where the message is not whole yet, or is the last. What is delivered and what is handed over is
-- what the evidence in the state says.
use Rattle.std.specs.Prelude.{◌≡◌, ◌⊎◌, Bool, true, false, not, ◌&&◌, ◌||◌, List, [], ◌++◌, ℕ, ◌+◌, ◌-◌, ◌*◌, ◌≤◌, ◌<◌, eqb, ltb, length, take, drop}
use Rattle.paper.specs.declared.Verdict.TheVariants.{CutShort}
use Rattle.paper.specs.Verdicts.{number_of}
use Rattle.paper_messages.specs.declared.ReaderAnswer.{ReaderAnswer}
use Rattle.paper_messages.specs.Messages.{answer_at}
use Rattle.paper_streams.specs.declared.Stream.{Stream}
use Rattle.paper_streams.specs.Streams.{no_stream, is_begin, number_in, stream_after}
use Rattle.paper_streams.specs.Alone.{stands_alone}
use Rattle.text_bytes.specs.Bytes.{room}
use Rattle.text_out.specs.Wrote.{Wrote}
use Rattle.text_evidence.specs.Evidence.{count_most, Counted, unread, has_ended, has_failed, unwritten, took_all, Hands}
use Rattle.listen_lines.specs.Lines.{line_of, unended_line, line_most}
use Rattle.listen_serve.specs.declared.Feed.{Feed}
use Rattle.listen_serve.specs.declared.Listening.{Listening}

-- ---- what is kept of the streams

-- at the start no stream began, and nothing stands that may not
abbrev pub start_feed : Feed
start_feed = record { stream = no_stream; alone = true }

-- behind a message of these bytes at a place of the input
unfoldable pub feed_after : Feed → (place : ℕ) → ReaderAnswer → (bytes : List ℕ) → Feed
feed_after f place h bytes =
    record {
      stream = stream_after f.stream h bytes;
      alone = f.alone && stands_alone place f.stream h;
    }

-- where the input is not one whole stream
abbrev pub not_alone : Stream → Feed
not_alone stream = record { stream = stream; alone = false }

-- ---- the state

-- at the start nothing is delivered, no line waits, and nothing was handed over
abbrev pub start_listening : Listening
start_listening =
    record {
      at = 0;
      len = 0;
      waiting = 0;
      over = false;
      feed = start_feed;
      read = unread;
      told = unwritten;
    }

-- the bytes that are delivered and not heard yet
unfoldable pub unheard : (buffer : List ℕ) → Listening → List ℕ
unheard b s = take (s.len - s.at) (drop s.at b)

-- where they begin in the input, from 0
abbrev pub place_of : Listening → ℕ
place_of s = s.read.all - (s.len - s.at)

-- what is heard there, of what is delivered
abbrev pub heard_in : (buffer : List ℕ) → Listening → ReaderAnswer
heard_in b s = answer_at (take s.len b) s.at

-- the number that is answered of what is heard, and whether it is accepted
abbrev pub number_on : Listening → ReaderAnswer → ℕ
number_on s h = number_in s.feed.stream h

abbrev pub accepts : Listening → ReaderAnswer → Bool
accepts s h = eqb (number_on s h) 0

-- a `begin` within a stream: the stream has no end
abbrev pub breaks_off : Listening → ReaderAnswer → Bool
breaks_off s h = s.feed.stream.began && is_begin h

-- a message that is cut short: more bytes may make it whole
abbrev pub is_cut : ReaderAnswer → Bool
is_cut h = eqb (number_of h.verdict) (number_of CutShort)

-- how the two buffers stand between steps; a write that failed is the last. A message has bytes, so that a stream has
-- no more messages than bytes were heard
pub record Stands (b : List ℕ) (s : Listening) : Type 0 where
  pub low : s.at ≤ s.len
  pub in_b : s.len ≤ room
  pub long : length b ≡ room
  pub count : s.len - s.at ≤ s.read.all
  pub most : s.read.all ≤ count_most
  pub counted : s.feed.stream.count + (s.len - s.at) ≤ s.read.all
  pub space : s.waiting + line_most ≤ room
  pub taken : s.over ≡ false → took_all s.told ≡ true

-- what it takes of it to tell a message
pub record Going (s : Listening) : Type 0 where
  pub low : s.at ≤ s.len
  pub count : s.len - s.at ≤ s.read.all
  pub most : s.read.all ≤ count_most
  pub counted : s.feed.stream.count + (s.len - s.at) ≤ s.read.all
  pub space : s.waiting + line_most ≤ room
  pub going : s.over ≡ false
  pub taken : took_all s.told ≡ true

-- an accepted message stands in what is delivered
abbrev pub NextWithin : (buffer : List ℕ) → Listening → ReaderAnswer → Type 0
NextWithin b s h = accepts s h ≡ true → (s.at < h.next) × (h.next ≤ s.len) × (s.len ≤ length b)

-- the bytes of what is heard
abbrev pub own_bytes_in : (buffer : List ℕ) → Listening → ReaderAnswer → List ℕ
own_bytes_in b s h = take (h.next - s.at) (drop s.at b)

-- ---- the lines

-- the n bytes of lines all wait on, and nothing is handed over; or all of them are handed to `write`
pub data Waits (s : Listening) (n : ℕ) (r : Listening) : Type 0 where
  waits_on : r.waiting ≡ n → r.told ≡ s.told → Waits s n r
  goes_out : r.waiting ≡ 0 → Hands n s.told r.told → Waits s n r

-- A LINE MORE: it stands behind the lines that wait in o, up to `end`
pub record Gathers (s : Listening) (o : List ℕ) (r : Listening) (o' text : List ℕ) : Type 0 where
  pub end : ℕ
  pub wrote : Wrote o s.waiting o' end text line_most
  pub waits : Waits s end r

-- with so many bytes of lines waiting, the place at `at`, and `feed` kept of the streams
abbrev pub gathered : Listening → (waiting at : ℕ) → Feed → Listening
gathered s waiting at feed =
    record {
      at = at;
      len = s.len;
      waiting = waiting;
      over = s.over;
      feed = feed;
      read = s.read;
      told = s.told;
    }

-- THE LINES WAIT ON, or all of them are handed over, so that there is room for one more. Nothing more is heard where
-- `write` did not take all that was handed over
pub record MakesRoom (s r : Listening) : Type 0 where
  pub waits : Waits s s.waiting r
  pub at : r.at ≡ s.at
  pub len : r.len ≡ s.len
  pub feed : r.feed ≡ s.feed
  pub read : r.read ≡ s.read
  pub goes_on : r.over ≡ not (took_all r.told)
  pub space : r.waiting + line_most ≤ room

-- THE LINE OF WHAT IS HEARD is gathered. The next place is behind it; nothing more is heard behind a refusal, or where
-- `write` did not take all that was handed over
pub record Tells (b : List ℕ) (s : Listening) (h : ReaderAnswer) (o : List ℕ) (r : Listening) (o' : List ℕ) : Type 0
  where
    pub line : Gathers s o r o' (line_of (place_of s) (number_on s h) h)
    pub accepted : accepts s h ≡ true
        → (r.at ≡ h.next) × (r.over ≡ not (took_all r.told))
        × (r.feed ≡ feed_after s.feed (place_of s) h (own_bytes_in b s h))
    pub refused : accepts s h ≡ false
        → (r.at ≡ s.at) × (r.over ≡ true) × (r.waiting ≡ 0) × (r.feed ≡ not_alone s.feed.stream)
    pub len : r.len ≡ s.len
    pub read : r.read ≡ s.read
    pub space : r.waiting + line_most ≤ room

-- THE LINE OF A STREAM THAT HAS NO END is gathered. The stream is left behind, and the place stays
pub record TellsUnended (s : Listening) (o : List ℕ) (r : Listening) (o' : List ℕ) : Type 0 where
  pub line : Gathers s o r o' (unended_line s.feed.stream)
  pub at : r.at ≡ s.at
  pub goes_on : r.over ≡ not (took_all r.told)
  pub feed : r.feed ≡ not_alone no_stream
  pub len : r.len ≡ s.len
  pub read : r.read ≡ s.read
  pub space : r.waiting + line_most ≤ room

-- WHAT IS HEARD is told; but of a `begin` within a stream, first that the stream has no end
pub data Hears (b : List ℕ) (s : Listening) (h : ReaderAnswer) (o : List ℕ) (r : Listening) (o' : List ℕ) : Type 0 where
  breaks_off_lem : s.feed.stream.began ≡ true → is_begin h ≡ true → TellsUnended s o r o' → Hears b s h o r o'
  goes_on : breaks_off s h ≡ false → Tells b s h o r o' → Hears b s h o r o'

-- THE LINES THAT WAIT ARE HANDED OVER, all of them
pub record HandsOver (s r : Listening) : Type 0 where
  pub none : r.waiting ≡ 0
  pub hands : Hands s.waiting s.told r.told

-- and nothing else changes; but nothing more is heard where it is `over`, or where `write` did not take all of them
pub record WritesOut (s : Listening) (over : Bool) (r : Listening) : Type 0 where
  pub lines : HandsOver s r
  pub at : r.at ≡ s.at
  pub len : r.len ≡ s.len
  pub feed : r.feed ≡ s.feed
  pub read : r.read ≡ s.read
  pub goes_on : r.over ≡ (over || not (took_all r.told))

-- ---- the bytes

-- MORE IS DELIVERED: `got`, behind what is not heard yet, as many bytes as came. Room was offered, so that the input
-- has ended where none came
pub record Delivers (b : List ℕ) (s : Listening) (b' : List ℕ) (r : Listening) : Type 0 where
  pub got : List ℕ
  pub are : unheard b s ++ got ≡ unheard b' r
  pub came : length got ≡ r.read.came
  pub offered : 0 < r.read.room
  pub count : r.read.all ≡ s.read.all + length got
  pub over : r.over ≡ s.over
  pub feed : r.feed ≡ s.feed

-- NOTHING MORE IS HEARD, and no line waits
pub record Over (s r : Listening) : Type 0 where
  pub over : r.over ≡ true
  pub lines : HandsOver s r
  pub at : r.at ≡ s.at
  pub len : r.len ≡ s.len
  pub feed : r.feed ≡ s.feed
  pub read : r.read ≡ s.read

-- WHY IT IS OVER, where no message is refused: the input has ended, every byte of it is heard, and no stream is left
-- without an end; a write failed; or so many bytes came that no more are counted
pub data Stops (r : Listening) : Type 0 where
  heard_all : has_ended r.read ≡ true → r.at ≡ r.len → r.feed.stream.began ≡ false → Stops r
  not_taken : took_all r.told ≡ false → Stops r
  uncounted : count_most ≤ r.read.all + room → Stops r

-- READING ON: more is delivered, once the lines that wait are handed over; or nothing more is heard, and why
pub record ReadsOn (b : List ℕ) (s : Listening) (b' : List ℕ) (r : Listening) : Type 0 where
  pub is : (Delivers b s b' r × HandsOver s r) ⊎ ((b' ≡ b) × Stops r × Over s r)
  pub stands : Stands b' r

-- THE INPUT HAS ENDED between two messages: of a stream that began it is said that it has no end, and otherwise the
-- lines that wait are handed over, and nothing more is heard
pub data Finishes (s : Listening) (o : List ℕ) (r : Listening) (o' : List ℕ) : Type 0 where
  without_end : s.feed.stream.began ≡ true → TellsUnended s o r o' → Finishes s o r o'
  is_last : s.feed.stream.began ≡ false → o' ≡ o → WritesOut s true r → Finishes s o r o'

-- ---- steps

-- what a step counts down
abbrev pub one : Bool → ℕ
one true = 0
one false = 1

abbrev pub to_go : Listening → ℕ
to_go s =
    4 * (count_most - s.read.all) + 2 * (s.len - s.at) + one (has_ended s.read) + one s.over
    + one (not s.feed.stream.began)

-- a message that may be told: it is whole, or the input has ended in it
abbrev pub Sure : (buffer : List ℕ) → Listening → Type 0
Sure b s = (is_cut (heard_in b s) ≡ false) ⊎ ((has_ended s.read ≡ true) × (s.at < s.len))

-- where a stream that began has no end: another begins, or the input has ended
abbrev pub NoEnd : (buffer : List ℕ) → Listening → Type 0
NoEnd b s = (Sure b s × (is_begin (heard_in b s) ≡ true)) ⊎ ((has_ended s.read ≡ true) × (s.at ≡ s.len))

-- THE FOUR STEPS. A message is told that is whole, or that the input has ended in. Of a stream it is said that it has
-- no end, before another begins and where the input has ended. More is delivered where a message is cut short and the
-- input has not ended. And nothing more is heard where the input has ended between two messages, where a write failed,
-- or where no byte more is counted
pub data Step (b : List ℕ) (s : Listening) (o b' : List ℕ) (r : Listening) (o' : List ℕ) : Type 0 where
  tells : Sure b s → breaks_off s (heard_in b s) ≡ false → b' ≡ b → Tells b s (heard_in b s) o r o' → Step b s o b' r o'
  unended : s.feed.stream.began ≡ true → NoEnd b s → b' ≡ b → TellsUnended s o r o' → Step b s o b' r o'
  delivers : is_cut (heard_in b s) ≡ true → has_ended s.read ≡ false → o' ≡ o → Delivers b s b' r → HandsOver s r
      → Step b s o b' r o'
  ends : Stops r → b' ≡ b → o' ≡ o → Over s r → Step b s o b' r o'

-- ONE STEP, from the buffer b, the state s and the lines o
pub record Steps (b : List ℕ) (s : Listening) (o b' : List ℕ) (r : Listening) (o' : List ℕ) : Type 0 where
  pub is : Step b s o b' r o'
  pub stands : Stands b' r
  pub nearer : to_go r < to_go s

-- ---- every step

-- what a step delivers, what it tells, and what it hands over
abbrev pub delivered_by : {b : List ℕ} {s : Listening} {o b' : List ℕ} {r : Listening} {o' : List ℕ}
    → Step b s o b' r o' → List ℕ
delivered_by (tells sure on same t) = []
delivered_by (unended began why same t) = []
delivered_by (delivers cut going same d h) = d.got
delivered_by (ends why same same' v) = []

abbrev pub told_by : {b : List ℕ} {s : Listening} {o b' : List ℕ} {r : Listening} {o' : List ℕ}
    → Step b s o b' r o' → List ℕ
told_by {b} {s} (tells sure on same t) = line_of (place_of s) (number_on s (heard_in b s)) (heard_in b s)
told_by {s = s} (unended began why same t) = unended_line s.feed.stream
told_by (delivers cut going same d h) = []
told_by (ends why same same' v) = []

abbrev pub handed_of : {s : Listening} {n : ℕ} {r : Listening} → Waits s n r → (lines : List ℕ) → List ℕ
handed_of (waits_on w same) o = []
handed_of {n = n} (goes_out none h) o = take n o

abbrev pub handed_by : {b : List ℕ} {s : Listening} {o b' : List ℕ} {r : Listening} {o' : List ℕ}
    → Step b s o b' r o' → List ℕ
handed_by {o' = o'} (tells sure on same t) = handed_of t.line.waits o'
handed_by {o' = o'} (unended began why same t) = handed_of t.line.waits o'
handed_by {s = s} {o = o} (delivers cut going same d h) = take s.waiting o
handed_by {s = s} {o = o} (ends why same same' v) = take s.waiting o

-- STEPS ONE AFTER THE OTHER, from the start on: `got` is what `read` delivered, in order; `text` are the lines that
-- were gathered, in order; and `handed` are the bytes that were handed to `write`, in order
pub data Run (b₀ o₀ : List ℕ) : (b : List ℕ) → Listening → (o got text handed : List ℕ) → Type 0 where
  starts : Run b₀ o₀ b₀ start_listening o₀ [] [] []
  goes : {b : List ℕ} {s : Listening} {o got text handed b' : List ℕ} {r : Listening} {o' : List ℕ}
      → Run b₀ o₀ b s o got text handed → s.over ≡ false → Stands b s → (x : Step b s o b' r o')
      → Run b₀ o₀ b' r o' (got ++ delivered_by x) (text ++ told_by x) (handed ++ handed_by x)

-- WHY A RUN IS OVER: the message at its place is refused, where it is whole or the input has ended in it; or it stopped
pub data Ends (b : List ℕ) (r : Listening) : Type 0 where
  refuses : accepts r (heard_in b r) ≡ false → Sure b r → Ends b r
  stopped : Stops r → Ends b r

-- EVERY STEP, up to where nothing more is heard: as many bytes came as `got` has, every line was handed over, and as
-- many bytes as the lines have
pub record Listens (r : Listening) : Type 0 where
  pub b₀ : List ℕ
  pub o₀ : List ℕ
  pub b : List ℕ
  pub o : List ℕ
  pub got : List ℕ
  pub text : List ℕ
  pub handed : List ℕ
  pub run : Run b₀ o₀ b r o got text handed
  pub over : r.over ≡ true
  pub why : Ends b r
  pub came : r.read.all ≡ length got
  pub whole : handed ≡ text
  pub count : Counted 0 (length handed) r.told.all

-- no read failed, all that was handed over was taken, and no byte was left uncounted
abbrev pub went_well : Listening → Bool
went_well s = not (has_failed s.read) && took_all s.told && ltb room (count_most - s.read.all)

-- whether what was delivered is one whole stream: there is a message, and every one may stand
abbrev pub whole_in : Listening → Bool
whole_in s = s.feed.alone && ltb 0 s.read.all
