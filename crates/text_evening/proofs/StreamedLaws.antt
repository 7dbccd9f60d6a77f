-- What is told with messages is what is sent of them. How far a stream is told goes on from line to line, and where the
-- last line is told, `begin`, what was told and an `end` of that count and sum are the whole stream of the messages.
use mathlib.Core.Path.{◌≡◌, refl, sym, ap, ap₂, ◌∙◌}
use mathlib.Core.Bool.{true}
use mathlib.Core.List.{List, [], ◌∷◌, ◌++◌, append_assoc, append-nil}
use Prim.Native.Nat.{ℕ, suc, ◌+◌, ◌<◌, min}
use native.Mathlib.Omega.{arith}
use lib.ListN.{length}
use Rattle.paper.specs.declared.Record.{Record}
use Rattle.paper.specs.Lists.{pick}
use Rattle.sums.specs.Sums.{divided, bits_of, after_bits, after_bytes, sum_on, sum_of}
use Rattle.sums.proofs.SumLaws.{sum_goes_on}
use Rattle.paper_messages.specs.declared.Message.{Message}
use Rattle.paper_messages.specs.Broadcast.{sent, all_sent}
use Rattle.paper_messages.specs.Bytes.{bytes_of, complement}
use Rattle.paper_messages.specs.Fields.{fields_of, filled, places_of}
use Rattle.paper_messages.specs.Messages.{body_of, total, length_of, encode}
use Rattle.paper_messages.specs.Records.{past_signed, message}
use Rattle.paper_streams.specs.declared.Stream.{Stream}
use Rattle.paper_streams.specs.Streams.{begin_message, end_message, begun, ended, whole_stream}
use Rattle.paper_streams.proofs.StreamLaws.{end_valid, sum_small}
use Rattle.text_protocol.specs.Calls.{Deed, nothing, no_call, call, interest, bond}
use Rattle.text_evening.specs.declared.Telling.{Telling}
use Rattle.text_evening.specs.declared.Telling.TheVariants.{Answers, Reasons, Messages}
use Rattle.text_evening.specs.Evening.{Evening, last_number, call_told, worded, text_of, after, answer, after_all}
use Rattle.text_evening.specs.Evening.{answers, call_messages, messages_by, line_messages, all_messages}
use Rattle.text_evening.specs.Streamed.{stream_of, begun_stream, stream_on}

-- ---- what is told is what is sent

sent_of_both : (ms more : List Message) → all_sent (ms ++ more) ≡ all_sent ms ++ all_sent more
unfolding all_sent
sent_of_both [] more = refl
sent_of_both (m ∷ ms) more =
    ap (λ (l : List ℕ). sent m ++ l) (sent_of_both ms more) ∙ sym (append_assoc (sent m) (all_sent ms) (all_sent more))

told_is_sent : (from n : ℕ) (d : Deed) (t : List Record)
    → text_of (Messages from) n d t ≡ all_sent (messages_by (Messages from) n d t)
unfolding text_of messages_by call_told call_messages worded all_sent
told_is_sent from n nothing t = refl
told_is_sent from n no_call t = refl
told_is_sent from n (call c) t = refl
told_is_sent from n (interest i keys) t = refl
told_is_sent from n (bond b flows) t = refl

-- THE ANSWERS TO LINES that are told with messages are what is sent of these messages
pub answers_are_sent : (from : ℕ) (ls : List (List ℕ)) (e : Evening)
    → answers (Messages from) ls e ≡ all_sent (all_messages (Messages from) ls e)
unfolding answers answer all_messages line_messages all_sent
answers_are_sent from [] e = refl
answers_are_sent from (l ∷ ls) e =
    ap₂ (λ (a b : List ℕ). a ++ b) (told_is_sent from e.number _ e.table) (answers_are_sent from ls (after l e))
    ∙ sym (sent_of_both (line_messages (Messages from) l e) (all_messages (Messages from) ls (after l e)))

pub messages_one_more : (telling : Telling) (before : List (List ℕ)) (l : List ℕ) (e : Evening)
    → all_messages telling (before ++ l ∷ []) e ≡ all_messages telling before e ++ line_messages telling l (after_all before e)
unfolding all_messages after_all
messages_one_more telling [] l e = append-nil (line_messages telling l e)
messages_one_more telling (k ∷ before) l e =
    ap (λ (ms : List Message). line_messages telling k e ++ ms) (messages_one_more telling before l (after k e))
    ∙ sym (append_assoc (line_messages telling k e) (all_messages telling before (after k e))
    (line_messages telling l (after_all before (after k e))))

-- ---- how far a stream is told

abbrev told_so_far : Stream → (count sum : ℕ) → Stream
told_so_far s count sum = record { began = s.began; count = count; sum = sum }

goes_on : (front more : List ℕ) → sum_on (sum_of front) more ≡ sum_of (front ++ more)
unfolding sum_of
goes_on front more = sum_goes_on 0 front more

-- `begin` by its sum
pub begun_is : begun_stream ≡ record { began = true; count = 1; sum = 2154929225 }
unfolding begun_stream begin_message message encode body_of bytes_of complement length_of total places_of fields_of filled sum_of
    sum_on after_bytes after_bits bits_of divided
begun_is = refl

pub stream_none : (telling : Telling) → stream_on telling begun_stream 0 [] ≡ begun_stream
unfolding stream_on begun_stream
stream_none Answers = refl
stream_none Reasons = refl
stream_none (Messages from) =
    ap (λ (sum : ℕ). record { began = true; count = 1; sum = sum })
    (goes_on (encode begin_message) [] ∙ ap sum_of (append-nil (encode begin_message)))

pub stream_goes_on : (telling : Telling) (s : Stream) (n m : ℕ) (front more : List ℕ)
    → stream_on telling (stream_on telling s n front) m more ≡ stream_on telling s (n + m) (front ++ more)
unfolding stream_on
stream_goes_on Answers s n m front more = refl
stream_goes_on Reasons s n m front more = refl
stream_goes_on (Messages from) s n m front more =
    let counts : min (min (s.count + n) last_number + m) last_number ≡ min (s.count + (n + m)) last_number =
    omega arith in
    ap₂ (told_so_far s) counts (sum_goes_on s.sum front more)

-- ---- what is written as a whole

module _ (from : ℕ) (ls : List (List ℕ)) (e : Evening)
    (few : suc (length (all_messages (Messages from) ls e)) < past_signed) where
  abbrev ms : List Message
  ms = all_messages (Messages from) ls e

  abbrev told : List ℕ
  told = answers (Messages from) ls e

  -- the stream behind all of them
  abbrev behind : Stream
  behind = stream_on (Messages from) begun_stream (length ms) told

  behind_is : behind ≡ record { began = true; count = suc (length ms); sum = sum_of (begun ms) }
  unfolding stream_on begun_stream begun
  behind_is =
      let counted : min (1 + length ms) last_number ≡ suc (length ms) = omega (arith, few) in
      ap₂ (λ (n sum : ℕ). record { began = true; count = n; sum = sum }) counted
      (goes_on (encode begin_message) told
      ∙ ap (λ (l : List ℕ). sum_of (encode begin_message ++ l)) (answers_are_sent from ls e))

  -- `begin`, WHAT WAS TOLD AND AN `end` OF ITS COUNT AND SUM ARE THE WHOLE STREAM
  pub told_whole : (encode begin_message ++ told) ++ sent (end_message behind.count behind.sum) ≡ stream_of from ls e
  unfolding stream_of whole_stream ended begun sent
  told_whole =
      rw (behind_is, end_valid (suc (length ms)) (sum_of (begun ms)) few (sum_small (begun ms)), answers_are_sent from ls e)
