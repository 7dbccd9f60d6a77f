-- A whole stream reads back to its messages, and is heard as one whole stream. Of every stream with an `end` the reader
-- says it is whole exactly where the `end` has its count and its sum: a message dropped or doubled is always told, and
-- messages exchanged are told unless the sum is equal too.
use mathlib.Core.Path.{◌≡◌, refl, sym, ap, ap₂, ◌∙◌}
use mathlib.Core.Bool.{Bool, true, false, not, ◌&&◌}
use mathlib.Core.List.{List, [], ◌∷◌, ◌++◌, append_assoc, append-nil}
use Prim.Native.Nat.{ℕ, zero, suc, ◌+◌, ◌-◌, ◌≤◌, ◌<◌}
use native.Mathlib.Nat.{zero-add}
use native.Mathlib.Omega.{arith}
use lib.Dec.{eqb, ltb}
use lib.IntN.{pos, negsuc}
use lib.ListN.{length, length-append}
use lib.Seq.{take_at, drop-append_seam, drop-length}
use borrow.Author.Tests.{eq-eqb, eqb-true, lt-ltb, le-leb, ltb-true, ltb-false}
use Rattle.paper.specs.declared.Verdict.TheVariants.{Done}
use Rattle.paper.specs.Lists.{pick}
use Rattle.paper.specs.Ranges.{unsigned, within_z}
use Rattle.paper.specs.Verdicts.{first_of, is_done}
use Rattle.paper.proofs.Logic.{and_left, and_right, ◌&◌}
use Rattle.sums.specs.Sums.{sum_on, sum_of}
use Rattle.sums.proofs.SumLaws.{sum_goes_on, sum_bound}
use Rattle.paper_messages.specs.declared.Message.{Message}
use Rattle.paper_messages.specs.declared.ReaderAnswer.{ReaderAnswer}
use Rattle.paper_messages.specs.Broadcast.{sent, all_sent}
use Rattle.paper_messages.specs.Bytes.{signed_of, in_width}
use Rattle.paper_messages.specs.Fields.{begin_message_kind, end_message_kind, places, sum_width, sum_field, filled}
use Rattle.paper_messages.specs.Fields.{count_field, fields_of, places_of}
use Rattle.paper_messages.specs.Messages.{length_width, encode, length_of, read_checks, answer_of, answer_at}
use Rattle.paper_messages.specs.Messages.{is_known_kind, in_ranges, valid}
use Rattle.paper_messages.specs.Records.{past_signed, value_of, message}
use Rattle.paper_messages.proofs.ByteLaws.{complement_only}
use Rattle.paper_messages.proofs.MessageLaws.{encode_length, heard_verdict, reads_back}
use Rattle.paper_streams.specs.declared.Stream.{Stream}
use Rattle.paper_streams.specs.Streams.{begin_message, end_message, begun, ended, whole_stream, no_stream}
use Rattle.paper_streams.specs.Streams.{is_end, count_said, sum_said, end_fits_of, not_whole, number_in, stream_after}
use Rattle.paper_streams.specs.Streams.{may_stand, bytes_at, is_whole_from, is_whole, messages_from, messages_in}

-- ---- the messages between `begin` and `end`

-- a valid message with all of its places, and neither `begin` nor `end`
pub record Plain (m : Message) : Type 0 where
  pub is_valid : valid m ≡ true
  pub full : length m.fields ≡ places
  pub no_begin : eqb m.kind begin_message_kind ≡ false
  pub no_end : eqb m.kind end_message_kind ≡ false

pub data AllPlain : List Message → Type 0 where
  no_message_lem : AllPlain []
  and_plain : {m : Message} {ms : List Message} → Plain m → AllPlain ms → AllPlain (m ∷ ms)

sent_is : (m : Message) → valid m ≡ true → sent m ≡ encode m
unfolding sent
sent_is m v = rw v

-- a message has bytes
sent_longer : (ms : List Message) → AllPlain ms → length ms ≤ length (all_sent ms)
unfolding all_sent
sent_longer [] no_message_lem = omega arith
sent_longer (m ∷ ms) (and_plain p ps) =
    let long : length (encode m) ≡ length_width + length_of m.kind = encode_length m p.is_valid in
    let more : length ms ≤ length (all_sent ms) = sent_longer ms ps in
    rw (length-append (sent m) (all_sent ms), sent_is m p.is_valid) (omega arith)

-- ---- `begin` and `end`

pub begin_valid : valid begin_message ≡ true
unfolding begin_message message valid is_known_kind in_ranges places_of fields_of filled
begin_valid = refl

begin_full : length begin_message.fields ≡ places
unfolding begin_message message filled
begin_full = refl

value_is : (n : ℕ) → n < past_signed → value_of n ≡ pos n
unfolding value_of
value_is n h = rw (lt-ltb n past_signed h)

module _ (n c : ℕ) (small : n < past_signed) (low : c < in_width sum_width) where
  sum_in : within_z sum_field.low sum_field.high (signed_of sum_width c) ≡ true
  unfolding signed_of
  sum_in = of (ltb (c + c) (in_width sum_width)) refl
    where
      of : (t : Bool) → ltb (c + c) (in_width sum_width) ≡ t
          → within_z sum_field.low sum_field.high (pick t (pos c) (negsuc (in_width sum_width - suc c))) ≡ true
      of true e = let h : c + c < in_width sum_width = ltb-true (c + c) (in_width sum_width) e in
          le-leb c 2147483647 (omega arith)
      of false e = let h : in_width sum_width ≤ c + c = ltb-false (c + c) (in_width sum_width) e in
          le-leb (in_width sum_width - suc c) 2147483647 (omega arith) & refl

  count_in : within_z count_field.low count_field.high (value_of n) ≡ true
  count_in = rw (value_is n small) (le-leb 0 n (omega arith) & le-leb n 9223372036854775807 (omega arith))

  pub end_valid : valid (end_message n c) ≡ true
  unfolding end_message message valid is_known_kind in_ranges places_of fields_of filled
  end_valid = (count_in & (sum_in & refl)) & refl

  end_full : length (end_message n c).fields ≡ places
  unfolding end_message message filled
  end_full = refl

  count_back : count_said (end_message n c) ≡ n
  unfolding end_message message filled unsigned
  count_back = rw (value_is n small)

  sum_back : sum_said (end_message n c) ≡ c
  unfolding end_message message filled
  sum_back = complement_only sum_width c low

-- ---- one message of a stream

-- a message that stands behind `front`: what is heard of it, and its bytes
module _ (front rest : List ℕ) (m : Message) (v : valid m ≡ true) (full : length m.fields ≡ places) where
  input : List ℕ
  input = front ++ (encode m ++ rest)

  told : ReaderAnswer
  told =
      record {
        verdict = Done;
        known = true;
        kind = m.kind;
        length = length_of m.kind;
        next = length front + length (encode m);
        message = m;
      }

  heard_is : answer_at input (length front) ≡ told
  unfolding input told
  heard_is = ap answer_of (reads_back m v full rest front)

  bytes_are : bytes_at input (length front) told ≡ encode m
  unfolding input told
  bytes_are =
      let own : length front + length (encode m) - length front ≡ length (encode m) = omega arith in
      rw (own, drop-append_seam front (encode m ++ rest)) (take_at (encode m) rest (length (encode m)) refl)

-- ---- a stream that began, up to its `end`

abbrev come : (count : ℕ) → (front : List ℕ) → Stream
come count front = record { began = true; count = count; sum = sum_of front }

-- what is made of a message that is heard
judged_as : (most : ℕ) → (input : List ℕ) → (place : ℕ) → Stream → ReaderAnswer → Bool
judged_as most input place s h =
    eqb (number_in s h) 0
    && pick (is_end h) (eqb h.next (length input))
    (may_stand s h
    && is_whole_from most input h.next (stream_after s h (bytes_at input place h)))

judged : (most : ℕ) (input : List ℕ) (place : ℕ) (s : Stream) (h : ReaderAnswer) → answer_at input place ≡ h
    → is_whole_from (suc most) input place s ≡ judged_as most input place s h
unfolding is_whole_from judged_as
judged most input place s h e = ap (judged_as most input place s) e

-- what the last test of a stream says: that the `end` fits
fitting : (fits : Bool) → (eqb (pick (true && not fits) not_whole 0) 0 && true) ≡ fits
fitting true = refl
fitting false = refl

goes_on : (front more : List ℕ) → sum_on (sum_of front) more ≡ sum_of (front ++ more)
unfolding sum_of
goes_on front more = sum_goes_on 0 front more

-- a plain message goes on to the next, and counts
plain_goes_on : (front rest : List ℕ) (m : Message) → Plain m → (most count : ℕ)
    → is_whole_from (suc most) (front ++ (encode m ++ rest)) (length front) (come count front)
    ≡ is_whole_from most ((front ++ encode m) ++ rest) (length (front ++ encode m)) (come (suc count) (front ++ encode m))
unfolding judged_as number_in may_stand stream_after is_done told input
plain_goes_on front rest m p most count =
    judged most (front ++ (encode m ++ rest)) (length front) (come count front)
    (told front rest m p.is_valid p.full)
    (heard_is front rest m p.is_valid p.full)
    ∙ rw (
      p.no_end,
      p.no_begin,
      bytes_are front rest m p.is_valid p.full,
      goes_on front (encode m),
      append_assoc front (encode m) rest,
      length-append front (encode m),
    )

module _ (n c : ℕ) (small : n < past_signed) (low : c < in_width sum_width) where
  last : Message
  last = end_message n c

  -- whether the `end` fits so many messages and these bytes
  fits : (count : ℕ) → (front : List ℕ) → Bool
  fits count front = eqb n count && eqb c (sum_of front)

  end_fits : (count : ℕ) (front : List ℕ) → end_fits_of (come count front) last ≡ fits count front
  unfolding last fits end_fits_of
  end_fits count front = rw (count_back n c small low, sum_back n c small low)

  at_end : (most : ℕ) (front : List ℕ) (count : ℕ)
      → is_whole_from (suc most) (front ++ (encode last ++ [])) (length front) (come count front) ≡ fits count front
  unfolding last judged_as number_in is_done told input end_message message
  at_end most front count =
      let long : eqb (length front + length (encode last)) (length (front ++ (encode last ++ []))) ≡ true =
      eq-eqb (length front + length (encode last)) (length (front ++ (encode last ++ [])))
      (rw (append-nil (encode last), length-append front (encode last))) in
      judged most (front ++ (encode last ++ [])) (length front) (come count front)
      (told front [] last (end_valid n c small low) (end_full n c small low))
      (heard_is front [] last (end_valid n c small low) (end_full n c small low))
      ∙ rw long (fitting (end_fits_of (come count front) last) ∙ end_fits count front)

  between : (ms : List Message) → AllPlain ms → (most : ℕ) (front : List ℕ) (count : ℕ) → length ms < most
      → is_whole_from most (front ++ (all_sent ms ++ (encode last ++ []))) (length front) (come count front)
      ≡ fits (length ms + count) (front ++ all_sent ms)
  unfolding all_sent
  between ms ps zero front count h = let x : ⊥ = omega arith in absurd x
  between [] no_message_lem (suc most) front count h =
      rw (append-nil front, zero-add count) (at_end most front count)
  between (m ∷ ms) (and_plain p ps) (suc most) front count h =
      let rest : List ℕ = all_sent ms ++ (encode last ++ []) in
      let parts : (sent m ++ all_sent ms) ++ (encode last ++ []) ≡ encode m ++ rest =
      append_assoc (sent m) (all_sent ms) (encode last ++ []) ∙ ap (λ (l : List ℕ). l ++ rest) (sent_is m p.is_valid) in
      let number : length ms + suc count ≡ suc (length ms) + count = omega arith in
      let bytes : (front ++ encode m) ++ all_sent ms ≡ front ++ (sent m ++ all_sent ms) =
      append_assoc front (encode m) (all_sent ms)
      ∙ ap (λ (l : List ℕ). front ++ (l ++ all_sent ms)) (sym (sent_is m p.is_valid)) in
      rw parts (plain_goes_on front rest m p most count)
      ∙ between ms ps most (front ++ encode m) (suc count) (omega arith)
      ∙ ap₂ fits number bytes

-- ---- a stream from `begin` to `end`

begins : (rest : List ℕ) (most : ℕ)
    → is_whole_from (suc most) (encode begin_message ++ rest) 0 no_stream
    ≡ is_whole_from most (encode begin_message ++ rest) (length (encode begin_message)) (come 1 (encode begin_message))
unfolding judged_as number_in may_stand stream_after is_done told input begin_message message
begins rest most =
    judged most (encode begin_message ++ rest) 0 no_stream (told [] rest begin_message begin_valid begin_full)
    (heard_is [] rest begin_message begin_valid begin_full)
    ∙ rw (bytes_are [] rest begin_message begin_valid begin_full, zero-add (length (encode begin_message)))

module _ (ms : List Message) (ps : AllPlain ms) (n c : ℕ) (small : n < past_signed) (low : c < in_width sum_width) where
  -- its bytes, in parts
  parts : List ℕ
  parts = encode begin_message ++ (all_sent ms ++ (encode (end_message n c) ++ []))

  parts_are : ended ms n c ≡ parts
  unfolding ended begun parts
  parts_are =
      append_assoc (encode begin_message) (all_sent ms) (encode (end_message n c))
      ∙ ap (λ (l : List ℕ). encode begin_message ++ (all_sent ms ++ l)) (sym (append-nil (encode (end_message n c))))

  -- it has more bytes than messages
  longer : suc (length ms) < length parts
  unfolding parts
  longer =
      let four : length (encode begin_message) ≡ length_width + length_of begin_message.kind =
      encode_length begin_message begin_valid in
      let more : length ms ≤ length (all_sent ms) = sent_longer ms ps in
      rw (
        length-append (encode begin_message) (all_sent ms ++ (encode (end_message n c) ++ [])),
        length-append (all_sent ms) (encode (end_message n c) ++ []),
      ) (omega arith)

  -- THE READER SAYS THAT A STREAM IS WHOLE exactly where its `end` has its count and its sum
  pub whole_exactly : is_whole (ended ms n c) ≡ (eqb n (suc (length ms)) && eqb c (sum_of (begun ms)))
  unfolding is_whole begun fits last parts
  whole_exactly =
      let most : ℕ = length parts - 1 in
      let enough : length parts ≡ suc most = omega (arith, longer) in
      let one : length ms + 1 ≡ suc (length ms) = omega arith in
      ap (λ (l : List ℕ). is_whole_from (length l) l 0 no_stream) parts_are
      ∙ ap (λ (k : ℕ). is_whole_from k parts 0 no_stream) enough
      ∙ begins (all_sent ms ++ (encode (end_message n c) ++ [])) most
      ∙ between n c small low ms ps most (encode begin_message) 1 (omega (arith, longer))
      ∙ ap (λ (k : ℕ). fits n c small low k (encode begin_message ++ all_sent ms)) one

-- ---- what a member may rely on

pub sum_small : (bytes : List ℕ) → sum_of bytes < in_width sum_width
unfolding sum_of
sum_small bytes = sum_bound 0 bytes

-- A WHOLE STREAM IS HEARD AS WHOLE
pub whole_is_heard : (ms : List Message) → AllPlain ms → suc (length ms) < past_signed
    → is_whole (whole_stream ms) ≡ true
unfolding whole_stream
whole_is_heard ms ps few =
    whole_exactly ms ps (suc (length ms)) (sum_of (begun ms)) few (sum_small (begun ms))
    ∙ (eq-eqb (suc (length ms)) (suc (length ms)) refl & eq-eqb (sum_of (begun ms)) (sum_of (begun ms)) refl)

-- OTHER MESSAGES BETWEEN THE SAME `begin` AND `end`: they are heard as whole only where they are as many and their sum is
-- equal too
pub others_told : (ms others : List Message) → AllPlain others → suc (length ms) < past_signed
    → is_whole (ended others (suc (length ms)) (sum_of (begun ms))) ≡ true
    → (length others ≡ length ms) × (sum_of (begun others) ≡ sum_of (begun ms))
others_told ms others ps few whole =
    let as_many : Bool = eqb (suc (length ms)) (suc (length others)) in
    let as-summed : Bool = eqb (sum_of (begun ms)) (sum_of (begun others)) in
    let both : (as_many && as-summed) ≡ true =
    sym (whole_exactly others ps (suc (length ms)) (sum_of (begun ms)) few (sum_small (begun ms))) ∙ whole in
    let count : suc (length ms) ≡ suc (length others) = eqb-true (suc (length ms)) (suc (length others))
    (and_left as_many as-summed both) in
    (omega arith, sym (eqb-true (sum_of (begun ms)) (sum_of (begun others)) (and_right as_many as-summed both)))

-- so a message that was dropped is told, whatever the sum is
pub dropped_told : (front back : List Message) (m : Message) → AllPlain (front ++ back)
    → suc (length (front ++ m ∷ back)) < past_signed
    → is_whole (ended (front ++ back) (suc (length (front ++ m ∷ back))) (sum_of (begun (front ++ m ∷ back)))) ≡ true → ⊥
dropped_told front back m ps few whole =
    let same : length (front ++ back) ≡ length (front ++ m ∷ back) =
    (others_told (front ++ m ∷ back) (front ++ back) ps few whole).0 in
    omega (arith, length-append front back, length-append front (m ∷ back))

-- and one that was doubled
pub doubled_told : (front back : List Message) (m : Message) → AllPlain (front ++ m ∷ m ∷ back)
    → suc (length (front ++ m ∷ back)) < past_signed
    → is_whole (ended (front ++ m ∷ m ∷ back) (suc (length (front ++ m ∷ back))) (sum_of (begun (front ++ m ∷ back)))) ≡ true
    → ⊥
doubled_told front back m ps few whole =
    let same : length (front ++ m ∷ m ∷ back) ≡ length (front ++ m ∷ back) =
    (others_told (front ++ m ∷ back) (front ++ m ∷ m ∷ back) ps few whole).0 in
    omega (arith, length-append front (m ∷ m ∷ back), length-append front (m ∷ back))

-- ---- what is read of a whole stream

-- a message that stands behind `front` is read, and then those behind it
reads_on : (front rest : List ℕ) (m : Message) → valid m ≡ true → length m.fields ≡ places → (most : ℕ)
    → messages_from (suc most) (front ++ (encode m ++ rest)) (length front)
    ≡ m ∷ messages_from most ((front ++ encode m) ++ rest) (length (front ++ encode m))
unfolding messages_from is_done
reads_on front rest m v full most =
    rw (reads_back m v full rest front, append_assoc front (encode m) rest, length-append front (encode m))

-- at the end of the input nothing is read
reads_nothing : (most : ℕ) (input : List ℕ) → messages_from most input (length input) ≡ []
unfolding messages_from read_checks first_of is_done
reads_nothing zero input = refl
reads_nothing (suc most) input = rw (heard_verdict input (length input), drop-length input)

module _ (n c : ℕ) (small : n < past_signed) (low : c < in_width sum_width) where
  reads_between : (ms : List Message) → AllPlain ms → (most : ℕ) (front : List ℕ) → length ms < most
      → messages_from most (front ++ (all_sent ms ++ (encode (end_message n c) ++ []))) (length front)
      ≡ ms ++ end_message n c ∷ []
  unfolding all_sent
  reads_between ms ps zero front h = let x : ⊥ = omega arith in absurd x
  reads_between [] no_message_lem (suc most) front h =
      reads_on front [] (end_message n c) (end_valid n c small low) (end_full n c small low) most
      ∙ rw (append-nil (front ++ encode (end_message n c)), reads_nothing most (front ++ encode (end_message n c)))
  reads_between (m ∷ ms) (and_plain p ps) (suc most) front h =
      let rest : List ℕ = all_sent ms ++ (encode (end_message n c) ++ []) in
      let in_parts : (sent m ++ all_sent ms) ++ (encode (end_message n c) ++ []) ≡ encode m ++ rest =
      append_assoc (sent m) (all_sent ms) (encode (end_message n c) ++ [])
      ∙ ap (λ (l : List ℕ). l ++ rest) (sent_is m p.is_valid) in
      rw in_parts (reads_on front rest m p.is_valid p.full most)
      ∙ ap (λ (l : List Message). m ∷ l) (reads_between ms ps most (front ++ encode m) (omega arith))

-- A WHOLE STREAM READS BACK TO ALL OF ITS MESSAGES
pub whole_reads_back : (ms : List Message) → AllPlain ms → suc (length ms) < past_signed
    → messages_in (whole_stream ms) ≡ begin_message ∷ (ms ++ end_message (suc (length ms)) (sum_of (begun ms)) ∷ [])
unfolding messages_in whole_stream parts
whole_reads_back ms ps few =
    let n : ℕ = suc (length ms) in
    let c : ℕ = sum_of (begun ms) in
    let low : c < in_width sum_width = sum_small (begun ms) in
    let all : List ℕ = parts ms ps n c few low in
    let rest : List ℕ = all_sent ms ++ (encode (end_message n c) ++ []) in
    let most : ℕ = length all - 1 in
    let enough : length all ≡ suc most = omega (arith, longer ms ps n c few low) in
    ap (λ (l : List ℕ). messages_from (length l) l 0) (parts_are ms ps n c few low)
    ∙ ap (λ (k : ℕ). messages_from k all 0) enough
    ∙ reads_on [] rest begin_message begin_valid begin_full most
    ∙ ap (λ (l : List Message). begin_message ∷ l)
    (reads_between n c few low ms ps most (encode begin_message) (omega (arith, longer ms ps n c few low)))
