-- Of any bytes at all: what is heard as one whole stream ends with an `end` whose sum is that of every byte before it. So
-- a whole stream of which one bit before its `end` is flipped is never heard as whole.
use mathlib.Core.Path.{◌≡◌, refl, sym, ap, ◌∙◌}
use mathlib.Core.Bool.{Bool, true, false, not, ◌&&◌}
use mathlib.Core.List.{List, [], ◌∷◌, ◌++◌}
use Prim.Native.Nat.{ℕ, zero, suc, ◌+◌, ◌-◌, ◌^◌, ◌≤◌, ◌<◌}
use native.Mathlib.Omega.{arith}
use lib.Bits.{bit_xor}
use lib.Dec.{eqb}
use lib.ListN.{length, take, drop, length-append, length-drop, take-append-drop}
use lib.Seq.{take_all, take-add, take_at, drop_at}
use borrow.Author.Tests.{eqb-true}
use Rattle.paper.specs.declared.Verdict.TheVariants.{Done}
use Rattle.paper.specs.Lists.{pick}
use Rattle.paper.specs.Verdicts.{number_of, is_done, first_of}
use Rattle.paper.proofs.Logic.{and_left, and_right, not_true_and_false}
use Rattle.paper_desk.proofs.Refusals.{done_is}
use Rattle.sums.specs.Sums.{byte_bits, sum_on, sum_of}
use Rattle.sums.proofs.SumLaws.{sum_goes_on, flipped_bit_tells}
use Rattle.paper_messages.specs.declared.Message.{Message}
use Rattle.paper_messages.specs.declared.ReaderAnswer.{ReaderAnswer}
use Rattle.paper_messages.specs.Bytes.{Bytes}
use Rattle.paper_messages.specs.Fields.{end_message_kind, places, places_of}
use Rattle.paper_messages.specs.Messages.{length_width, kind_width, length_of, length_at, kind_at, message_at, encode, valid}
use Rattle.paper_messages.specs.Messages.{is_known_kind}
use Rattle.paper_messages.specs.Messages.{read_checks, message_heard, answer_of, accepted_heard, heard_at, answer_at}
use Rattle.paper_messages.proofs.FieldLaws.{values_length, kinds_have_places}
use Rattle.paper_messages.proofs.MessageLaws.{encode_length, heard_accepted, heard_verdict, reads_back}
use Rattle.paper_messages.proofs.MessageLaws.{done_means_accepted, heard_only}
use Rattle.paper_streams.specs.declared.Stream.{Stream}
use Rattle.paper_streams.specs.Streams.{no_stream, is_begin, is_end, count_said, sum_said, end_fits_of, not_whole, number_in}
use Rattle.paper_streams.specs.Streams.{may_stand, stream_after, bytes_at, is_whole_from, is_whole}

-- ---- what is accepted at a place

-- no number is answered: the message is accepted, and an `end` fits
pub number_none : (s : Stream) (h : ReaderAnswer) → eqb (number_in s h) 0 ≡ true
    → (h.verdict ≡ Done) × (is_end h ≡ true → end_fits_of s h.message ≡ true)
unfolding number_in is_done
number_none s h none = (
  done_is h.verdict (done (eqb (number_of h.verdict) 0) refl none),
  λ ends. fits (end_fits_of s h.message) (rw (done (eqb (number_of h.verdict) 0) refl none, ends) at none),
)
  where
    done : (t : Bool) → eqb (number_of h.verdict) 0 ≡ t
        → eqb (pick t (pick (is_end h && not (end_fits_of s h.message)) not_whole 0) (number_of h.verdict)) 0 ≡ true
        → t ≡ true
    done true e n = refl
    done false e n = sym e ∙ n

    fits : (t : Bool) → eqb (pick (true && not t) not_whole 0) 0 ≡ true → t ≡ true
    fits true n = refl
    fits false n = absurd (not_true_and_false false n refl)

module _ (input : List ℕ) (place : ℕ) (within : place ≤ length input)
    (done : (answer_at input place).verdict ≡ Done) where
  accepted : first_of (read_checks (drop place input)) ≡ Done
  accepted = sym (heard_verdict input place) ∙ done

  is : answer_at input place ≡ answer_of (accepted_heard place (drop place input))
  is = ap answer_of (heard_accepted input place accepted)

  next_is : (answer_at input place).next ≡ place + (length_width + length_at (drop place input))
  unfolding accepted_heard
  next_is = ap (λ (h : ReaderAnswer). h.next) is

  -- the next place is behind it, and not behind the input
  pub further : place < (answer_at input place).next
  further = rw next_is (omega arith)

  pub next_in : (answer_at input place).next ≤ length input
  next_in =
      let follows : length_width + length_at (drop place input) ≤ length input - place =
      rw length-drop at (done_means_accepted (drop place input) accepted).follows in
      rw next_is (omega arith)

  -- the bytes up to the next place are those before it and the message's own
  taken : take (answer_at input place).next input
      ≡ take place input ++ bytes_at input place (answer_at input place)
  taken =
      let sizes : (answer_at input place).next ≡ place + ((answer_at input place).next - place) =
      omega (arith, further) in
      ap (λ (n : ℕ). take n input) sizes ∙ take-add place ((answer_at input place).next - place) input

  kind_is : (answer_at input place).kind ≡ kind_at (drop place input)
  unfolding accepted_heard
  kind_is = ap (λ (h : ReaderAnswer). h.kind) is

  -- an `end` is known, and its message is of its kind and has all of its places
  end_known : is_end (answer_at input place) ≡ true
      → ((answer_at input place).known ≡ true) × ((answer_at input place).message.kind ≡ end_message_kind)
      × (length (answer_at input place).message.fields ≡ places)
  unfolding accepted_heard is_known_kind message_at
  end_known ends =
      let kind : kind_at (drop place input) ≡ end_message_kind =
      sym kind_is ∙ eqb-true (answer_at input place).kind end_message_kind ends in (
        ap (λ (h : ReaderAnswer). h.known) is ∙ rw kind,
        ap (λ (h : ReaderAnswer). h.message.kind) is ∙ rw kind,
        ap (λ (h : ReaderAnswer). length h.message.fields) is
            ∙ rw kind
            (values_length (places_of end_message_kind) (drop (length_width + kind_width) (drop place input))
            ∙ kinds_have_places end_message_kind),
      )

-- ---- a whole stream

-- a text that ends with an `end` whose sum is that of what stands before it
pub record EndsSummed (input : List ℕ) : Type 0 where
  pub front : List ℕ
  pub last : Message
  pub is : input ≡ front ++ encode last
  pub ends : last.kind ≡ end_message_kind
  pub is_valid : valid last ≡ true
  pub full : length last.fields ≡ places
  pub sum : sum_said last ≡ sum_of front

-- how far a stream is heard at a place: its sum is that of all bytes before it; where none began, it is the first place
record Kept (s : Stream) (input : List ℕ) (place : ℕ) : Type 0 where
  summed : s.began ≡ true → s.sum ≡ sum_of (take place input)
  first : s.began ≡ false → place ≡ 0

module _ (input : List ℕ) (all : Bytes input) where
  -- the `end` is the last message
  at_last : (place : ℕ) (s : Stream) → place ≤ length input → Kept s input place
      → (answer_at input place).verdict ≡ Done
      → is_end (answer_at input place) ≡ true
      → end_fits_of s (answer_at input place).message ≡ true
      → (answer_at input place).next ≡ length input
      → EndsSummed input
  unfolding end_fits_of
  at_last place s within kept done ends fits over =
      let h : ReaderAnswer = answer_at input place in
      let known = end_known input place within done ends in
      let only = heard_only input place all done known.0 in
      let size : length (encode h.message) ≡ length input - place = omega (arith, only.2, over) in
      let rest : encode h.message ≡ drop place input =
      only.1 ∙ take_all (length (encode h.message)) (drop place input) (rw length-drop (omega arith)) in
      let as_many : Bool = s.began && eqb (count_said h.message) s.count in
      let as-summed : Bool = eqb (sum_said h.message) s.sum in
      let began : s.began ≡ true = and_left s.began _ (and_left as_many as-summed fits) in
      record {
        front = take place input;
        last = h.message;
        is = sym (take-append-drop place input) ∙ ap (λ (l : List ℕ). take place input ++ l) (sym rest);
        ends = known.1;
        is_valid = only.0;
        full = known.2;
        sum = eqb-true (sum_said h.message) s.sum (and_right as_many as-summed fits) ∙ kept.summed began;
      }

  goes_on : (front more : List ℕ) → sum_on (sum_of front) more ≡ sum_of (front ++ more)
  unfolding sum_of
  goes_on front more = sum_goes_on 0 front more

  keeps_on : (place : ℕ) (s : Stream) → place ≤ length input → Kept s input place
      → (answer_at input place).verdict ≡ Done
      → is_end (answer_at input place) ≡ false
      → may_stand s (answer_at input place) ≡ true
      → Kept (stream_after s (answer_at input place) (bytes_at input place (answer_at input place))) input
      (answer_at input place).next
  unfolding may_stand stream_after
  keeps_on place s within kept done no_end may =
      rw no_end (go (is_begin (answer_at input place)) s.began refl may)
    where
      go : (begin began : Bool) → s.began ≡ began → pick begin (not began) began ≡ true
          → Kept
          (pick begin (record { began = true; count = 1; sum = sum_of (bytes_at input place (answer_at input place)) })
          (pick began
          (record {
            began = true;
            count = suc s.count;
            sum = sum_on s.sum (bytes_at input place (answer_at input place));
          })
          s)) input (answer_at input place).next
      go true true e m = absurd (not_true_and_false false m refl)
      go true false e m =
          record {
            summed =
                λ yes.
                sym (ap sum_of
                (taken input place within done
                ∙ ap (λ (n : ℕ). take n input ++ bytes_at input place (answer_at input place)) (kept.first e)));
            first = λ no. absurd (not_true_and_false true refl no);
          }
      go false true e m =
          record {
            summed =
                λ yes.
                ap (λ (n : ℕ). sum_on n (bytes_at input place (answer_at input place))) (kept.summed e)
                ∙ goes_on (take place input) (bytes_at input place (answer_at input place))
                ∙ sym (ap sum_of (taken input place within done));
            first = λ no. absurd (not_true_and_false true refl no);
          }
      go false false e m = absurd (not_true_and_false false m refl)

  only_from : (most : ℕ) (place : ℕ) (s : Stream) → place ≤ length input → Kept s input place
      → is_whole_from most input place s ≡ true
      → EndsSummed input
  unfolding is_whole_from
  only_from zero place s within kept whole = absurd (not_true_and_false false whole refl)
  only_from (suc most) place s within kept whole =
      let h : ReaderAnswer = answer_at input place in
      let none = number_none s h (and_left (eqb (number_in s h) 0) _ whole) in
      go (λ place' s' within' kept' whole'. only_from most place' s' within' kept' whole') (is_end h) refl none.0 none.1
      (and_right (eqb (number_in s h) 0) _ whole)
    where
      go : ((place' : ℕ) (s' : Stream) → place' ≤ length input → Kept s' input place'
          → is_whole_from most input place' s' ≡ true
          → EndsSummed input)
          → (ends : Bool) → is_end (answer_at input place) ≡ ends → (answer_at input place).verdict ≡ Done
          → (is_end (answer_at input place) ≡ true → end_fits_of s (answer_at input place).message ≡ true)
          → pick ends (eqb (answer_at input place).next (length input))
          (may_stand s (answer_at input place)
          && is_whole_from most input (answer_at input place).next
          (stream_after s (answer_at input place) (bytes_at input place (answer_at input place))))
          ≡ true
          → EndsSummed input
      go again true e done fits over =
          at_last place s within kept done e (fits e) (eqb-true (answer_at input place).next (length input) over)
      go again false e done fits more =
          let may : Bool = may_stand s (answer_at input place) in
          again (answer_at input place).next
          (stream_after s (answer_at input place) (bytes_at input place (answer_at input place)))
          (next_in input place within done)
          (keeps_on place s within kept done e (and_left may _ more))
          (and_right may _ more)

  -- WHAT IS HEARD AS ONE WHOLE STREAM ends with an `end` whose sum is that of every byte before it
  pub whole_only : is_whole input ≡ true → EndsSummed input
  unfolding is_whole
  whole_only whole =
      only_from (length input) 0 no_stream (omega arith)
      (record { summed = λ yes. absurd (not_true_and_false false yes refl); first = λ no. refl }) whole

-- ---- one flipped bit

-- two messages of the same bytes are the same
encode_injective : (a b : Message) → valid a ≡ true → valid b ≡ true → length a.fields ≡ places
    → length b.fields ≡ places
    → encode a ≡ encode b
    → a ≡ b
encode_injective a b va vb fa fb same =
    sym (ap message_heard (reads_back a va fa [] []))
    ∙ ap (λ (l : List ℕ). message_heard (heard_at (l ++ []) 0)) same
    ∙ ap message_heard (reads_back b vb fb [] [])

-- ONE FLIPPED BIT BEFORE THE `end` of a whole stream, and it is never heard as whole. `last` is the `end` that has the sum
-- of what stood before it
pub flipped_told : (front back : List ℕ) (byte bit : ℕ) (last : Message) → byte < 2 ^ byte_bits → bit < byte_bits
    → valid last ≡ true
    → length last.fields ≡ places
    → last.kind ≡ end_message_kind
    → sum_said last ≡ sum_of (front ++ byte ∷ back)
    → Bytes ((front ++ bit_xor byte (2 ^ bit) ∷ back) ++ encode last)
    → is_whole ((front ++ bit_xor byte (2 ^ bit) ∷ back) ++ encode last) ≡ true
    → ⊥
flipped_told front back byte bit last small in-byte v full kind sum all whole =
    let flipped : List ℕ = front ++ bit_xor byte (2 ^ bit) ∷ back in
    let w : EndsSummed (flipped ++ encode last) = whole_only (flipped ++ encode last) all whole in
    let mine : length (encode last) ≡ length_width + length_of end_message_kind =
    encode_length last v ∙ ap (λ (k : ℕ). length_width + length_of k) kind in
    let its : length (encode w.last) ≡ length_width + length_of end_message_kind =
    encode_length w.last w.is_valid ∙ ap (λ (k : ℕ). length_width + length_of k) w.ends in
    let whole_length : length flipped + length (encode last) ≡ length w.front + length (encode w.last) =
    sym (length-append flipped (encode last)) ∙ ap length w.is ∙ length-append w.front (encode w.last) in
    let fronts : length flipped ≡ length w.front = omega arith in
    let n : ℕ = length flipped in
    let before : flipped ≡ w.front =
    sym (take_at flipped (encode last) n refl) ∙ ap (take n) w.is
    ∙ take_at w.front (encode w.last) n (sym fronts) in
    let behind : encode last ≡ encode w.last =
    sym (drop_at flipped (encode last) n refl) ∙ ap (drop n) w.is
    ∙ drop_at w.front (encode w.last) n (sym fronts) in
    let same : last ≡ w.last = encode_injective last w.last v w.is_valid full w.full behind in
    flipped_bit_tells front back byte bit small in-byte
    (ap sum_of before ∙ sym w.sum ∙ ap sum_said (sym same) ∙ sum)
