-- WHAT A RUN HANDED OVER, where all of it was taken, are the lines of all that `read` delivered; and what it says at
-- its end of one whole stream is so of all that `read` delivered.
use mathlib.Core.Path.{◌≡◌, refl, sym, ap, ◌∙◌}
use mathlib.Core.Logic.{◌⊎◌, inl, inr}
use mathlib.Core.Bool.{Bool, true, false, ◌&&◌}
use mathlib.Core.List.{List, [], ◌++◌, append-nil, append_assoc}
use Prim.Native.Nat.{ℕ, ◌+◌, ◌-◌, ◌≤◌, ◌<◌}
use native.Mathlib.Omega.{arith}
use lib.Dec.{leb, eqb, ltb}
use lib.ListN.{length, take, drop, length-append, length-drop, drop_of_length-le}
use lib.Seq.{drop-append-le, take-append-le, take-take, drop-drop, length-take-le}
use borrow.Author.Tests.{leb-true, leb-false, eqb-true}
use Rattle.paper.specs.declared.Verdict.{Verdict}
use Rattle.std.specs.Prelude.{Err}
use Rattle.paper.specs.Lists.{pick}
use Rattle.paper.specs.declared.Verdict.TheVariants.{CutShort}
use Rattle.paper.specs.Verdicts.{number_of, is_done, first_of}
use Rattle.paper.proofs.Logic.{not_true_and_false}
use Rattle.paper_messages.specs.declared.ReaderAnswer.{ReaderAnswer}
use Rattle.paper_messages.specs.Fields.{begin_message_kind}
use Rattle.paper_messages.specs.Messages.{read_checks, answer_of, accepted_heard, heard_at, answer_at}
use Rattle.paper_streams.specs.declared.Stream.{Stream}
use Rattle.paper_streams.specs.Streams.{no_stream, is_begin, number_in, stream_after, bytes_at, is_whole}
use Rattle.paper_streams.specs.Alone.{stands_alone, ends_alone}
use Rattle.paper_streams.proofs.WholeAlone.{whole_alone}
use Rattle.text_bytes.specs.Bytes.{room}
use Rattle.text_evidence.specs.Evidence.{count_most, has_ended, took_all}
use Rattle.text_evidence.proofs.Shifting.{drop_take_of}
use Rattle.listen_lines.specs.Lines.{line_of, unended_line}
use Rattle.listen_serve.specs.declared.Feed.{Feed}
use Rattle.listen_serve.specs.declared.Listening.{Listening}
use Rattle.listen_serve.specs.Listen.{listen_text}
use Rattle.listen_serve.specs.Steps.{start_listening, feed_after, unheard, place_of, heard_in, number_on, accepts}
use Rattle.listen_serve.specs.Steps.{breaks_off, is_cut, Stands, own_bytes_in, Tells, TellsUnended, Delivers}
use Rattle.listen_serve.specs.Steps.{heard_all, not_taken, uncounted, Sure, NoEnd, tells, unended, delivers, ends}
use Rattle.listen_serve.specs.Steps.{Run, starts, goes, Listens, whole_in}
use Rattle.listen_serve.proofs.Places.{accepted_is_done, accepted_within, next_within, unheard_length}
use Rattle.listen_serve.proofs.Whole.{heard_whole_lem}
use Rattle.listen_serve.proofs.FromOn.{stream_behind, Reader, rest, rest_none, rest_accepted, rest_refused}
use Rattle.listen_serve.proofs.FromOn.{broken_off, lines_reader, whole_reader}

-- ---- what is heard in the buffer is heard in the input

module _ (buffer : List ℕ) (place : ℕ) (x : List ℕ) (e : drop place buffer ≡ x) where
  heard_accepted : is_done (first_of (read_checks x)) ≡ true → heard_at buffer place ≡ accepted_heard place x
  unfolding heard_at
  heard_accepted f = rw (e, f) refl

  heard_refused : is_done (first_of (read_checks x)) ≡ false → heard_at buffer place ≡ Err (first_of (read_checks x))
  unfolding heard_at
  heard_refused f = rw (e, f) refl

-- two answers that differ in their places alone: the same number, line and stream follow from them
record SameButPlace (h k : ReaderAnswer) : Type 0 where
  number : (s : Stream) → number_in s h ≡ number_in s k
  line : (p no : ℕ) → line_of p no h ≡ line_of p no k
  begins : is_begin h ≡ is_begin k
  stands : (p : ℕ) (s : Stream) → stands_alone p s h ≡ stands_alone p s k
  behind : (s : Stream) (bytes : List ℕ) → stream_after s h bytes ≡ stream_after s k bytes

accepted_alike : (p q : ℕ) (x : List ℕ) → SameButPlace (answer_of (accepted_heard p x)) (answer_of (accepted_heard q x))
unfolding accepted_heard number_in line_of stands_alone stream_after
accepted_alike p q x =
    record {
      number = λ s. refl;
      line = λ p no. refl;
      begins = refl;
      stands = λ p s. refl;
      behind = λ s bytes. refl;
    }

same_alike : (h : ReaderAnswer) → SameButPlace h h
same_alike h =
    record {
      number = λ s. refl;
      line = λ p no. refl;
      begins = refl;
      stands = λ p s. refl;
      behind = λ s bytes. refl;
    }

-- what stands behind a place of the input that is `unheard`, with what comes later behind it
module _ (b : List ℕ) (s : Listening) (stands : Stands b s) (input later : List ℕ) (place : ℕ)
    (behind : drop place input ≡ unheard b s ++ later) where
  in_buffer : drop s.at (take s.len b) ≡ unheard b s
  unfolding unheard
  in_buffer = drop_take_of s.at s.len b

  -- what is heard is the same but for its place, where it is whole or nothing comes later, and goes as far
  record Alike : Type 0 where
    same : SameButPlace (answer_at input place) (heard_in b s)
    size : is_done (heard_in b s).verdict ≡ true → (answer_at input place).next ≡ place + ((heard_in b s).next - s.at)

  abbrev first : List ℕ → Verdict
  first bytes = first_of (read_checks bytes)

  alike_of : (x : List ℕ) → drop place input ≡ x → first x ≡ first (unheard b s)
      → (is_done (first (unheard b s)) ≡ true → (p : ℕ) → accepted_heard p x ≡ accepted_heard p (unheard b s)) → Alike
  unfolding accepted_heard
  alike_of x e same accepted = go (is_done (first (unheard b s))) refl
    where
      go : (d : Bool) → is_done (first (unheard b s)) ≡ d → Alike
      go true f =
          let h : heard_at input place ≡ accepted_heard place (unheard b s) =
          heard_accepted input place x e (rw same f) ∙ accepted f place in
          let k : heard_at (take s.len b) s.at ≡ accepted_heard s.at (unheard b s) =
          heard_accepted (take s.len b) s.at (unheard b s) in_buffer f in
          record { same = rw (h, k) (accepted_alike place s.at (unheard b s)); size = λ g. rw (h, k) (omega arith) }
      go false f =
          let h : heard_at input place ≡ Err (first (unheard b s)) =
          heard_refused input place x e (rw same f) ∙ ap Err same in
          let k : heard_at (take s.len b) s.at ≡ Err (first (unheard b s)) =
          heard_refused (take s.len b) s.at (unheard b s) in_buffer f in
          record {
            same = rw (h, k) (same_alike (answer_of (Err (first (unheard b s)))));
            size = λ g. absurd (not_true_and_false (is_done (first (unheard b s))) (rw k at g) f);
          }

  alike : (is_cut (heard_in b s) ≡ false) ⊎ (later ≡ []) → Alike
  unfolding heard_at accepted_heard is_done
  alike (inl whole) =
      let w = heard_whole_lem (unheard b s) later (cut_of (is_done (first (unheard b s))) refl (rw in_buffer at whole)) in
      alike_of (unheard b s ++ later) behind w.0 w.1
    where
      cut_of : (d : Bool) → is_done (first (unheard b s)) ≡ d
          → is_cut (answer_of (pick (is_done (first (unheard b s))) (accepted_heard s.at (unheard b s)) (Err
          (first (unheard b s))))) ≡ false
          → eqb (number_of (first (unheard b s))) (number_of CutShort) ≡ false
      cut_of true e h = rw (eqb-true (number_of (first (unheard b s))) 0 e) refl
      cut_of false e h = rw e at h
  alike (inr none) =
      alike_of (unheard b s) (behind ∙ rw (none, append-nil (unheard b s)) refl) refl (λ f p. refl)

  -- its bytes are the same too
  same_bytes : Alike → accepts s (heard_in b s) ≡ true
      → bytes_at input place (answer_at input place) ≡ own_bytes_in b s (heard_in b s)
  unfolding unheard
  same_bytes a accepted =
      let done : is_done (heard_in b s).verdict ≡ true = accepted_is_done s.feed.stream (heard_in b s) accepted in
      let q = next_within (take s.len b) s.at done in
      let long : length (take s.len b) ≡ s.len = length-take-le s.len b (omega (
        arith,
        stands.in_b,
        stands.long,
      )) in
      let size : (answer_at input place).next - place ≡ (heard_in b s).next - s.at = rw (a.size done) (omega arith) in
      let few : (heard_in b s).next - s.at ≤ s.len - s.at = omega (arith, q.1, long) in
      rw (size, behind)
      (take-append-le ((heard_in b s).next - s.at) (unheard b s) later
      (rw (unheard_length b s stands) few)
      ∙ take-take ((heard_in b s).next - s.at) (s.len - s.at) (drop s.at b) few)

-- at the end of what is delivered a message is cut short
cut_at_end : (buffer : List ℕ) (place : ℕ) → length buffer ≤ place → is_cut (answer_at buffer place) ≡ true
unfolding heard_at read_checks first_of is_done
cut_at_end buffer place h = rw (drop_of_length-le buffer h) refl

-- ---- streams

never : (x : Bool) → (x && false) ≡ false
never true = refl
never false = refl

-- no stream is left without an end where none began
none_unended : (s : Stream) → s.began ≡ false → unended_line s ≡ []
unfolding unended_line
none_unended s e = rw e refl

-- a message that does not break off a stream tells of none
none_broken : (s : Stream) (h : ReaderAnswer) → s.began && is_begin h ≡ false → broken_off s h ≡ []
none_broken s h on = go s.began refl (is_begin h) refl
  where
    go : (began : Bool) → s.began ≡ began → (begins : Bool) → is_begin h ≡ begins → broken_off s h ≡ []
    go began e false f = rw f refl
    go false e true f = rw f (none_unended s e)
    go true e true f = absurd (not_true_and_false (s.began && is_begin h) (rw (e, f) refl) on)

-- of a `begin` the same is answered and heard whatever stands before it
module _ (s : Stream) (h : ReaderAnswer) (begins : is_begin h ≡ true) where
  begin_number : number_in s h ≡ number_in no_stream h
  unfolding number_in
  begin_number = rw (eqb-true h.kind begin_message_kind begins) refl

  begin_behind : (bytes : List ℕ) → stream_after s h bytes ≡ stream_after no_stream h bytes
  unfolding stream_after
  begin_behind bytes = rw begins refl

-- ---- the run

-- where a run stands: what is not heard yet is what stands behind the place in all that was delivered, the lines are
-- those before the place, and what is kept of the streams is so, whatever comes later; nothing does where the input has
-- ended
record Sofar (b : List ℕ) (s : Listening) (got text : List ℕ) : Type 0 where
  within : place_of s ≤ length got
  behind : drop (place_of s) got ≡ unheard b s
  count : length got ≡ s.read.all
  lines : (later : List ℕ) → (has_ended s.read ≡ true → later ≡ [])
      → listen_text (got ++ later) ≡ text ++ rest lines_reader (got ++ later) (place_of s) s.feed.stream
  whole : (later : List ℕ) → (has_ended s.read ≡ true → later ≡ [])
      → is_whole (got ++ later)
      ≡ (s.feed.alone && rest whole_reader (got ++ later) (place_of s) s.feed.stream)

sofar_none : (b : List ℕ) → Sofar b start_listening [] []
unfolding unheard listen_text
sofar_none b =
    record {
      within = omega arith;
      behind = refl;
      count = refl;
      lines = λ later e. let z : length later - 0 ≡ length later = omega arith in rw z refl;
      whole = λ later e. let z : length later - 0 ≡ length later = omega arith in rw z (whole_alone later);
    }

module _ {b : List ℕ} {s : Listening} {got text : List ℕ} (so : Sofar b s got text) (stands : Stands b s) where
  got_length : length got ≡ place_of s + (s.len - s.at)
  got_length =
      let d : length got - place_of s ≡ s.len - s.at =
      sym (length-drop (place_of s) got) ∙ ap length so.behind ∙ unheard_length b s stands in
      omega (arith, so.within, d)

  behind_later : (later : List ℕ) → drop (place_of s) (got ++ later) ≡ unheard b s ++ later
  behind_later later = drop-append-le (place_of s) got later so.within ∙ ap (λ (z : List ℕ). z ++ later) so.behind

  -- where a message is heard that is not cut short, there is one
  some_left : is_cut (heard_in b s) ≡ false → s.at < s.len
  some_left whole = go (leb s.len s.at) refl
    where
      go : (x : Bool) → leb s.len s.at ≡ x → s.at < s.len
      go false e = leb-false s.len s.at e
      go true e =
          absurd
          (not_true_and_false (is_cut (heard_in b s))
          (cut_at_end (take s.len b) s.at
          (omega (
            arith,
            leb-true s.len s.at e,
            length-take-le s.len b (omega (arith, stands.in_b, stands.long)),
          )))
          whole)

  there : Sure b s → s.at < s.len
  there (inl whole) = some_left whole
  there (inr e) = e.1

  abbrev h : ReaderAnswer
  h = heard_in b s

  -- what is heard at the place, in all that is delivered and what comes later
  module _ (sure : Sure b s) (later : List ℕ) (last : has_ended s.read ≡ true → later ≡ []) where
    abbrev input : List ℕ
    input = got ++ later

    abbrev heard : ReaderAnswer
    heard = answer_at input (place_of s)

    below : place_of s < length input
    below = omega (arith, length-append got later, got_length, there sure)

    alike_here : Alike b s stands input later (place_of s) (behind_later later)
    alike_here = alike b s stands input later (place_of s) (behind_later later) (which sure)
      where
        which : Sure b s → (is_cut (heard_in b s) ≡ false) ⊎ (later ≡ [])
        which (inl whole) = inl whole
        which (inr e) = inr (last e.0)

    same : SameButPlace heard h
    same = alike_here.same

    number_here : (st : Stream) (x : Bool) → eqb (number_in st h) 0 ≡ x → eqb (number_in st heard) 0 ≡ x
    number_here st x e = rw (same.number st) e

  abbrev next : ℕ
  next = (heard_in b s).next

  -- a message is accepted
  module _ {o : List ℕ} {r : Listening} {o' : List ℕ} (sure : Sure b s) (on : breaks_off s h ≡ false)
      (t : Tells b s h o r o') (accepted : accepts s h ≡ true) where
    next_is : (s.at < next) × (next ≤ s.len)
    next_is =
        let q = accepted_within (take s.len b) s.at s.feed.stream accepted in
        (q.0, rw (length-take-le s.len b (omega (arith, stands.in_b, stands.long))) at q.1)

    place_behind : place_of r ≡ place_of s + (next - s.at)
    place_behind =
        rw ((t.accepted accepted).0, t.len, t.read)
        (omega (arith, stands.count, stands.low, next_is.0, next_is.1))

    behind_told : drop (place_of r) got ≡ unheard b r
    unfolding unheard
    behind_told =
        rw (place_behind, ← drop-drop (next - s.at) (place_of s) got, so.behind)
        (drop_take_of (next - s.at) (s.len - s.at) (drop s.at b)
        ∙ rw (drop-drop (next - s.at) s.at b, (t.accepted accepted).0, t.len)
        (same_part (s.len - s.at - (next - s.at)) (s.len - next) (s.at + (next - s.at)) next
        (omega (arith, next_is.0, next_is.1)) (omega (arith, next_is.0))))
      where
        same_part : (i j m n : ℕ) → i ≡ j → m ≡ n → take i (drop m b) ≡ take j (drop n b)
        same_part i j m n e f = rw (e, f)

    module _ (later : List ℕ) (last : has_ended s.read ≡ true → later ≡ []) where
      place_told : (heard sure later last).next ≡ place_of r
      place_told =
          (alike_here sure later last).size (accepted_is_done s.feed.stream h accepted) ∙ sym place_behind

      stream_told : stream_behind (got ++ later) (place_of s) s.feed.stream ≡ r.feed.stream
      unfolding feed_after
      stream_told =
          (same sure later last).behind s.feed.stream
          (bytes_at (got ++ later) (place_of s) (heard sure later last))
          ∙ rw (
            same_bytes b s stands (got ++ later) later (place_of s) (behind_later later) (alike_here sure later last)
                accepted,
            (t.accepted accepted).2,
          ) refl

      -- what a reader says from the place on, by what it says from behind the message on
      rest_told : {A : Type 0} (R : Reader A)
          → rest R (got ++ later) (place_of s) s.feed.stream
          ≡ R.more (place_of s) s.feed.stream (heard sure later last)
          (rest R (got ++ later) (place_of r) r.feed.stream)
      rest_told R =
          rest_accepted R (got ++ later) (place_of s) s.feed.stream (below sure later last)
          (number_here sure later last s.feed.stream true accepted)
          ∙ rw (stream_told, place_told) refl

      lines_told : listen_text (got ++ later)
          ≡ (text ++ line_of (place_of s) (number_on s h) h)
          ++ rest lines_reader (got ++ later) (place_of r) r.feed.stream
      lines_told =
          so.lines later last
          ∙ ap (λ (z : List ℕ). text ++ z)
          (rest_told lines_reader
          ∙ rw (
            none_broken s.feed.stream (heard sure later last) (rw (same sure later last).begins on),
            (same sure later last).number s.feed.stream,
            (same sure later last).line (place_of s) (number_on s h),
          ) refl)
          ∙ sym (append_assoc text (line_of (place_of s) (number_on s h) h)
          (rest lines_reader (got ++ later) (place_of r) r.feed.stream))

      whole_told : is_whole (got ++ later)
          ≡ (r.feed.alone && rest whole_reader (got ++ later) (place_of r) r.feed.stream)
      unfolding feed_after
      whole_told =
          so.whole later last
          ∙ ap (λ (z : Bool). s.feed.alone && z)
          (rest_told whole_reader ∙ rw ((same sure later last).stands (place_of s) s.feed.stream) refl)
          ∙ regroup s.feed.alone (stands_alone (place_of s) s.feed.stream h)
          (rest whole_reader (got ++ later) (place_of r) r.feed.stream)
          ∙ ap (λ (f : Feed). f.alone && rest whole_reader (got ++ later) (place_of r) r.feed.stream)
          (sym (t.accepted accepted).2)
        where
          regroup : (x y z : Bool) → (x && (y && z)) ≡ ((x && y) && z)
          regroup true y z = refl
          regroup false y z = refl

    sofar_told : Sofar b r got (text ++ line_of (place_of s) (number_on s h) h)
    sofar_told =
        record {
          within = rw place_behind (omega (arith, got_length, next_is.0, next_is.1));
          behind = behind_told;
          count = rw t.read so.count;
          lines = λ later last. lines_told later (λ e. last (rw t.read e));
          whole = λ later last. whole_told later (λ e. last (rw t.read e));
        }

  -- a message is refused: nothing more is heard
  module _ (sure : Sure b s) (on : breaks_off s h ≡ false) (refused : accepts s h ≡ false) where
    none_later : has_ended s.read ≡ true → ◌≡◌ {A = List ℕ} [] []
    none_later e = refl

    rest_of_refused : {A : Type 0} (R : Reader A)
        → rest R (got ++ []) (place_of s) s.feed.stream
        ≡ R.stop (place_of s) s.feed.stream (heard sure [] none_later)
    rest_of_refused R =
        rest_refused R (got ++ []) (place_of s) s.feed.stream (below sure [] none_later)
        (number_here sure [] none_later s.feed.stream false refused)

    text_refused : text ++ line_of (place_of s) (number_on s h) h ≡ listen_text (got ++ [])
    text_refused =
        sym (so.lines [] none_later
        ∙ ap (λ (z : List ℕ). text ++ z)
        (rest_of_refused lines_reader
        ∙ rw (
          none_broken s.feed.stream (heard sure [] none_later) (rw (same sure [] none_later).begins on),
          (same sure [] none_later).number s.feed.stream,
          (same sure [] none_later).line (place_of s) (number_on s h),
        ) (append-nil (line_of (place_of s) (number_on s h) h))))

    whole_refused : is_whole (got ++ []) ≡ false
    whole_refused =
        so.whole [] none_later
        ∙ ap (λ (z : Bool). s.feed.alone && z) (rest_of_refused whole_reader) ∙ never s.feed.alone

  -- the stream has no end: another begins
  module _ (began : s.feed.stream.began ≡ true) (sure : Sure b s) (begins : is_begin h ≡ true) (later : List ℕ)
      (last : has_ended s.read ≡ true → later ≡ []) where
    begins_here : is_begin (heard sure later last) ≡ true
    begins_here = rw (same sure later last).begins begins

    lines_broken : (x : Bool) → eqb (number_in no_stream (heard sure later last)) 0 ≡ x
        → rest lines_reader (got ++ later) (place_of s) s.feed.stream
        ≡ unended_line s.feed.stream ++ rest lines_reader (got ++ later) (place_of s) no_stream
    unfolding unended_line
    lines_broken true e =
        rest_accepted lines_reader (got ++ later) (place_of s) s.feed.stream (below sure later last)
        (rw (begin_number s.feed.stream (heard sure later last) begins_here) e)
        ∙ rw (
          begins_here,
          begin_number s.feed.stream (heard sure later last) begins_here,
          begin_behind s.feed.stream (heard sure later last) begins_here
              (bytes_at (got ++ later) (place_of s) (heard sure later last)),
        )
        (ap (λ (z : List ℕ). unended_line s.feed.stream ++ z)
        (sym (rest_accepted lines_reader (got ++ later) (place_of s) no_stream (below sure later last) e
        ∙ rw begins_here refl)))
    lines_broken false e =
        rest_refused lines_reader (got ++ later) (place_of s) s.feed.stream (below sure later last)
        (rw (begin_number s.feed.stream (heard sure later last) begins_here) e)
        ∙ rw (begins_here, begin_number s.feed.stream (heard sure later last) begins_here)
        (ap (λ (z : List ℕ). unended_line s.feed.stream ++ z)
        (sym (rest_refused lines_reader (got ++ later) (place_of s) no_stream (below sure later last) e
        ∙ rw begins_here refl)))

    whole_broken : (x : Bool) → eqb (number_in s.feed.stream (heard sure later last)) 0 ≡ x
        → rest whole_reader (got ++ later) (place_of s) s.feed.stream ≡ false
    unfolding stands_alone
    whole_broken true e =
        rest_accepted whole_reader (got ++ later) (place_of s) s.feed.stream (below sure later last) e
        ∙ rw (begins_here, began) refl
    whole_broken false e =
        rest_refused whole_reader (got ++ later) (place_of s) s.feed.stream (below sure later last) e

  -- or the input has ended
  module _ (began : s.feed.stream.began ≡ true) (e : has_ended s.read ≡ true) (z : s.at ≡ s.len) (later : List ℕ)
      (last : has_ended s.read ≡ true → later ≡ []) where
    past : length (got ++ later) ≤ place_of s
    past = rw (last e) (omega (arith, length-append got [], got_length, z))

    lines_without_end : rest lines_reader (got ++ later) (place_of s) s.feed.stream
        ≡ unended_line s.feed.stream ++ rest lines_reader (got ++ later) (place_of s) no_stream
    unfolding unended_line
    lines_without_end =
        rest_none lines_reader (got ++ later) (place_of s) s.feed.stream past
        ∙ sym (ap (λ (x : List ℕ). unended_line s.feed.stream ++ x)
        (rest_none lines_reader (got ++ later) (place_of s) no_stream past)
        ∙ append-nil (unended_line s.feed.stream))

    whole_without_end : rest whole_reader (got ++ later) (place_of s) s.feed.stream ≡ false
    unfolding ends_alone
    whole_without_end =
        rest_none whole_reader (got ++ later) (place_of s) s.feed.stream past ∙ rw began refl

  -- so the lines go on behind the line that says so, and the input is not one whole stream
  module _ {o : List ℕ} {r : Listening} {o' : List ℕ} (began : s.feed.stream.began ≡ true) (why : NoEnd b s)
      (t : TellsUnended s o r o') where
    lines_unended : (later : List ℕ) → (has_ended s.read ≡ true → later ≡ []) → NoEnd b s
        → rest lines_reader (got ++ later) (place_of s) s.feed.stream
        ≡ unended_line s.feed.stream ++ rest lines_reader (got ++ later) (place_of s) no_stream
    lines_unended later last (inl q) =
        lines_broken began q.0 q.1 later last (eqb (number_in no_stream (heard q.0 later last)) 0) refl
    lines_unended later last (inr q) = lines_without_end began q.0 q.1 later last

    whole_unended : (later : List ℕ) → (has_ended s.read ≡ true → later ≡ []) → NoEnd b s
        → rest whole_reader (got ++ later) (place_of s) s.feed.stream ≡ false
    whole_unended later last (inl q) =
        whole_broken began q.0 q.1 later last (eqb (number_in s.feed.stream (heard q.0 later last)) 0) refl
    whole_unended later last (inr q) = whole_without_end began q.0 q.1 later last

    same_place : place_of r ≡ place_of s
    same_place = rw (t.at, t.len, t.read) refl

    sofar_unended : Sofar b r got (text ++ unended_line s.feed.stream)
    unfolding unheard
    sofar_unended =
        record {
          within = rw same_place so.within;
          behind = rw (t.at, t.len, t.read) so.behind;
          count = rw t.read so.count;
          lines = λ later last.
              so.lines later (λ e. last (rw t.read e))
              ∙ ap (λ (x : List ℕ). text ++ x) (lines_unended later (λ e. last (rw t.read e)) why)
              ∙ rw (same_place, t.feed)
              (sym (append_assoc text (unended_line s.feed.stream)
              (rest lines_reader (got ++ later) (place_of s) no_stream)));
          whole = λ later last.
              so.whole later (λ e. last (rw t.read e))
              ∙ ap (λ (x : Bool). s.feed.alone && x) (whole_unended later (λ e. last (rw t.read e)) why)
              ∙ never s.feed.alone ∙ rw t.feed refl;
        }

  -- more is delivered
  sofar_delivered : (b' : List ℕ) (r : Listening) → has_ended s.read ≡ false → Stands b' r → (d : Delivers b s b' r)
      → Sofar b' r (got ++ d.got) text
  sofar_delivered b' r open_still r-stands d =
      let size : length (unheard b' r) ≡ s.len - s.at + length d.got =
      ap length (sym d.are) ∙ length-append (unheard b s) d.got
      ∙ rw (unheard_length b s stands) refl in
      let r-size : length (unheard b' r) ≡ r.len - r.at = unheard_length b' r r-stands in
      let same_place : place_of r ≡ place_of s =
      omega (arith, size, r-size, d.count, stands.count, r-stands.count, so.count, got_length) in
      let open-later : (later : List ℕ) → has_ended s.read ≡ true → d.got ++ later ≡ [] =
      λ later e. absurd (not_true_and_false (has_ended s.read) e open_still) in
      record {
        within = rw same_place (omega (arith, so.within, length-append got d.got));
        behind = rw same_place (behind_later d.got ∙ d.are);
        count = omega (arith, length-append got d.got, so.count, d.count);
        lines = λ later last.
            rw (same_place, append_assoc got d.got later, d.feed) (so.lines (d.got ++ later) (open-later later));
        whole = λ later last.
            rw (same_place, append_assoc got d.got later, d.feed) (so.whole (d.got ++ later) (open-later later));
      }

  -- nothing more is heard at the end of the input, where no stream is left without an end
  module _ (e : s.at ≡ s.len) (none : s.feed.stream.began ≡ false) where
    at_end : length (got ++ []) ≤ place_of s
    at_end = omega (arith, length-append got [], got_length, e)

    text_ended : text ++ [] ≡ listen_text (got ++ [])
    text_ended =
        sym (so.lines [] (λ _. refl)
        ∙ ap (λ (z : List ℕ). text ++ z)
        (rest_none lines_reader (got ++ []) (place_of s) s.feed.stream at_end ∙ none_unended s.feed.stream none))

    whole_ended : is_whole (got ++ []) ≡ (s.feed.alone && ltb 0 s.read.all)
    unfolding ends_alone
    whole_ended =
        let all-of-it : place_of s ≡ s.read.all = omega (arith, e) in
        so.whole [] (λ _. refl)
        ∙ ap (λ (z : Bool). s.feed.alone && z)
        (rest_none whole_reader (got ++ []) (place_of s) s.feed.stream at_end ∙ rw (none, all-of-it) refl)

-- ---- the steps of a run

module _ {b : List ℕ} {s : Listening} {got text : List ℕ} (so : Sofar b s got text) (stands : Stands b s) where
  sofar_tells : {o b' : List ℕ} {r : Listening} {o' : List ℕ} → Sure b s → breaks_off s (heard_in b s) ≡ false → b' ≡ b
      → Tells b s (heard_in b s) o r o' → r.over ≡ false
      → Sofar b' r (got ++ []) (text ++ line_of (place_of s) (number_on s (heard_in b s)) (heard_in b s))
  sofar_tells {o} {b'} {r} {o'} sure on same t going = go (accepts s (heard_in b s)) refl
    where
      go : (d : Bool) → accepts s (heard_in b s) ≡ d
          → Sofar b' r (got ++ []) (text ++ line_of (place_of s) (number_on s (heard_in b s)) (heard_in b s))
      go true e = rw (same, append-nil got) (sofar_told so stands sure on t e)
      go false e = absurd (not_true_and_false r.over (t.refused e).1 going)

  -- where a message was told last, and all was taken, it was refused
  last_refused : {o : List ℕ} {r : Listening} {o' : List ℕ} → Tells b s (heard_in b s) o r o' → r.over ≡ true
      → took_all r.told ≡ true → accepts s (heard_in b s) ≡ false
  last_refused {o} {r} {o'} t over well = go (accepts s (heard_in b s)) refl
    where
      go : (d : Bool) → accepts s (heard_in b s) ≡ d → accepts s (heard_in b s) ≡ false
      go true e = absurd (not_true_and_false r.over over ((t.accepted e).1 ∙ rw well refl))
      go false e = e

-- where a run is not over, it stands so
sofar : {b₀ o₀ b : List ℕ} {s : Listening} {o got text handed : List ℕ} → Run b₀ o₀ b s o got text handed
    → s.over ≡ false → Stands b s → Sofar b s got text
sofar {b₀} starts going stands = sofar_none b₀
sofar (goes run on stands (tells sure still same t)) going r-stands =
    sofar_tells (sofar run on stands) stands sure still same t going
sofar {got = got} (goes run on stands (unended began why same t)) going r-stands =
    rw (same, append-nil) (sofar_unended (sofar run on stands) stands began why t)
sofar {b = b'} {s = r} (goes run on stands (delivers cut Going-on same d out)) going r-stands =
    rw append-nil (sofar_delivered (sofar run on stands) stands b' r Going-on r-stands d)
sofar {s = r} (goes run on stands (ends why same same' v)) going r-stands = absurd
    (not_true_and_false r.over v.over going)

-- and where it is over, all of its lines were taken and every byte was counted, ITS LINES ARE THOSE OF ALL THAT WAS
-- DELIVERED, and what is kept of the streams says whether it is one whole stream
run_said : {b₀ o₀ b : List ℕ} {s : Listening} {o got text handed : List ℕ} → Run b₀ o₀ b s o got text handed
    → s.over ≡ true → took_all s.told ≡ true → s.read.all + room < count_most
    → (text ≡ listen_text got) × (whole_in s ≡ is_whole got)
run_said starts over well few = absurd (not_true_and_false false over refl)
run_said {s = r} (goes run on stands (tells sure still same t)) over well few =
    let refused = last_refused (sofar run on stands) stands t over well in (
      text_refused (sofar run on stands) stands sure still refused,
      rw (t.refused refused).3 (sym (whole_refused (sofar run on stands) stands sure still refused)),
    )
run_said {s = r} (goes run on stands (unended began why same t)) over well few =
    absurd (not_true_and_false r.over over (t.goes_on ∙ rw well refl))
run_said {s = r} (goes run on stands (delivers cut Going-on same d out)) over well few =
    absurd (not_true_and_false r.over over (d.over ∙ on))
run_said {s = r} (goes run on stands (ends (heard_all e z none) same same' v)) over well few =
    let at_end = sym v.at ∙ z ∙ v.len in
    let none_before = rw v.feed at none in (
      text_ended (sofar run on stands) stands at_end none_before,
      rw (v.feed, v.read) (sym (whole_ended (sofar run on stands) stands at_end none_before)),
    )
run_said {s = r} (goes run on stands (ends (not_taken e) same same' v)) over well few =
    absurd (not_true_and_false (took_all r.told) well e)
run_said (goes run on stands (ends (uncounted e) same same' v)) over well few =
    let z : ⊥ = omega (arith, e, few) in absurd z

module _ {r : Listening} (l : Listens r) (well : took_all r.told ≡ true) (few : r.read.all + room < count_most) where
  -- SO WHAT WAS HANDED OVER, AND TAKEN, IS THE TEXT OF WHAT WAS DELIVERED
  pub listened_text : l.handed ≡ listen_text l.got
  listened_text = l.whole ∙ (run_said l.run l.over well few).0

  -- AND IT IS SAID OF WHAT WAS DELIVERED whether it is one whole stream
  pub listened_whole : whole_in r ≡ is_whole l.got
  listened_whole = (run_said l.run l.over well few).1
