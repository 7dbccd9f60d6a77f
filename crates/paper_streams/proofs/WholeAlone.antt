-- A reader that goes on from message to message tells one whole stream: `alone_from`, from the start on, is `is_whole`.
use mathlib.Core.Path.{◌≡◌, refl, sym}
use mathlib.Core.Bool.{Bool, true, false, not, ◌&&◌}
use mathlib.Core.List.{List}
use Prim.Native.Nat.{ℕ, zero, suc, ◌-◌, ◌≤◌, ◌<◌}
use native.Mathlib.Omega.{arith}
use lib.Dec.{eqb, leb}
use lib.ListN.{length, drop_of_length-le}
use borrow.Author.Tests.{eqb-true, eq-eqb, ne_eqb, lt-leb, leb-false, leb-true, lt-ltb}
use Rattle.paper.specs.Lists.{pick}
use Rattle.paper.specs.Verdicts.{is_done, first_of}
use Rattle.paper.proofs.Logic.{not_true_and_false}
use Rattle.paper_messages.specs.declared.ReaderAnswer.{ReaderAnswer}
use Rattle.paper_messages.specs.Fields.{end_message_kind}
use Rattle.paper_messages.specs.Messages.{read_checks, heard_at, answer_at}
use Rattle.paper_streams.specs.declared.Stream.{Stream}
use Rattle.paper_streams.specs.Streams.{no_stream, is_begin, is_end, end_fits_of, number_in, stream_after, bytes_at}
use Rattle.paper_streams.specs.Streams.{may_stand}
use Rattle.paper_streams.specs.Streams.{is_whole_from, is_whole}
use Rattle.paper_streams.specs.Alone.{stands_alone, ends_alone, alone_from}
use Rattle.paper_streams.proofs.WholeOnly.{number_none, further, next_in}

-- a `begin` is no `end`
begin_no_end : (h : ReaderAnswer) → is_end h ≡ true → is_begin h ≡ false
begin_no_end h ends = rw (eqb-true h.kind end_message_kind ends) refl

-- at the end of the input a message is cut short
none_at_end : (input : List ℕ) (place : ℕ) (s : Stream) → length input ≤ place
    → eqb (number_in s (answer_at input place)) 0 ≡ false
unfolding heard_at read_checks first_of is_done number_in
none_at_end input place s h = rw (drop_of_length-le input h) refl

-- where no stream is heard, nothing may stand at a place that is not the first
none_behind : (place : ℕ) (s : Stream) (h : ReaderAnswer) → s.began ≡ false → 0 < place → stands_alone place s h ≡ false
unfolding stands_alone
none_behind place s h over some = go (is_begin h)
  where
    go : (t : Bool) → pick t (not s.began && eqb place 0) s.began ≡ false
    go true = rw (over, ne_eqb place 0 (λ z. omega arith)) refl
    go false = rw over refl

stops : (n b : Bool) → n && false && b ≡ false
stops true b = refl
stops false b = refl

module _ (input : List ℕ) where
  abbrev next : ℕ → ℕ
  next place = (answer_at input place).next

  abbrev after : ℕ → Stream → Stream
  after place s = stream_after s (answer_at input place) (bytes_at input place (answer_at input place))

  -- the next place is behind an accepted message, and not behind the input
  next_is : (place : ℕ) (s : Stream) → place < length input → eqb (number_in s (answer_at input place)) 0 ≡ true
      → (place < next place) × (next place ≤ length input)
  next_is place s h none =
      let done = (number_none s (answer_at input place) none).0 in
      (further input place (omega arith) done, next_in input place (omega arith) done)

  -- behind an `end` nothing may stand
  behind_end : (most place : ℕ) (s : Stream) → s.began ≡ false → 0 < place → place ≤ length input
      → length input - place ≤ most → alone_from most input place s ≡ eqb place (length input)
  unfolding alone_from ends_alone
  behind_end zero place s over some h few =
      let same : place ≡ length input = omega arith in
      rw (over, lt-ltb 0 place some, eq-eqb place (length input) same) refl
  behind_end (suc most) place s over some h few = go (leb (length input) place) refl
    where
      go : (t : Bool) → leb (length input) place ≡ t
          → pick t (ends_alone place s)
          (eqb (number_in s (answer_at input place)) 0 && stands_alone place s (answer_at input place)
          && alone_from most input (next place) (after place s)) ≡ eqb place (length input)
      go true e =
          let same : place ≡ length input = omega (arith, leb-true (length input) place e) in
          rw (over, lt-ltb 0 place some, eq-eqb place (length input) same) refl
      go false e =
          let below : place < length input = leb-false (length input) place e in
          rw (none_behind place s (answer_at input place) over some, ne_eqb place (length input) (λ z. omega arith))
          (stops (eqb (number_in s (answer_at input place)) 0) (alone_from most input (next place) (after place s)))

  -- within a stream both go on alike
  within : (most place : ℕ) (s : Stream) → s.began ≡ true → 0 < place → length input - place ≤ most
      → alone_from most input place s ≡ is_whole_from most input place s
  unfolding alone_from ends_alone is_whole_from stands_alone may_stand stream_after
  within zero place s began some few = rw began refl
  within (suc most) place s began some few =
      go (λ s' k i j. within most (next place) s' k i j) (leb (length input) place) refl
      (eqb (number_in s (answer_at input place)) 0) refl (is_begin (answer_at input place)) refl
      (is_end (answer_at input place)) refl
    where
      go : ((s' : Stream) → s'.began ≡ true → 0 < next place → length input - next place ≤ most
          → alone_from most input (next place) s' ≡ is_whole_from most input (next place) s')
          → (over : Bool) → leb (length input) place ≡ over
          → (none : Bool) → eqb (number_in s (answer_at input place)) 0 ≡ none
          → (begins : Bool) → is_begin (answer_at input place) ≡ begins
          → (ends : Bool) → is_end (answer_at input place) ≡ ends
          → alone_from (suc most) input place s ≡ is_whole_from (suc most) input place s
      go again true e none f begins i ends j =
          rw (e, none_at_end input place s (leb-true (length input) place e), began) refl
      go again false e false f begins i ends j = rw (e, f) refl
      go again false e true f begins i true j =
          let q = next_is place s (leb-false (length input) place e) f in
          rw (e, f, j, begin_no_end (answer_at input place) j, began)
          (behind_end most (next place) no_stream refl (omega (arith, q.0)) q.1 (omega (arith, q.0, q.1)))
      go again false e true f true i false j = rw (e, f, i, j, began) refl
      go again false e true f false i false j =
          let q = next_is place s (leb-false (length input) place e) f in
          rw (e, f, i, j, began) (again _ refl (omega (arith, q.0)) (omega (arith, q.0, q.1)))

  -- at the first place a `begin` stands, and nothing else
  first : (most : ℕ) → length input ≡ most → alone_from most input 0 no_stream ≡ is_whole_from most input 0 no_stream
  unfolding alone_from ends_alone is_whole_from stands_alone may_stand stream_after number_in end_fits_of is_done
  first zero size = refl
  first (suc most) size =
      go (eqb (number_in no_stream (answer_at input 0)) 0) refl (is_begin (answer_at input 0)) refl
      (is_end (answer_at input 0)) refl
    where
      some : leb (length input) 0 ≡ false
      some = lt-leb (length input) 0 (omega (arith, size))

      go : (none : Bool) → eqb (number_in no_stream (answer_at input 0)) 0 ≡ none
          → (begins : Bool) → is_begin (answer_at input 0) ≡ begins
          → (ends : Bool) → is_end (answer_at input 0) ≡ ends
          → alone_from (suc most) input 0 no_stream ≡ is_whole_from (suc most) input 0 no_stream
      go false f begins i ends j = rw (some, f) refl
      go true f begins i true j =
          absurd (not_true_and_false false ((number_none no_stream (answer_at input 0) f).1 j) refl)
      go true f true i false j =
          let q = next_is 0 no_stream (omega (arith, size)) f in
          rw (some, f, i, j) (within most (next 0) _ refl (omega (arith, q.0)) (omega (arith, q.0, q.1, size)))
      go true f false i false j = rw (some, f, i, j) refl

-- ONE WHOLE STREAM, told from message to message
pub whole_alone : (input : List ℕ) → is_whole input ≡ alone_from (length input) input 0 no_stream
unfolding is_whole
whole_alone input = sym (first input (length input) refl)
