-- What a reader that goes on from message to message says of an input from a place on, and how one message changes it.
-- The lines of an input and whether it is one whole stream are both read so.
use mathlib.Core.Path.{◌≡◌, refl, sym, ap, ◌∙◌}
use mathlib.Core.Bool.{Bool, true, false, ◌&&◌}
use mathlib.Core.List.{List, [], ◌++◌}
use Prim.Native.Nat.{ℕ, zero, suc, ◌-◌, ◌≤◌, ◌<◌}
use native.Mathlib.Omega.{arith}
use lib.Dec.{leb, eqb}
use lib.ListN.{length}
use borrow.Author.Tests.{le-leb, leb-false, lt-leb}
use Rattle.paper.specs.Lists.{pick}
use Rattle.paper_messages.specs.declared.ReaderAnswer.{ReaderAnswer}
use Rattle.paper_messages.specs.Messages.{answer_at}
use Rattle.paper_streams.specs.declared.Stream.{Stream}
use Rattle.paper_streams.specs.Streams.{is_begin, number_in, stream_after, bytes_at}
use Rattle.paper_streams.specs.Alone.{stands_alone, ends_alone, alone_from}
use Rattle.listen_lines.specs.Lines.{line_of, unended_line}
use Rattle.listen_serve.specs.Listen.{listen_from}
use Rattle.listen_serve.proofs.Places.{accepted_within}

-- how far the stream is heard behind the message at a place
abbrev pub stream_behind : List ℕ → ℕ → Stream → Stream
stream_behind input place s = stream_after s (answer_at input place) (bytes_at input place (answer_at input place))

-- A READER THAT GOES ON from message to message: at the end of the input it says `last`; of an accepted message `more`,
-- with what it says from behind it on; and of a refused one `stop`. What it says from a place on is said so, however
-- many turns it has, as long as they are as many as bytes are left. Both the lines of an input and whether it is one
-- whole stream are read so
pub record Reader (A : Type 0) : Type 0 where
  pub from : ℕ → List ℕ → ℕ → Stream → A
  pub last : ℕ → Stream → A
  pub more : ℕ → Stream → ReaderAnswer → A → A
  pub stop : ℕ → Stream → ReaderAnswer → A
  pub none_left : (input : List ℕ) (place : ℕ) (s : Stream) → from zero input place s ≡ last place s
  pub some_left : (most : ℕ) (input : List ℕ) (place : ℕ) (s : Stream)
      → from (suc most) input place s
      ≡ pick (leb (length input) place) (last place s)
      (pick (eqb (number_in s (answer_at input place)) 0)
      (more place s (answer_at input place) (from most input (answer_at input place).next (stream_behind input place s)))
      (stop place s (answer_at input place)))

module _ {A : Type 0} (R : Reader A) where
  abbrev pub rest : List ℕ → ℕ → Stream → A
  rest input place s = R.from (length input - place) input place s

  at_end : (n : ℕ) (input : List ℕ) (place : ℕ) (s : Stream) → length input ≤ place
      → R.from n input place s ≡ R.last place s
  at_end zero input place s h = R.none_left input place s
  at_end (suc n) input place s h = rw (R.some_left n input place s, le-leb (length input) place h) refl

  -- as many turns as there are bytes left are enough
  turns_enough : (n m : ℕ) (input : List ℕ) (place : ℕ) (s : Stream) → length input - place ≤ n
      → length input - place ≤ m → R.from n input place s ≡ R.from m input place s
  turns_enough zero m input place s h k =
      at_end zero input place s (omega arith) ∙ sym (at_end m input place s (omega arith))
  turns_enough (suc n) zero input place s h k =
      at_end (suc n) input place s (omega arith) ∙ sym (at_end zero input place s (omega arith))
  turns_enough (suc n) (suc m) input place s h k =
      R.some_left n input place s
      ∙ go (λ i j. turns_enough n m input (answer_at input place).next (stream_behind input place s) i j)
      (leb (length input) place) refl (eqb (number_in s (answer_at input place)) 0) refl
      ∙ sym (R.some_left m input place s)
    where
      go : (length input - (answer_at input place).next ≤ n → length input - (answer_at input place).next ≤ m
          → R.from n input (answer_at input place).next (stream_behind input place s)
          ≡ R.from m input (answer_at input place).next (stream_behind input place s))
          → (over : Bool) → leb (length input) place ≡ over
          → (done : Bool) → eqb (number_in s (answer_at input place)) 0 ≡ done
          → pick over (R.last place s)
          (pick done
          (R.more place s (answer_at input place)
          (R.from n input (answer_at input place).next (stream_behind input place s)))
          (R.stop place s (answer_at input place)))
          ≡ pick over (R.last place s)
          (pick done
          (R.more place s (answer_at input place)
          (R.from m input (answer_at input place).next (stream_behind input place s)))
          (R.stop place s (answer_at input place)))
      go again true e done f = refl
      go again false e false f = refl
      go again false e true f =
          let q = accepted_within input place s f in
          let below : place < length input = leb-false (length input) place e in
          rw (again (omega (arith, q.0, q.1)) (omega (arith, q.0, q.1)))

  pub rest_none : (input : List ℕ) (place : ℕ) (s : Stream) → length input ≤ place
      → rest input place s ≡ R.last place s
  rest_none input place s h = at_end (length input - place) input place s h

  -- before the end there is a message, which is accepted, or refused
  module _ (input : List ℕ) (place : ℕ) (s : Stream) (h : place < length input) where
    turn : rest input place s
        ≡ pick (eqb (number_in s (answer_at input place)) 0)
        (R.more place s (answer_at input place)
        (R.from (length input - place - 1) input (answer_at input place).next (stream_behind input place s)))
        (R.stop place s (answer_at input place))
    turn =
        let k : length input - place ≡ suc (length input - place - 1) = omega arith in
        ap (λ (n : ℕ). R.from n input place s) k ∙ R.some_left (length input - place - 1) input place s
        ∙ rw (lt-leb (length input) place h) refl

    pub rest_accepted : eqb (number_in s (answer_at input place)) 0 ≡ true
        → rest input place s
        ≡ R.more place s (answer_at input place) (rest input (answer_at input place).next (stream_behind input place s))
    rest_accepted e =
        let q = accepted_within input place s e in
        turn
        ∙ rw e
        (ap (λ (x : A). R.more place s (answer_at input place) x)
        (turns_enough (length input - place - 1) (length input - (answer_at input place).next) input
        (answer_at input place).next (stream_behind input place s) (omega (arith, q.0, q.1)) (omega arith)))

    pub rest_refused : eqb (number_in s (answer_at input place)) 0 ≡ false
        → rest input place s ≡ R.stop place s (answer_at input place)
    rest_refused e = turn ∙ rw e refl

-- THE LINES OF AN INPUT are read so. A `begin` breaks off the stream that it stands in
abbrev pub broken_off : Stream → ReaderAnswer → List ℕ
broken_off s h = pick (is_begin h) (unended_line s) []

abbrev pub line_more : ℕ → Stream → ReaderAnswer → List ℕ → List ℕ
line_more place s h text = broken_off s h ++ (line_of place (number_in s h) h ++ text)

pub lines_none : (input : List ℕ) (place : ℕ) (s : Stream) → listen_from zero input place s ≡ unended_line s
unfolding listen_from
lines_none input place s = refl

pub lines_some : (most : ℕ) (input : List ℕ) (place : ℕ) (s : Stream)
    → listen_from (suc most) input place s
    ≡ pick (leb (length input) place) (unended_line s)
    (pick (eqb (number_in s (answer_at input place)) 0)
    (line_more place s (answer_at input place)
    (listen_from most input (answer_at input place).next (stream_behind input place s)))
    (line_more place s (answer_at input place) []))
unfolding listen_from
lines_some most input place s =
    turn (eqb (number_in s (answer_at input place)) 0) (leb (length input) place) (unended_line s)
    (broken_off s (answer_at input place))
    (line_of place (number_in s (answer_at input place)) (answer_at input place))
    (listen_from most input (answer_at input place).next (stream_behind input place s))
  where
    turn : (done over : Bool) (last broken line text : List ℕ)
        → pick over last (broken ++ (line ++ pick done text []))
        ≡ pick over last (pick done (broken ++ (line ++ text)) (broken ++ (line ++ [])))
    turn true over last broken line text = refl
    turn false over last broken line text = refl

abbrev pub lines_reader : Reader (List ℕ)
lines_reader =
    record {
      from = listen_from;
      last = λ place s. unended_line s;
      more = line_more;
      stop = λ place s h. line_more place s h [];
      none_left = lines_none;
      some_left = lines_some;
    }

-- AND WHETHER IT IS ONE WHOLE STREAM
pub whole_none : (input : List ℕ) (place : ℕ) (s : Stream) → alone_from zero input place s ≡ ends_alone place s
unfolding alone_from
whole_none input place s = refl

pub whole_some : (most : ℕ) (input : List ℕ) (place : ℕ) (s : Stream)
    → alone_from (suc most) input place s
    ≡ pick (leb (length input) place) (ends_alone place s)
    (pick (eqb (number_in s (answer_at input place)) 0)
    (stands_alone place s (answer_at input place)
    && alone_from most input (answer_at input place).next (stream_behind input place s))
    false)
unfolding alone_from
whole_some most input place s =
    turn (eqb (number_in s (answer_at input place)) 0) (leb (length input) place) (ends_alone place s)
    (stands_alone place s (answer_at input place))
    (alone_from most input (answer_at input place).next (stream_behind input place s))
  where
    turn : (done over last stands more : Bool)
        → pick over last ((done && stands) && more) ≡ pick over last (pick done (stands && more) false)
    turn true over last stands more = refl
    turn false over last stands more = refl

abbrev pub whole_reader : Reader Bool
whole_reader =
    record {
      from = alone_from;
      last = ends_alone;
      more = λ place s h more. stands_alone place s h && more;
      stop = λ place s h. false;
      none_left = whole_none;
      some_left = whole_some;
    }
