-- Turn after turn: the lines of the turns, one after the other, are the lines of all that `read` delivered, and what they
-- hand to `write` are the answers to them.
use mathlib.Core.Path.{◌≡◌, refl, sym, ap, ◌∙◌}
use mathlib.Core.Logic.{◌⊎◌, inl, inr}
use mathlib.Core.Bool.{Bool, true, false}
use mathlib.Core.List.{List, [], ◌∷◌, ◌++◌, append-nil, append_assoc}
use Prim.Native.Nat.{ℕ, ◌+◌, ◌-◌, ◌≤◌, ◌<◌}
use native.Mathlib.Omega.{arith}
use lib.ListN.{length, length-append}
use Rattle.text_evening.specs.declared.Telling.{Telling}
use Rattle.text_protocol.specs.Answers.{answer_most}
use Rattle.paper.specs.declared.Record.{Record}
use Rattle.text_bytes.specs.Bytes.{line_feed, run, room as bufferRoom}
use Rattle.text_evening.specs.Evening.{Evening, start_evening, after, after_all, answer, answers}
use Rattle.text_evening.specs.Evening.{line_messages, all_messages}
use Rattle.text_evening.specs.Streamed.{begun_stream, stream_on}
use Rattle.text_evening.proofs.OneMore.{after_one_more, told_at}
use Rattle.text_evening.proofs.StreamedLaws.{messages_one_more, stream_none, stream_goes_on}
use Rattle.text_evidence.specs.declared.Written.{Written}
use Rattle.text_evidence.specs.Evidence.{took_all, Counted, counted_none, counted_on}
use Rattle.text_input.specs.declared.Input.{Input}
use Rattle.text_input.specs.Input.{line_length, Unbroken, unread, Stands, Over, Ends}
use Rattle.text_turn.specs.declared.State.{State}
use Rattle.text_turn.specs.Turn.{start_state}
use Rattle.paper.specs.Lists.{pick}
use Rattle.text_turn.specs.Tells.{halted, waiting, Goes, wait, handed}
use Rattle.text_serve.specs.Serve.{evening_of, Turns, handed_of, Run, starts, goes, Each, joined, most_lines, Cut}
use Rattle.text_serve.specs.Serve.{Serves}

pub joined_more : (ls : List (List ℕ)) (u g : List ℕ) → joined ls u ++ g ≡ joined ls (u ++ g)
unfolding joined
joined_more [] u g = refl
joined_more (l ∷ ls) u g = append_assoc l (line_feed ∷ joined ls u) g ∙ ap (λ (z : List ℕ). l ++ line_feed ∷ z)
    (joined_more ls u g)

pub joined_one : (ls : List (List ℕ)) (l u : List ℕ) → joined (ls ++ l ∷ []) u ≡ joined ls (l ++ line_feed ∷ u)
unfolding joined
joined_one [] l u = refl
joined_one (k ∷ ls) l u = ap (λ (z : List ℕ). k ++ line_feed ∷ z) (joined_one ls l u)

answers_one : (telling : Telling) (ls : List (List ℕ)) (l : List ℕ) (e : Evening)
    → answers telling (ls ++ l ∷ []) e ≡ answers telling ls e ++ answer telling l (after_all ls e)
unfolding answers
answers_one telling ls l e =
    told_at telling ls [] l e ∙ append-nil (answers telling ls e ++ answer telling l (after_all ls e))

pub each_one : (ls : List (List ℕ)) (l : List ℕ) → Each ls → Unbroken l → Each (ls ++ l ∷ [])
unfolding Each
each_one [] l e h = (h, tt)
each_one (k ∷ ls) l e h = (e.0, each_one ls l e.1 h)

-- one line more is one more
pub length_one : (ls : List (List ℕ)) (l : List ℕ) → length (ls ++ l ∷ []) ≡ length ls + 1
length_one ls l = length-append ls (l ∷ [])

-- HOW FAR THE INPUT IS HEARD: the bytes of the buffer b that are not used stand behind the lines, and the lines and
-- those that are left to hear are a run's most; or no line more is heard
abbrev pub Reached : List ℕ → List (List ℕ) → List ℕ → State → Type 0
Reached got lines b s =
    ((got ≡ joined lines (unread b s.input)) × (length lines + s.input.left ≡ most_lines))
    ⊎ ((s.input.left ≡ 0) × Cut got lines s.input.read s.told)

-- where the loop stands, from the table t on, where lines are told in one way: what was handed to `write` and the
-- answers that wait are those to the lines
pub record Sofar (telling : Telling) (t : List Record) (b : List ℕ) (s : State) (t' : List Record) (o : List ℕ)
    : Type 0 where
  pub got : List ℕ
  pub lines : List (List ℕ)
  pub told : List ℕ
  pub b₀ : List ℕ
  pub run : Run telling t b₀ lines got told b s t' o
  pub unbroken : Each lines
  pub evening : evening_of s t' ≡ after_all lines (start_evening t)
  pub said : told ++ waiting s o ≡ answers telling lines (start_evening t)
  pub delivered : Counted 0 (length got) s.input.read.all
  pub handed : Counted 0 (length told) s.told.all
  pub one_way : s.telling ≡ telling
  pub streamed : s.stream
      ≡ stream_on telling begun_stream (length (all_messages telling lines (start_evening t)))
      (answers telling lines (start_evening t))
  pub stands : Stands b s.input
  pub room : length (waiting s o) + answer_most ≤ bufferRoom
  pub last : s.input.left ≡ 0 → s.waits ≡ false
  pub are : Reached got lines b s

-- at the start nothing is read
pub none_yet : (telling : Telling) (t : List Record) (b : List ℕ) → length b ≡ bufferRoom
    → Sofar telling t b (start_state telling) t []
unfolding unread line_length run Each after_all answers all_messages joined
none_yet telling t b long =
    record {
      got = [];
      lines = [];
      told = [];
      b₀ = b;
      run = starts;
      unbroken = tt;
      evening = refl;
      said = refl;
      delivered = counted_none 0;
      handed = counted_none 0;
      one_way = refl;
      streamed = sym (stream_none telling);
      stands = record { low = omega arith; high = omega arith; in_b = omega arith; long = long; is = refl };
      room = omega arith;
      last = λ h. refl;
      are = inl (refl, refl);
    }

-- an input that is halted stands as it stood
pub stands_halted : (b : List ℕ) (i : Input) → Stands b i → Stands b (halted i)
unfolding unread
stands_halted b i s = record { low = s.low; high = s.high; in_b = s.in_b; long = s.long; is = s.is }

-- ONE TURN MORE
module _ {telling : Telling} {t : List Record} {b : List ℕ} {s : State} {u : List Record} {o b' : List ℕ} {r : State}
    {u' : List Record} {o' : List ℕ} (so : Sofar telling t b s u o) (more : 0 < s.input.left)
    (turn : Turns b s u o b' r u' o') where
  abbrev start : Evening
  start = start_evening t

  abbrev all : List (List ℕ)
  all = so.lines ++ turn.line ∷ []

  abbrev all_got : List ℕ
  all_got = so.got ++ turn.next.got

  each : Each all
  each = each_one so.lines turn.line so.unbroken turn.next.unbroken

  -- ---- the input

  -- before the turn the input has not ended
  going : Reached so.got so.lines b s
      → (so.got ≡ joined so.lines (unread b s.input)) × (length so.lines + s.input.left ≡ most_lines)
  going (inl e) = e
  going (inr e) = let z : ⊥ = omega (arith, more, e.0) in absurd z

  delivered : all_got ≡ joined so.lines (unread b s.input ++ turn.next.got)
  delivered = ap (λ (z : List ℕ). z ++ turn.next.got) (going so.are).0 ∙ joined_more so.lines (unread b
      s.input) turn.next.got

  counted_in : Counted 0 (length all_got) turn.behind.read.all
  counted_in =
      rw (length-append so.got turn.next.got) (counted_on _ _ _ _ _ so.delivered turn.next.count)

  counted_lines : turn.behind.left ≡ s.input.left - 1 → length all + turn.behind.left ≡ most_lines
  counted_lines e = omega (arith, e, (going so.are).1, more, length_one so.lines turn.line)

  -- a line feed stands behind the line: the rest of the buffer stands behind it, and is heard on unless a write failed
  ended_line : unread b s.input ++ turn.next.got ≡ turn.line ++ line_feed ∷ unread b' turn.behind
      → all_got ≡ joined all (unread b' turn.behind)
  ended_line e = delivered ∙ ap (joined so.lines) e ∙ sym (joined_one so.lines turn.line (unread b'
      turn.behind))

  abbrev Line : Type 0
  Line = ((unread b s.input ++ turn.next.got ≡ turn.line ++ line_feed ∷ unread b' turn.behind)
      × (turn.behind.left ≡ s.input.left - 1))
      ⊎ ((unread b s.input ++ turn.next.got ≡ turn.line) × Ends b' turn.behind turn.line)

  -- none stands there: it is the last line
  last_line : (told : Written) → unread b s.input ++ turn.next.got ≡ turn.line
      → Over turn.behind.read turn.line → Cut all_got all turn.behind.read told
  last_line told e over =
      record {
        whole = so.lines;
        behind = turn.line;
        are = delivered ∙ ap (joined so.lines) e;
        unbroken = each;
        heard = inl (refl, over);
      }

  -- what is known of the input behind the turn: it goes on, or it is halted since a write did not take all
  pub record Behind (q : State) : Type 0 where
    pub delivered : Counted 0 (length all_got) q.input.read.all
    pub stands : Stands b' q.input
    pub are : Reached all_got all b' q
    pub fewer : q.input.left < s.input.left

  goes_on : {q : State} → q.input ≡ turn.behind → Line → Behind q
  goes_on {q} g line =
      record {
        delivered = rw g counted_in;
        stands = rw g turn.next.stands;
        are = reached line;
        fewer = rw g (fewer_behind line);
      }
    where
      reached : Line → Reached all_got all b' q
      reached (inl e) = inl (rw g (ended_line e.0), rw g (counted_lines e.1))
      reached (inr e) = inr (rw g e.1.none, rw g (last_line q.told e.0 e.1.over))

      fewer_behind : Line → turn.behind.left < s.input.left
      fewer_behind (inl e) = omega (arith, e.1, more)
      fewer_behind (inr e) = omega (arith, e.1.none, more)

  stops : {q : State} → q.input ≡ halted turn.behind → took_all q.told ≡ false → Line → Behind q
  stops {q} g failed line =
      record {
        delivered = rw g counted_in;
        stands = rw g (stands_halted b' turn.behind turn.next.stands);
        are = inr (rw g, rw g (cut line));
        fewer = rw g more;
      }
    where
      cut : Line → Cut all_got all turn.behind.read q.told
      cut (inl e) =
          record {
            whole = all;
            behind = unread b' turn.behind;
            are = ended_line e.0;
            unbroken = each;
            heard = inr (refl, inl failed);
          }
      cut (inr e) = last_line q.told e.0 e.1.over

  behind_both : (took : Bool) {q : State} → took_all q.told ≡ took
      → q.input ≡ pick took turn.behind (halted turn.behind) → Behind q
  behind_both true e g = goes_on g turn.next.are
  behind_both false e g = stops g e turn.next.are

  behind : {w : List ℕ} {q : State} → Goes turn.behind s.told w q → Behind q
  behind (wait waits same g) = goes_on g turn.next.are
  behind {q = q} (handed none hands g) = behind_both (took_all q.told) refl g

  -- ---- the output

  abbrev text : List ℕ
  text = answer s.telling turn.line (evening_of s u)

  -- all that was told so far, and the answer, are the answers to the lines
  said_so : so.told ++ (waiting s o ++ text) ≡ answers telling all start
  said_so =
      sym (append_assoc so.told (waiting s o) text)
      ∙ ap (λ (z : List ℕ). z ++ text) so.said
      ∙ ap (λ (z : List ℕ). answers telling so.lines start ++ z) text_is
      ∙ sym (answers_one telling so.lines turn.line start)
    where
      text_is : text ≡ answer telling turn.line (after_all so.lines start)
      text_is = rw (so.one_way, so.evening)

  -- the stream is carried on over the answer
  streamed_so : r.stream ≡ stream_on telling begun_stream (length (all_messages telling all start)) (answers telling all start)
  streamed_so =
      turn.stream
      ∙ rw (so.one_way, so.streamed, so.evening)
      (stream_goes_on telling begun_stream _ _ (answers telling so.lines start) _
      ∙ rw (
        messages_one_more telling so.lines turn.line start,
        length-append (all_messages telling so.lines start) (line_messages telling turn.line (after_all so.lines start)),
        answers_one telling so.lines turn.line start,
      ))

  -- what is known of the answers behind the turn: they wait on, or they were handed to `write`
  pub record SaidSofar (told w : List ℕ) (q : State) : Type 0 where
    pub said : told ++ waiting q w ≡ answers telling all start
    pub handed : Counted 0 (length told) q.told.all

  told_on : {i : Input} {w : List ℕ} {q : State} → w ≡ waiting s o ++ text → (g : Goes i s.told w q)
      → SaidSofar (so.told ++ handed_of g) w q
  told_on e (wait waits same g) =
      record {
        said = rw (append-nil so.told, waits, e) said_so;
        handed = rw (append-nil so.told, same) so.handed;
      }
  told_on {w = w} e (handed none hands g) =
      record {
        said = rw (none, append-nil (so.told ++ w), e) said_so;
        handed = rw (length-append so.told w) (counted_on _ _ _ _ _ so.handed hands.count);
      }

  -- ---- the turn

  onward : Behind r
  onward = behind turn.goes

  output : SaidSofar (so.told ++ handed_of turn.goes) o' r
  output = told_on turn.wrote turn.goes

  pub one_more : Sofar telling t b' r u' o'
  one_more =
      record {
        got = all_got;
        lines = all;
        told = so.told ++ handed_of turn.goes;
        b₀ = so.b₀;
        run = goes so.run more turn;
        unbroken = each;
        evening = turn.evening ∙ ap (after turn.line) so.evening ∙ sym (after_one_more so.lines turn.line
            (start_evening t));
        said = output.said;
        delivered = onward.delivered;
        handed = output.handed;
        one_way = turn.telling ∙ so.one_way;
        streamed = streamed_so;
        stands = onward.stands;
        room = turn.room;
        last = turn.last;
        are = onward.are;
      }

  pub fewer : r.input.left < s.input.left
  fewer = onward.fewer

-- AT THE END: no line is left to hear, so that either the run's most lines were heard, or it is over already
module _ {telling : Telling} {t : List Record} {b : List ℕ} {s : State} {u : List Record} {o : List ℕ}
    (so : Sofar telling t b s u o) (over : s.input.left ≡ 0) where
  cut : Reached so.got so.lines b s → Cut so.got so.lines s.input.read s.told
  cut (inl e) =
      record {
        whole = so.lines;
        behind = unread b s.input;
        are = e.0;
        unbroken = so.unbroken;
        heard = inr (refl, inr (omega (arith, e.1, over)));
      }
  cut (inr e) = e.1

  -- no answer waits, so that all of them were handed over
  all_said : so.told ≡ answers telling so.lines (start_evening t)
  all_said = sym (append-nil so.told) ∙ (rw (so.last over) at so.said)

  pub served : Serves telling t s u
  served =
      record {
        got = so.got;
        lines = so.lines;
        told = so.told;
        b₀ = so.b₀;
        b = b;
        o = o;
        run = so.run;
        cut = cut so.are;
        evening = so.evening;
        said = all_said;
        delivered = so.delivered;
        handed = so.handed;
        one_way = so.one_way;
        streamed = so.streamed;
        over = over;
        none_waits = so.last over;
      }
