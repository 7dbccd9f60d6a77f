-- Why the functions of the listener meet their contracts, as laws over lists, numbers and `Listening`: what a read
-- delivers, the state after a line, one step, and all steps. No law speaks of memory, so that the proofs of the
-- functions only cite them.
use mathlib.Core.Path.{◌≡◌, refl, sym, ap, ◌∙◌}
use mathlib.Core.Bool.{Bool, true, false, not}
use mathlib.Core.Logic.{◌⊎◌, inl, inr}
use mathlib.Core.List.{List, [], ◌∷◌, ◌++◌, append-nil, append_assoc}
use Prim.Native.Nat.{ℕ, suc, ◌+◌, ◌-◌, ◌*◌, ◌≤◌, ◌<◌}
use native.Mathlib.Omega.{arith}
use lib.Dec.{ltb}
use lib.IntN.{pos}
use lib.ListN.{length, take, drop, length-append, length-drop, take-append-drop}
use lib.Seq.{length-take-le, take-take, length-sets}
use borrow.Author.Tests.{ltb-true, ltb-false}
use Rattle.paper.specs.Lists.{pick}
use Rattle.paper.proofs.Logic.{not_true_and_false, not_true, not_false}
use Rattle.sums.specs.Sums.{sum_on, sum_of}
use Rattle.paper_messages.specs.declared.ReaderAnswer.{ReaderAnswer}
use Rattle.paper_streams.specs.declared.Stream.{Stream}
use Rattle.paper_streams.specs.Streams.{no_stream, is_begin, is_end, stream_after}
use Rattle.text_bytes.specs.Bytes.{room}
use Rattle.text_out.specs.Wrote.{Wrote, appended}
use Rattle.text_evidence.specs.declared.Delivered.{Delivered}
use Rattle.text_evidence.specs.Evidence.{count_most, counted, Counted, counted_none, counted_on, has_ended}
use Rattle.text_evidence.specs.Evidence.{not_ended_is_some, took_all, Fills, Hands}
use Rattle.listen_lines.specs.Lines.{unended_word, word_line, line_of, unended_line, line_most}
use Rattle.listen_serve.specs.declared.Feed.{Feed}
use Rattle.listen_serve.specs.declared.Listening.{Listening}
use Rattle.listen_serve.specs.Steps.{start_listening, feed_after, not_alone, unheard, place_of, heard_in, number_on}
use Rattle.listen_serve.specs.Steps.{accepts, is_cut, Stands, Going, own_bytes_in, Waits, waits_on, goes_out}
use Rattle.listen_serve.specs.Steps.{Gathers}
use Rattle.listen_serve.specs.Steps.{gathered, MakesRoom, Tells, TellsUnended, Hears, breaks_off_lem, goes_on}
use Rattle.listen_serve.specs.Steps.{HandsOver, WritesOut, Delivers, Over, Stops, heard_all, not_taken, uncounted}
use Rattle.listen_serve.specs.Steps.{ReadsOn, Finishes, without_end, is_last, one, to_go, Sure, Step, tells}
use Rattle.listen_serve.specs.Steps.{unended, delivers, ends, Steps, handed_of, Run, starts, goes, Ends, refuses}
use Rattle.listen_serve.specs.Steps.{stopped, Listens}
use Rattle.listen_serve.proofs.Places.{accepted_within, cut_leaves_room, unheard_length}

-- ---- more is delivered

module _ (b b' b'' : List ℕ) (s : Listening) (have : ℕ) (d : Delivered) (stands : Stands b s)
    (short : s.len - s.at < room) (enough : s.read.all + room < count_most) (is : have ≡ s.len - s.at)
    (moved : take have b' ≡ take have (drop s.at b)) (long : length b' ≡ room)
    (f : Fills b' have s.read b'' d) (came : ℕ) (comes : came ≡ d.came) where
  abbrev end : ℕ
  end = have + came

  abbrev behind : Listening
  behind = record { at = 0; len = end; waiting = s.waiting; over = s.over; feed = s.feed; read = d; told = s.told }

  abbrev fresh : List ℕ
  fresh = drop have (take end b'')

  high : end ≤ length b''
  high = omega (arith, f.long, f.most, f.room, long, short, is, comes)

  fresh_length : length fresh ≡ d.came
  fresh_length = rw (length-drop, length-take-le end b'' high) (omega (arith, comes))

  exact : d.all ≡ s.read.all + d.came
  unfolding counted
  exact = omega (arith, f.count, f.most, f.room, long, enough)

  delivered : Delivers b s b'' behind
  unfolding unheard
  delivered =
      let front : end - 0 ≡ end = omega arith in
      let low : have ≤ end = omega arith in
      record {
        got = fresh;
        are =
            rw (← is, front, ← moved, ← f.kept, ← take-take have end b'' low) (take-append-drop have (take end b''));
        came = fresh_length;
        offered = omega (arith, f.room, long, short, is);
        count = rw fresh_length exact;
        over = refl;
        feed = refl;
      }

  delivered_stands : Stands b'' behind
  delivered_stands =
      record {
        low = omega arith;
        in_b = omega (arith, high, f.long, long);
        long = f.long ∙ long;
        count = omega (arith, stands.count, is, exact, comes);
        most = omega (arith, exact, f.most, f.room, long, enough);
        counted = omega (arith, stands.counted, is, exact, comes);
        space = stands.space;
        taken = stands.taken;
      }

  pub delivered_both : Delivers b s b'' behind × Stands b'' behind
  delivered_both = (delivered, delivered_stands)

-- ---- the state after a line

-- THE LINES WAIT ON, or are handed over where there is no room for one more
module _ (s : Listening) (going : s.over ≡ false) (took : took_all s.told ≡ true) where
  pub room_written : (w : Listening) → WritesOut s false w → MakesRoom s w
  room_written w p =
      record {
        waits = goes_out p.lines.none p.lines.hands;
        at = p.at;
        len = p.len;
        feed = p.feed;
        read = p.read;
        goes_on = p.goes_on;
        space = rw p.lines.none (omega arith);
      }

  pub room_is : s.waiting ≤ room - line_most → MakesRoom s s
  room_is few =
      record {
        waits = waits_on refl refl;
        at = refl;
        len = refl;
        feed = refl;
        read = refl;
        goes_on = rw (going, took) refl;
        space = omega arith;
      }

-- what waits behind a line waits in the state before it
waits_before : {s : Listening} {n at : ℕ} {feed : Feed} {w : Listening} → Waits (gathered s n at feed) n w → Waits s n w
waits_before (waits_on e same) = waits_on e same
waits_before (goes_out none h) = goes_out none h

-- the line of a stream that has no end
pub told_unended : (s : Listening) (o o' : List ℕ) (n : ℕ) (none : Feed) → s.feed.stream.began ≡ true
    → none ≡ not_alone no_stream
    → Wrote o s.waiting o' n (word_line unended_word (pos s.feed.stream.count ∷ [])) line_most
    → (w : Listening) → MakesRoom (gathered s n s.at none) w → TellsUnended s o w o'
unfolding unended_line
told_unended s o o' n none began is wrote w m =
    record {
      line = record { end = n; wrote = rw began wrote; waits = waits_before m.waits };
      at = m.at;
      goes_on = m.goes_on;
      feed = m.feed ∙ is;
      len = m.len;
      read = m.read;
      space = m.space;
    }

-- ---- a step

pub is_going : (b : List ℕ) (s : Listening) → Stands b s → s.over ≡ false → Going s
is_going b s stands going =
    record {
      low = stands.low;
      count = stands.count;
      most = stands.most;
      counted = stands.counted;
      space = stands.space;
      going = going;
      taken = stands.taken going;
    }

-- a message counts for one at most
counts_one : (s : Stream) (h : ReaderAnswer) (bytes : List ℕ) → (stream_after s h bytes).count ≤ s.count + 1
unfolding stream_after
counts_one s h bytes = go (is_begin h) (is_end h) s.began
  where
    go : (begins closes began : Bool)
        → (pick begins (record { began = true; count = 1; sum = sum_of bytes })
        (pick closes no_stream
        (pick began (record { began = true; count = suc s.count; sum = sum_on s.sum bytes }) s))).count
        ≤ s.count + 1
    go true closes began = omega arith
    go false true began = omega arith
    go false false true = omega arith
    go false false false = omega arith

-- what is not counted down any more is at most what it was
one_most : (x : Bool) → one x ≤ 1
one_most true = omega arith
one_most false = omega arith

module _ (b : List ℕ) (s : Listening) (stands : Stands b s) (going : s.over ≡ false) where
  -- a line is told
  module _ (h : ReaderAnswer) (o : List ℕ) (r : Listening) (o' : List ℕ) (tells : Tells b s h o r o')
      (within : accepts s h ≡ true → (s.at < h.next) × (h.next ≤ s.len)) where
    told_place_within : (x : Bool) → accepts s h ≡ x → (s.at ≤ r.at) × (r.at ≤ s.len)
    told_place_within true e = let q = within e in rw (tells.accepted e).0 (omega (arith, q.0), q.1)
    told_place_within false e = rw (tells.refused e).0 (omega arith, stands.low)

    abbrev place_is : (s.at ≤ r.at) × (r.at ≤ s.len)
    place_is = told_place_within (accepts s h) refl

    told_counted : (x : Bool) → accepts s h ≡ x → r.feed.stream.count + (s.len - r.at) ≤ s.read.all
    unfolding feed_after
    told_counted true e =
        let q = within e in
        let one_more = counts_one s.feed.stream h (own_bytes_in b s h) in
        rw ((tells.accepted e).0, (tells.accepted e).2) (omega (arith, stands.counted, q.0, q.1, one_more))
    told_counted false e = rw ((tells.refused e).0, (tells.refused e).3) stands.counted

    pub told_stands : Stands b r
    told_stands =
        record {
          low = rw tells.len place_is.1;
          in_b = rw tells.len stands.in_b;
          long = stands.long;
          count = rw (tells.len, tells.read) (omega (arith, stands.count, place_is.0, place_is.1));
          most = rw tells.read stands.most;
          counted = rw (tells.len, tells.read) (told_counted (accepts s h) refl);
          space = tells.space;
          taken = went (accepts s h) refl;
        }
      where
        went : (x : Bool) → accepts s h ≡ x → r.over ≡ false → took_all r.told ≡ true
        went true e k = not_false (took_all r.told) (sym (tells.accepted e).1 ∙ k)
        went false e k = absurd (not_true_and_false r.over (tells.refused e).1 k)

    fewer : (x : Bool) → accepts s h ≡ x
        → 2 * (s.len - r.at) + one r.over + one (not r.feed.stream.began)
        < 2 * (s.len - s.at) + 1 + one (not s.feed.stream.began)
    fewer true e =
        let q = within e in
        omega (
          arith,
          (tells.accepted e).0,
          q.0,
          q.1,
          one_most r.over,
          one_most (not r.feed.stream.began),
        )
    fewer false e = rw ((tells.refused e).0, (tells.refused e).1, (tells.refused e).3) (omega arith)

    pub told_nearer : to_go r < to_go s
    told_nearer =
        rw (tells.len, tells.read, going) (omega (arith, fewer (accepts s h) refl))

  -- a stream has no end
  module _ (o : List ℕ) (r : Listening) (o' : List ℕ) (t : TellsUnended s o r o')
      (began : s.feed.stream.began ≡ true) where
    pub unended_stands : Stands b r
    unended_stands =
        record {
          low = rw (t.at, t.len) stands.low;
          in_b = rw t.len stands.in_b;
          long = stands.long;
          count = rw (t.at, t.len, t.read) stands.count;
          most = rw t.read stands.most;
          counted = rw (t.at, t.len, t.read, t.feed) (omega (arith, stands.count));
          space = t.space;
          taken = λ e. not_false (took_all r.told) (sym t.goes_on ∙ e);
        }

    pub unended_nearer : to_go r < to_go s
    unended_nearer = rw (t.at, t.len, t.read, t.feed, going, began) (omega (arith, one_most r.over))

  -- nothing more is heard
  module _ (r : Listening) (over : Over s r) where
    pub over_stands : Stands b r
    over_stands =
        record {
          low = rw (over.at, over.len) stands.low;
          in_b = rw over.len stands.in_b;
          long = stands.long;
          count = rw (over.at, over.len, over.read) stands.count;
          most = rw over.read stands.most;
          counted = rw (over.at, over.len, over.read, over.feed) stands.counted;
          space = rw over.lines.none (omega arith);
          taken = λ e. absurd (not_true_and_false r.over over.over e);
        }

    pub over_nearer : to_go r < to_go s
    over_nearer = rw (over.at, over.len, over.read, over.over, over.feed, going) (omega arith)

  -- more is delivered
  module _ (b' : List ℕ) (r : Listening) (d : Delivers b s b' r) (r-stands : Stands b' r) (r-going : r.over ≡ false)
      (not-ended : has_ended s.read ≡ false) where
    grown : r.len - r.at ≡ s.len - s.at + length d.got
    grown =
        sym (unheard_length b' r r-stands) ∙ ap length (sym d.are) ∙ length-append (unheard b s) d.got
        ∙ rw (unheard_length b s stands)

    fewer_ends : (x : Bool) → has_ended r.read ≡ x → one (has_ended r.read) < 1 + length d.got
    fewer_ends true e = rw e (omega arith)
    fewer_ends false e = rw e (omega (arith, d.came, not_ended_is_some r.read d.offered e))

    pub delivers_nearer : to_go r < to_go s
    delivers_nearer =
        rw (not-ended, going, r-going, d.feed)
        (omega (arith, d.count, r-stands.most, grown, fewer_ends (has_ended r.read) refl))

-- ---- reading on

module _ (b : List ℕ) (s : Listening) (stands : Stands b s) (going : s.over ≡ false) (w : Listening)
    (p : WritesOut s false w) where
  pub written_stands : Stands b w
  written_stands =
      record {
        low = rw (p.at, p.len) stands.low;
        in_b = rw p.len stands.in_b;
        long = stands.long;
        count = rw (p.at, p.len, p.read) stands.count;
        most = rw p.read stands.most;
        counted = rw (p.at, p.len, p.read, p.feed) stands.counted;
        space = rw p.lines.none (omega arith);
        taken = λ e. not_false (took_all w.told) (sym p.goes_on ∙ e);
      }

  pub write_failed : w.over ≡ true → ReadsOn b s b w
  write_failed e =
      let over : Over s w = record {
        over = e;
        lines = p.lines;
        at = p.at;
        len = p.len;
        feed = p.feed;
        read = p.read;
      } in
      record {
        is = inr (refl, not_taken (not_true (took_all w.told) (sym p.goes_on ∙ e)), over);
        stands = written_stands;
      }

  pub count_used_up : (r : Listening)
      → r ≡ record {
        at = w.at;
        len = w.len;
        waiting = w.waiting;
        over = true;
        feed = w.feed;
        read = w.read;
        told = w.told;
      }
      → count_most - w.read.all ≤ room → ReadsOn b s b r
  count_used_up r e few =
      let over : Over s r = record {
        over = rw e refl;
        lines = rw e (record { none = p.lines.none; hands = p.lines.hands });
        at = rw e p.at;
        len = rw e p.len;
        feed = rw e p.feed;
        read = rw e p.read;
      } in
      record {
        is = inr (refl, uncounted (rw e (omega (arith, few))), over);
        stands = over_stands b s stands going r over;
      }

  pub reads_more : (b' : List ℕ) (r : Listening) → w.over ≡ false → Delivers b w b' r → Stands b' r
      → r.waiting ≡ w.waiting → r.told ≡ w.told → ReadsOn b s b' r
  unfolding unheard
  reads_more b' r e d t same same' =
      record {
        is =
            inl (
              record {
                got = d.got;
                are = rw (p.at, p.len) at d.are;
                came = d.came;
                offered = d.offered;
                count = rw p.read at d.count;
                over = d.over ∙ e ∙ sym going;
                feed = d.feed ∙ p.feed;
              },
              record { none = same ∙ p.lines.none; hands = rw same' p.lines.hands },
            );
        stands = t;
      }

-- ---- the steps

module _ (b : List ℕ) (s : Listening) (o : List ℕ) (stands : Stands b s) (going : s.over ≡ false) (h : ReaderAnswer)
    (heard : h ≡ heard_in b s) (cut : Bool) (is : cut ≡ is_cut h) where
  cut_is : is_cut (heard_in b s) ≡ cut
  cut_is = rw (is, heard)

  -- where more is read there is room for it
  pub steps_room : not cut ≡ false → s.len - s.at < room
  steps_room cut_short = cut_leaves_room b s stands (cut_is ∙ not_false cut cut_short)

  -- the place behind a message
  pub within : accepts s h ≡ true → (s.at < h.next) × (h.next ≤ s.len) × (s.len ≤ length b)
  within e =
      let length-is : length (take s.len b) ≡ s.len = length-take-le s.len b (omega (
        arith,
        stands.in_b,
        stands.long,
      )) in
      let q = accepted_within (take s.len b) s.at s.feed.stream (rw heard at e) in
      rw heard (q.0, rw length-is at q.1, omega (arith, stands.in_b, stands.long))

  told : (r : Listening) (o' : List ℕ) → Sure b s → Hears b s h o r o' → Steps b s o b r o'
  told r o' sure (goes_on on t) =
      let place : accepts s h ≡ true → (s.at < h.next) × (h.next ≤ s.len) =
      λ e. ((within e).0, (within e).1) in
      record {
        is = tells sure (rw heard at on) refl (rw heard at t);
        stands = told_stands b s stands going h o r o' t place;
        nearer = told_nearer b s stands going h o r o' t place;
      }
  told r o' sure (breaks_off_lem began begins t) =
      record {
        is = unended began (inl (sure, rw heard at begins)) refl t;
        stands = unended_stands b s stands going o r o' t began;
        nearer = unended_nearer b s stands going o r o' t began;
      }

  pub steps_whole : (r : Listening) (o' : List ℕ) → not cut ≡ true → Hears b s h o r o' → Steps b s o b r o'
  steps_whole r o' whole t = told r o' (inl (cut_is ∙ not_true cut whole)) t

  pub steps_cut : (r : Listening) (o' : List ℕ) → has_ended s.read ≡ true → (s.at ≡ s.len → ⊥)
      → Hears b s h o r o' → Steps b s o b r o'
  steps_cut r o' e z t = told r o' (inr (e, below s.at s.len stands.low z)) t
    where
      below : (x y : ℕ) → x ≤ y → (x ≡ y → ⊥) → x < y
      below x y k n = go (ltb x y) refl
        where
          go : (c : Bool) → ltb x y ≡ c → x < y
          go true f = ltb-true x y f
          go false f = let u : y ≤ x = ltb-false x y f in absurd (n (omega arith))

  pub steps_on : (b' : List ℕ) (r : Listening) → not cut ≡ false → has_ended s.read ≡ false → ReadsOn b s b' r
      → Steps b s o b' r o
  steps_on b' r cut_short not-ended q = go q.is
    where
      go : (Delivers b s b' r × HandsOver s r) ⊎ ((b' ≡ b) × Stops r × Over s r) → Steps b s o b' r o
      go (inl d) =
          record {
            is = delivers (cut_is ∙ not_false cut cut_short) not-ended refl d.0 d.1;
            stands = q.stands;
            nearer = delivers_nearer b s stands going b' r d.0 q.stands (d.0.over ∙ going) not-ended;
          }
      go (inr e) =
          record {
            is = ends e.1 e.0 refl e.2;
            stands = q.stands;
            nearer = over_nearer b s stands going r e.2;
          }

  pub steps_end : (r : Listening) (o' : List ℕ) → has_ended s.read ≡ true → s.at ≡ s.len → Finishes s o r o'
      → Steps b s o b r o'
  steps_end r o' e z (without_end began t) =
      record {
        is = unended began (inr (e, z)) refl t;
        stands = unended_stands b s stands going o r o' t began;
        nearer = unended_nearer b s stands going o r o' t began;
      }
  steps_end r o' e z (is_last none same p) =
      let over : Over s r = record {
        over = p.goes_on;
        lines = p.lines;
        at = p.at;
        len = p.len;
        feed = p.feed;
        read = p.read;
      } in
      record {
        is = ends (heard_all (rw p.read e) (p.at ∙ z ∙ sym p.len) (rw p.feed none)) refl same over;
        stands = over_stands b s stands going r over;
        nearer = over_nearer b s stands going r over;
      }

-- ---- every step

pub record Came (b₀ o₀ b : List ℕ) (s : Listening) (o : List ℕ) : Type 0 where
  pub got : List ℕ
  pub text : List ℕ
  pub handed : List ℕ
  pub run : Run b₀ o₀ b s o got text handed
  pub stands : Stands b s
  pub o_long : length o ≡ room
  pub came : s.read.all ≡ length got
  pub waits : handed ++ take s.waiting o ≡ text
  pub count : Counted 0 (length handed) s.told.all

pub came_first : (b o : List ℕ) (s : Listening) → room ≡ length b → room ≡ length o → s ≡ start_listening
    → Came b o b s o
came_first b o s long o_long e =
    rw e
    (record {
      got = [];
      text = [];
      handed = [];
      run = starts;
      stands =
          record {
            low = omega arith;
            in_b = omega arith;
            long = sym long;
            count = omega arith;
            most = omega arith;
            counted = omega arith;
            space = omega arith;
            taken = λ _. refl;
          };
      o_long = sym o_long;
      came = refl;
      waits = refl;
      count = counted_none 0;
    })

-- n bytes more are handed over
handed_on : (handed o : List ℕ) (n : ℕ) (s r : Listening) → n ≤ length o → Counted 0 (length handed) s.told.all
    → Hands n s.told r.told → Counted 0 (length (handed ++ take n o)) r.told.all
handed_on handed o n s r h c k =
    rw (length-append handed (take n o), length-take-le n o h)
    (counted_on 0 (length handed) s.told.all n r.told.all c k.count)

module _ {b₀ o₀ b : List ℕ} {s : Listening} {o : List ℕ} (c : Came b₀ o₀ b s o) (going : s.over ≡ false) where
  -- all lines that wait are handed over
  module _ {r : Listening} {o' : List ℕ} (out : HandsOver s r) (same : o' ≡ o) where
    out_waits : (c.handed ++ take s.waiting o) ++ take r.waiting o' ≡ c.text ++ []
    out_waits =
        rw (out.none, append-nil (c.handed ++ take s.waiting o), append-nil c.text)
        c.waits

    out_count : Counted 0 (length (c.handed ++ take s.waiting o)) r.told.all
    out_count =
        handed_on c.handed o s.waiting s r (omega (arith, c.stands.space, c.o_long)) c.count out.hands

  -- a line more, and then they wait on, or all of them are
  module _ {r : Listening} {o' text : List ℕ} (g : Gathers s o r o' text) where
    within_o : g.end ≤ length o
    within_o = omega (arith, g.wrote.most, c.stands.space, c.o_long)

    same_size : length o' ≡ length o
    same_size = ap length g.wrote.bytes ∙ length-sets o s.waiting text

    with_line : c.handed ++ take g.end o' ≡ c.text ++ text
    with_line =
        rw (appended g.wrote within_o)
        (sym (append_assoc c.handed (take s.waiting o) text) ∙ ap (λ (z : List ℕ). z ++ text) c.waits)

    line_waits : (w : Waits s g.end r)
        → (c.handed ++ handed_of w o') ++ take r.waiting o' ≡ c.text ++ text
    line_waits (waits_on e same) = rw (append-nil c.handed, e) with_line
    line_waits (goes_out none h) = rw (none, append-nil (c.handed ++ take g.end o')) with_line

    line_count_lem : (w : Waits s g.end r) → Counted 0 (length (c.handed ++ handed_of w o')) r.told.all
    line_count_lem (waits_on e same) = rw (append-nil c.handed, same) c.count
    line_count_lem (goes_out none h) =
        handed_on c.handed o' g.end s r (rw same_size within_o) c.count h

  came_by : {b' : List ℕ} {r : Listening} {o' : List ℕ} → Stands b' r → (x : Step b s o b' r o') → Came b₀ o₀ b' r o'
  came_by {b'} {r} {o'} stands (unended began why same t) =
      record {
        got = c.got ++ [];
        text = c.text ++ unended_line s.feed.stream;
        handed = c.handed ++ handed_of t.line.waits o';
        run = goes c.run going c.stands (unended began why same t);
        stands = stands;
        o_long = same_size t.line ∙ c.o_long;
        came = rw (t.read, append-nil c.got) c.came;
        waits = line_waits t.line t.line.waits;
        count = line_count_lem t.line t.line.waits;
      }
  came_by {b'} {r} {o'} stands (tells sure on same t) =
      record {
        got = c.got ++ [];
        text = c.text ++ line_of (place_of s) (number_on s (heard_in b s)) (heard_in b s);
        handed = c.handed ++ handed_of t.line.waits o';
        run = goes c.run going c.stands (tells sure on same t);
        stands = stands;
        o_long = same_size t.line ∙ c.o_long;
        came = rw (t.read, append-nil c.got) c.came;
        waits = line_waits t.line t.line.waits;
        count = line_count_lem t.line t.line.waits;
      }
  came_by {b'} {r} {o'} stands (delivers cut not-ended same d out) =
      record {
        got = c.got ++ d.got;
        text = c.text ++ [];
        handed = c.handed ++ take s.waiting o;
        run = goes c.run going c.stands (delivers cut not-ended same d out);
        stands = stands;
        o_long = ap length same ∙ c.o_long;
        came = omega (arith, d.count, c.came, length-append c.got d.got);
        waits = out_waits out same;
        count = out_count out same;
      }
  came_by {b'} {r} {o'} stands (ends why same same' v) =
      record {
        got = c.got ++ [];
        text = c.text ++ [];
        handed = c.handed ++ take s.waiting o;
        run = goes c.run going c.stands (ends why same same' v);
        stands = stands;
        o_long = ap length same' ∙ c.o_long;
        came = rw (v.read, append-nil c.got) c.came;
        waits = out_waits v.lines same';
        count = out_count v.lines same';
      }

pub came_more : {b₀ o₀ b : List ℕ} {s : Listening} {o b' : List ℕ} {r : Listening} {o' : List ℕ}
    → Came b₀ o₀ b s o → s.over ≡ false → Steps b s o b' r o' → Came b₀ o₀ b' r o'
came_more c going x = came_by c going x.stands x.is

-- ---- the end

-- a message was told last, and it is over: it is refused, or a write failed
over_told : {b : List ℕ} {s : Listening} {o b' : List ℕ} {r : Listening} {o' : List ℕ} → Sure b s → b' ≡ b
    → Tells b s (heard_in b s) o r o' → r.over ≡ true → Ends b' r
over_told {b} {s} {o} {b'} {r} {o'} sure same t over = go (accepts s (heard_in b s)) refl
  where
    go : (x : Bool) → accepts s (heard_in b s) ≡ x → Ends b' r
    go true e = stopped (not_taken (not_true (took_all r.told) (sym (t.accepted e).1 ∙ over)))
    go false e =
        refuses (rw (same, t.len, (t.refused e).0, (t.refused e).3) e)
        (rw (same, t.len, (t.refused e).0, t.read) sure)

why_over : {b₀ o₀ b : List ℕ} {s : Listening} {o got text handed : List ℕ} → Run b₀ o₀ b s o got text handed
    → s.over ≡ true → Ends b s
why_over starts over = absurd (not_true_and_false false over refl)
why_over (goes run on stands (tells sure still same t)) over = over_told sure same t over
why_over {s = r} (goes run on stands (unended began why same t)) over =
    stopped (not_taken (not_true (took_all r.told) (sym t.goes_on ∙ over)))
why_over {s = r} (goes run on stands (delivers cut going same d out)) over =
    absurd (not_true_and_false r.over over (d.over ∙ on))
why_over (goes run on stands (ends why same same' v)) over = stopped why

-- no line waits then
none_gathered : {b : List ℕ} {s r : Listening} {n : ℕ} → Stands b s → s.over ≡ false
    → r.over ≡ not (took_all r.told) → r.over ≡ true → Waits s n r → r.waiting ≡ 0
none_gathered stands going on over (goes_out none k) = none
none_gathered {s = s} {r = r} stands going on over (waits_on k same) =
    absurd (not_true_and_false r.over over (on ∙ rw (same, stands.taken going) refl))

none_told : {b : List ℕ} {s : Listening} {h : ReaderAnswer} {o : List ℕ} {r : Listening} {o' : List ℕ} → Stands b s
    → s.over ≡ false → Tells b s h o r o' → r.over ≡ true → r.waiting ≡ 0
none_told {b} {s} {h} {o} {r} {o'} stands going t over = go (accepts s h) refl
  where
    go : (x : Bool) → accepts s h ≡ x → r.waiting ≡ 0
    go false e = (t.refused e).2
    go true e = none_gathered stands going (t.accepted e).1 over t.line.waits

none_wait : {b₀ o₀ b : List ℕ} {s : Listening} {o got text handed : List ℕ} → Run b₀ o₀ b s o got text handed
    → s.over ≡ true → s.waiting ≡ 0
none_wait starts over = refl
none_wait (goes run on stands (tells sure still same t)) over = none_told stands on t over
none_wait (goes run on stands (unended began why same t)) over =
    none_gathered stands on t.goes_on over t.line.waits
none_wait (goes run on stands (delivers cut going same d out)) over = out.none
none_wait (goes run on stands (ends why same same' v)) over = v.lines.none

pub came_over : {b₀ o₀ b : List ℕ} {s : Listening} {o : List ℕ} → Came b₀ o₀ b s o → s.over ≡ true → Listens s
came_over {b₀} {o₀} {b} {s} {o} c over =
    record {
      b₀ = b₀;
      o₀ = o₀;
      b = b;
      o = o;
      got = c.got;
      text = c.text;
      handed = c.handed;
      run = c.run;
      over = over;
      why = why_over c.run over;
      came = c.came;
      whole = sym (append-nil c.handed) ∙ (rw (none_wait c.run over) at c.waits);
      count = c.count;
    }
