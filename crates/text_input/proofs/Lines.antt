-- The next line of the input, however it came to stand in the buffer.
use mathlib.Core.Path.{◌≡◌, refl, sym, ap, ◌∙◌}
use mathlib.Core.Logic.{◌⊎◌, ⊎_elim, inl, inr}
use mathlib.Core.Bool.{Bool, true, false, not}
use mathlib.Core.List.{List, [], ◌∷◌, ◌++◌, append-nil, append_assoc}
use Prim.Native.Nat.{ℕ, zero, suc, ◌+◌, ◌-◌, ◌≤◌, ◌<◌}
use native.Mathlib.Omega.{arith}
use lib.Dec.{eqb}
use lib.IntN.{ℤ}
use lib.ListN.{length, take, drop, get_or, length-append, length-drop}
use lib.Seq.{split_at, take-take, drop-drop, length-take-le}
use borrow.Author.Tests.{eqb-true}
use Rattle.std.specs.Prelude.{None, Some}
use Rattle.paper.specs.Lists.{pick}
use Rattle.text_bytes.specs.Bytes.{line_feed, is_not, run, room}
use Rattle.text_protocol.specs.Line.{NoCall, meaning, longest}
use Rattle.text_evidence.specs.declared.Delivered.{Delivered}
use Rattle.text_evidence.specs.Evidence.{has_ended, Counted, counted_none, counted_on}
use Rattle.text_line.proofs.LineLoop.{long_line}
use Rattle.text_input.specs.declared.Input.{Input}
use Rattle.text_input.specs.declared.Behind.{Behind}
use Rattle.text_input.specs.declared.Passed.{Passed}
use Rattle.text_input.specs.Input.{line_length, Unbroken, unread, Stands, StandsAt, Over, Ends, Next, Passes, Found}
use Rattle.text_input.specs.Input.{Readied, LongPassed}
use Rattle.text_input.proofs.InputLoops.{unbroken_both}
use Rattle.text_evidence.proofs.Shifting.{drop_take_of}

-- ---- the first line feed of a text

run_ends : (t : List ℕ) → run (is_not line_feed) t < length t → get_or t (run (is_not line_feed) t) 0 ≡ line_feed
unfolding run is_not
run_ends [] h = let z : ⊥ = omega arith in absurd z
run_ends (b ∷ t) h = go (eqb b line_feed) refl h (λ k. run_ends t k)
  where
    go : (x : Bool) → eqb b line_feed ≡ x → pick (not x) (suc (run (is_not line_feed) t)) 0 < suc (length t)
        → (run (is_not line_feed) t < length t → get_or t (run (is_not line_feed) t) 0 ≡ line_feed)
        → get_or (b ∷ t) (pick (not x) (suc (run (is_not line_feed) t)) 0) 0 ≡ line_feed
    go true e k f = eqb-true b line_feed e
    go false e k f = f (omega arith)

run_unbroken : (t : List ℕ)
    → run (is_not line_feed) (take (run (is_not line_feed) t) t) ≡ length (take (run (is_not line_feed) t) t)
unfolding run
run_unbroken [] = refl
run_unbroken (b ∷ t) = go (is_not line_feed b) refl (run_unbroken t)
  where
    go : (x : Bool) → is_not line_feed b ≡ x
        → run (is_not line_feed) (take (run (is_not line_feed) t) t) ≡ length (take (run (is_not line_feed) t) t)
        → run (is_not line_feed) (take (pick x (suc (run (is_not line_feed) t)) 0) (b ∷ t))
        ≡ length (take (pick x (suc (run (is_not line_feed) t)) 0) (b ∷ t))
    go true e f = rw e (ap suc f)
    go false e f = refl

pub line_unbroken : (t : List ℕ) → Unbroken (take (line_length t) t)
unfolding line_length
line_unbroken t = run_unbroken t

-- THE LAW: a text with a line feed is its first line, the line feed, and the rest
pub line_split : (t : List ℕ) → line_length t < length t
    → t ≡ take (line_length t) t ++ line_feed ∷ drop (suc (line_length t)) t
unfolding line_length
line_split t h =
    let n : ℕ = run (is_not line_feed) t in
    let s : t ≡ take n t ++ get_or t n 0 ∷ drop (suc n) t = split_at t n 0 h in
    rw (run_ends t h) at s

-- nothing stands between a place and itself
pub empty_end : (b : List ℕ) (n : ℕ) (read : Delivered)
    → n ≡ n + line_length (unread b (record { at = n; end = n; len = n; left = 0; read = read }))
unfolding line_length unread run
empty_end b n read = let e : n - n ≡ zero = omega arith in rw e (omega arith)

-- what stands behind a place
pub unread_behind : (b : List ℕ) (r : Input) (at len : ℕ) → r.at ≡ at → r.len ≡ len → drop at (take len b) ≡ unread b
    r
unfolding unread
unread_behind b r at len e f = drop_take_of at len b ∙ rw (e, f)

-- ---- a line that is whole in the buffer

module _ (b : List ℕ) (i : Input) (p : Stands b i) where
  size : length (unread b i) ≡ i.len - i.at
  unfolding unread
  size = length-take-le (i.len - i.at) (drop i.at b) (rw (length-drop i.at b) (omega (arith, p.in_b, p.long)))

  first : line_length (unread b i) ≡ i.end - i.at
  first = omega (arith, p.is, p.low)

  -- the bytes that are lent to the reader
  part : take (i.end - i.at) (unread b i) ≡ take (i.end - i.at) (drop i.at b)
  unfolding unread
  part = take-take (i.end - i.at) (i.len - i.at) (drop i.at b) (omega (arith, p.high))

  module _ (r : Input) (at : r.at ≡ i.end + 1) (len : r.len ≡ i.len) (left : r.left ≡ i.left - 1)
      (same : r.read ≡ i.read) (s : Stands b r) (h : i.end < i.len) where
    rest : drop (suc (i.end - i.at)) (unread b i) ≡ unread b r
    unfolding unread
    rest =
        let m : i.len - i.at - suc (i.end - i.at) ≡ i.len - (i.end + 1) = omega (arith, p.low) in
        let n : i.at + suc (i.end - i.at) ≡ i.end + 1 = omega (arith, p.low) in
        drop_take_of (suc (i.end - i.at)) (i.len - i.at) (drop i.at b)
        ∙ rw (m, drop-drop (suc (i.end - i.at)) i.at b, n, at, len)

    pub next_whole : Next b i b r (take (i.end - i.at) (drop i.at b))
    next_whole =
        let o : line_length (unread b i) < length (unread b i) = omega (arith, first, size, p.low) in
        let u : Unbroken (take (line_length (unread b i)) (unread b i)) = line_unbroken (unread b i) in
        let e : unread b i ≡ take (line_length (unread b i)) (unread b i) ++ line_feed ∷
        drop (suc (line_length (unread b i))) (unread b i) =
        line_split (unread b i) o in
        record {
          got = [];
          count = rw same (counted_none i.read.all);
          unbroken = rw (first, part) at u;
          are = inl (append-nil (unread b i) ∙ (rw (first, part, rest) at e), left);
          stands = s;
        }

  -- ---- all that there is, where the input has ended

  module _ (h : i.len ≤ i.end) where
    whole : take (i.end - i.at) (drop i.at b) ≡ unread b i
    unfolding unread
    whole = let e : i.end - i.at ≡ i.len - i.at = omega (arith, p.high) in rw e

    unbroken_all : Unbroken (unread b i)
    unbroken_all = omega (arith, first, size, p.high)

    pub next_last : (r : Input) → has_ended i.read ≡ true
        → r ≡ record { at = i.len; end = i.len; len = i.len; left = 0; read = i.read }
        → Next b i b r (take (i.end - i.at) (drop i.at b))
    next_last r ended e =
        rw (whole, e)
        (record {
          got = [];
          count = counted_none i.read.all;
          unbroken = unbroken_all;
          are = inr (append-nil (unread b i), over);
          stands = nothing_left;
        })
      where
        -- the line is all that stood in the buffer from `at` on
        over : Ends b (record { at = i.len; end = i.len; len = i.len; left = 0; read = i.read }) (unread b i)
        over =
            record {
              over = inl ended;
              none = refl;
              used = refl;
              from = i.at;
              last = inl (sym (unread_behind b i i.at i.len refl refl));
            }

        nothing_left : Stands b (record { at = i.len; end = i.len; len = i.len; left = 0; read = i.read })
        nothing_left =
            record {
              low = omega arith;
              high = omega arith;
              in_b = p.in_b;
              long = p.long;
              is = empty_end b i.len i.read;
            }

    -- ---- a line that is longer than the buffer

    module _ (z : i.at ≡ 0) (o : longest < i.len) (b' : List ℕ) (r : Input)
        (q : LongPassed i.read b' i.left r) where
      abbrev long : List ℕ
      long = unread b i ++ q.rest

      long_size : room ≤ length long
      long_size = omega (arith, length-append (unread b i) q.rest, size, z, o)

      pub next_long : Next b i b' r long
      next_long =
          record {
            got = q.got;
            count = q.count;
            unbroken = unbroken_both (unread b i) q.rest unbroken_all q.unbroken;
            are =
                ⊎_elim
                (λ e. inl (more e.0 ∙ sym (append_assoc (unread b i) q.rest (line_feed ∷ unread b' r)), e.1))
                (λ e. inr (more e.0, ends e.1 e.2 e.3))
                q.are;
            stands = q.stands;
          }
        where
          ends : r.left ≡ 0 → r.at ≡ r.len → Over r.read q.rest → Ends b' r long
          ends none used over =
              record { over = longer over; none = none; used = used; from = 0; last = inr long_size }
            where
              longer : Over r.read q.rest → Over r.read long
              longer (inl e) = inl e
              longer (inr k) = inr (omega (arith, k, length-append (unread b i) q.rest))

          more : {t : List ℕ} → q.got ≡ t → unread b i ++ q.got ≡ unread b i ++ t
          more e = ap (λ (t : List ℕ). unread b i ++ t) e

      pub long_says : NoCall ≡ meaning long
      long_says = long_line long (omega (arith, long_size))

      pub long_is_long : longest < length long
      long_is_long = omega (arith, long_size)

-- where a line stands that is whole, or all that there is
pub stands_there : {b : List ℕ} {i : Input} → Stands b i → (i.end < i.len) ⊎ (i.len ≤ longest)
    → StandsAt b i.at i.end (take (i.end - i.at) (drop i.at b))
stands_there {b} {i} p h =
    record { low = p.low; high = omega (arith, p.high, p.in_b, p.long); short = fits h; is = inl refl }
  where
    fits : (i.end < i.len) ⊎ (i.len ≤ longest) → i.end - i.at ≤ longest
    fits (inl k) = omega (arith, k, p.in_b)
    fits (inr k) = omega (arith, k, p.high)

-- ---- the input that was made ready

pub next_readied : {b : List ℕ} {s : Input} {b' : List ℕ} {i : Input} {b'' : List ℕ} {r : Input} {line : List ℕ}
    → Readied b s b' i → Next b' i b'' r line → Next b s b'' r line
next_readied {b} {s} {b'} {i} {b''} {r} {line} p q =
    let e : unread b s ++ (p.got ++ q.got) ≡ unread b' i ++ q.got =
    sym (append_assoc (unread b s) p.got q.got) ∙ ap (λ (t : List ℕ). t ++ q.got) p.are in
    record {
      got = p.got ++ q.got;
      count = rw (length-append p.got q.got) (counted_on _ _ _ _ _ p.count q.count);
      unbroken = q.unbroken;
      are = ⊎_elim (λ f. inl (e ∙ f.0, omega (arith, f.1, p.left))) (λ f. inr (e ∙ f.0, f.1)) q.are;
      stands = q.stands;
    }

-- where no line is whole, what is delivered stands at the front, and the buffer is full or the input has ended
pub at_front : {A : Type 0} (end len : ℕ) → (end < len) ⊎ A → len ≤ end → A
at_front {A} end len p h = ⊎_elim (λ k. never k) (λ e. e) p
  where
    never : end < len → A
    never k = let z : ⊥ = omega arith in absurd z

-- where the buffer is not full, the input has ended
pub not_full : {A : Type 0} (len : ℕ) → (room ≤ len) ⊎ A → len ≤ longest → A
not_full {A} len p h = ⊎_elim (λ k. never k) (λ e. e) p
  where
    never : room ≤ len → A
    never k = let z : ⊥ = omega arith in absurd z

-- ---- behind a line that is longer than the buffer

module _ (was : Delivered) (b : List ℕ) (p : Passed) (q : Passes was b p) (left : ℕ) (r : Input) where
  pub long_ended : p.behind ≡ None
      → r ≡ record { at = 0; end = 0; len = 0; left = 0; read = p.read } → LongPassed was b left r
  long_ended none e =
      rw e
      (record {
        rest = q.before;
        unbroken = q.unbroken;
        got = q.before;
        count = over.0;
        are = inr (refl, refl, refl, over.1);
        stands = standing;
      })
    where
      over : Counted was.all (length q.before) p.read.all × Over p.read q.before
      over = rw none at q.is

      standing : Stands b (record { at = 0; end = 0; len = 0; left = 0; read = p.read })
      standing = record {
        low = omega arith;
        high = omega arith;
        in_b = omega arith;
        long = q.long;
        is = empty_end b 0 p.read;
      }

  module _ (f : Behind) (some : p.behind ≡ Some f) (at : r.at ≡ f.at) (len : r.len ≡ f.len)
      (fewer : r.left ≡ left - 1) (same : r.read ≡ p.read) (s : Stands b r) where
    found : Found was q.before b f p.read
    found = rw some at q.is

    pub long_found : LongPassed was b left r
    long_found =
        let t : List ℕ = take f.len b in
        let o : length t ≡ f.len = length-take-le f.len b (omega (arith, found.in_b, q.long)) in
        let h : line_length t < length t = omega (arith, found.in_len, o) in
        let u : t ≡ take (line_length t) t ++ line_feed ∷ drop (suc (line_length t)) t = line_split t h in
        let v : drop (suc (line_length t)) t ≡ unread b r = behind_is in
        record {
          rest = q.before ++ take (line_length t) t;
          unbroken = unbroken_both q.before (take (line_length t) t) q.unbroken (line_unbroken t);
          got = q.before ++ t;
          count = rw (same, length-append q.before t, o) found.count;
          are =
              inl (
                ap (λ (x : List ℕ). q.before ++ x) (u ∙ rw v)
                    ∙ sym (append_assoc q.before (take (line_length t) t) (line_feed ∷ unread b r)),
                fewer,
              );
          stands = s;
        }
      where
        behind_is : drop (suc (line_length (take f.len b))) (take f.len b) ≡ unread b r
        behind_is = unread_behind b r (suc (line_length (take f.len b))) f.len (omega (arith, at, found.is)) len
