-- One turn of each loop over the input, on plain values.
use mathlib.Core.Path.{◌≡◌, refl, sym, ap, ◌∙◌}
use mathlib.Core.Logic.{⊎_elim, inl, inr}
use mathlib.Core.Bool.{Bool, true, false}
use mathlib.Core.List.{List, [], ◌∷◌, ◌++◌, append-nil, append_assoc}
use Prim.Native.Nat.{ℕ, zero, suc, ◌+◌, ◌-◌, ◌≤◌, ◌<◌}
use native.Mathlib.Omega.{arith}
use native.Mathlib.Nat.{pos_of_ne-zero}
use native.Mathlib.Numerals.{lt_of_le_of_ne}
use borrow.Author.Tests.{lt-ltb}
use lib.ListN.{length, take, drop, length-append, length-drop}
use lib.Seq.{take-add, take-take, length-take-le}
use Rattle.std.specs.Prelude.{None, Some}
use Rattle.paper.specs.Lists.{pick}
use Rattle.text_bytes.specs.Bytes.{line_feed, is_not, run, room}
use Rattle.text_evidence.specs.declared.Delivered.{Delivered}
use Rattle.text_evidence.proofs.Shifting.{drop_take_of}
use Rattle.text_evidence.specs.Evidence.{count_most, counted, has_ended, Counted, counted_none, Fills}
use Rattle.text_input.specs.declared.Input.{Input}
use Rattle.text_input.specs.declared.Waited.{Waited}
use Rattle.text_input.specs.Input.{line_length, Unbroken, unread, Stands, Waits, Passes, Readied}

-- ---- the loop of `wait`

-- a run that reaches k goes on behind it
pub run_past : (q : ℕ → Bool) (t : List ℕ) (k : ℕ) → k ≤ length t → run q (take k t) ≡ k → run q t ≡ k + run q (drop k
    t)
unfolding run
run_past q t zero h e = let z : 0 + run q t ≡ run q t = omega arith in sym z
run_past q [] (suc k) h e = let z : ⊥ = omega arith in absurd z
run_past q (b ∷ t) (suc k) h e = go (q b) e (λ f. run_past q t k (omega arith) f)
  where
    go : (x : Bool) → pick x (suc (run q (take k t))) 0 ≡ suc k → (run q (take k t) ≡ k → run q t ≡ k + run q (drop k
        t))
        → pick x (suc (run q t)) 0 ≡ suc k + run q (drop k t)
    go true f g = let r : run q t ≡ k + run q (drop k t) = g (omega arith) in omega arith
    go false f g = let z : ⊥ = omega arith in absurd z

-- room was offered, and nothing came
pub ended_by : (d : Delivered) → 0 < d.room → d.came ≡ 0 → has_ended d ≡ true
ended_by d h e = rw (lt-ltb 0 d.room h, e)

-- what is delivered so far has no line feed
pub record Waiting (b₀ : List ℕ) (have : ℕ) (before : Delivered) (b : List ℕ) (len : ℕ) (read : Delivered)
    : Type 0 where
  pub got : List ℕ
  pub are : take len b ≡ take have b₀ ++ got
  pub count : Counted before.all (length got) read.all
  pub in_b : len ≤ room
  pub long : length b ≡ room
  pub unbroken : Unbroken (take len b)

pub waiting_none : (b : List ℕ) (have : ℕ) (before : Delivered) → length b ≡ room → have ≤ room
    → Unbroken (take have b) → Waiting b have before b have before
waiting_none b have before l h u =
    record {
      got = [];
      are = sym (append-nil (take have b));
      count = counted_none before.all;
      in_b = h;
      long = l;
      unbroken = u;
    }

module _ {b₀ : List ℕ} {have : ℕ} {before : Delivered} {b : List ℕ} {len : ℕ} {read : Delivered}
    (p : Waiting b₀ have before b len read) where
  taken : length (take len b) ≡ len
  taken = length-take-le len b (omega (arith, p.in_b, p.long))

  -- the buffer is full
  pub waiting_full : len ≡ length b → Waits b₀ have before b (record { len = len; end = len; read = read })
  waiting_full h =
      record {
        got = p.got;
        are = p.are;
        count = p.count;
        in_b = p.in_b;
        long = p.long;
        is = sym (p.unbroken ∙ taken);
        until = inr (inl (omega (arith, h, p.long)));
      }

  -- k bytes come
  module _ {b' : List ℕ} {r : Delivered} (f : Fills b len read b' r) {k : ℕ} (came : k ≡ r.came) where
    abbrev n : ℕ
    n = len + k

    in_room : n ≤ room
    in_room = omega (arith, f.most, f.room, p.long, p.in_b, came)

    long_still : length b' ≡ room
    long_still = f.long ∙ p.long

    -- nothing more comes
    pub waiting_ended : (len ≡ length b → ⊥) → n ≡ len
        → Waits b₀ have before b' (record { len = len; end = len; read = r })
    unfolding counted
    waiting_ended h e =
        record {
          got = p.got;
          are = f.kept ∙ p.are;
          count = omega (arith, p.count, f.count, e, came);
          in_b = p.in_b;
          long = long_still;
          is = sym (rw f.kept (p.unbroken ∙ taken));
          until = inr (inr (ended_by r offered (omega (arith, e, came))));
        }
      where
        offered : 0 < r.room
        offered = let o : len < length b = lt_of_le_of_ne (omega (arith, p.in_b, p.long)) h in omega (arith, f.room)

    part : take len (take n b') ≡ take len b
    part = take-take len n b' (omega arith) ∙ f.kept

    abbrev more : List ℕ
    more = p.got ++ take k (drop len b')

    grown : take n b' ≡ take have b₀ ++ more
    grown = take-add len k b' ∙ rw (f.kept, p.are) (append_assoc (take have b₀) p.got (take k (drop len b')))

    long_part : length (take n b') ≡ n
    long_part = length-take-le n b' (omega (arith, long_still, in_room))

    long_piece : length (take k (drop len b')) ≡ k
    long_piece = length-take-le k (drop len b') (rw (length-drop len b') (omega (arith, long_still, in_room)))

    counts : Counted before.all (length more) r.all
    unfolding counted
    counts = omega (arith, p.count, f.count, length-append p.got (take k (drop len b')), long_piece, came)

    -- where the first line feed stands
    module _ (e : ℕ) (is : e ≡ len + run (is_not line_feed) (drop len (take n b'))) where
      seen : e ≡ line_length (take n b')
      unfolding line_length
      seen =
          let o : len ≤ length (take n b') = omega (arith, long_part) in
          is ∙ sym (run_past (is_not line_feed) (take n b') len o (rw part (p.unbroken ∙ taken)))

      pub waiting_found : e < n → Waits b₀ have before b' (record { len = n; end = e; read = r })
      waiting_found h =
          record {
            got = more;
            are = grown;
            count = counts;
            in_b = in_room;
            long = long_still;
            is = seen;
            until = inl h;
          }

      pub waiting_more : n ≤ e → e ≤ length (take n b') → Waiting b₀ have before b' n r
      waiting_more o m =
          record {
            got = more;
            are = grown;
            count = counts;
            in_b = in_room;
            long = long_still;
            unbroken = sym seen ∙ omega (arith, long_part);
          }

-- ---- the loop of `pass_over`

pub run_le : (q : ℕ → Bool) (t : List ℕ) → run q t ≤ length t
unfolding run
run_le q [] = omega arith
run_le q (b ∷ t) = go (q b) (run_le q t)
  where
    go : (x : Bool) → run q t ≤ length t → pick x (suc (run q t)) 0 ≤ suc (length t)
    go true h = omega arith
    go false h = omega arith

-- two texts with no line feed are one
pub unbroken_both : (s t : List ℕ) → Unbroken s → Unbroken t → Unbroken (s ++ t)
unfolding line_length run
unbroken_both [] t p q = q
unbroken_both (b ∷ s) t p q = go (is_not line_feed b) p (λ h. unbroken_both s t h q)
  where
    go : (x : Bool) → pick x (suc (run (is_not line_feed) s)) 0 ≡ suc (length s)
        → (run (is_not line_feed) s ≡ length s → run (is_not line_feed) (s ++ t) ≡ length (s ++ t))
        → pick x (suc (run (is_not line_feed) (s ++ t))) 0 ≡ suc (length (s ++ t))
    go true h f = ap suc (f (omega arith))
    go false h f = let z : ⊥ = omega arith in absurd z

-- the pieces `before` are passed over, as much as was delivered; each has a byte, so that they and the turns that are
-- left are no fewer than the turns at the start
pub record Passing (was : Delivered) (b : List ℕ) (turns : ℕ) (read : Delivered) : Type 0 where
  pub before : List ℕ
  pub unbroken : Unbroken before
  pub long : length b ≡ room
  pub count : Counted was.all (length before) read.all
  pub spent : count_most ≤ length before + turns

pub passing_none : (was : Delivered) (b : List ℕ) → length b ≡ room → Passing was b count_most was
unfolding line_length run
passing_none was b l =
    record { before = []; unbroken = refl; long = l; count = counted_none was.all; spent = omega arith }

module _ {was : Delivered} {b : List ℕ} {turns : ℕ} {read : Delivered} (p : Passing was b turns read) where
  -- no turn is left
  pub passing_spent : turns ≤ 0 → Passes was b (record { behind = None; read = read })
  passing_spent h =
      record {
        before = p.before;
        unbroken = p.unbroken;
        long = p.long;
        is = (p.count, inr (omega (arith, p.spent)));
      }

  -- k bytes come
  module _ {b' : List ℕ} {r : Delivered} (f : Fills b 0 read b' r) {k : ℕ} (came : k ≡ r.came) where
    long_now : length b' ≡ room
    long_now = f.long ∙ p.long

    fits : k ≤ room
    fits = omega (arith, f.most, f.room, p.long, came)

    pub passing_end : k ≡ 0 → Passes was b' (record { behind = None; read = r })
    unfolding counted
    passing_end e =
        record {
          before = p.before;
          unbroken = p.unbroken;
          long = long_now;
          is = (
            omega (arith, p.count, f.count, e, came),
            inl (ended_by r (omega (arith, f.room, p.long)) (sym came ∙ e)),
          );
        }

    module _ (e : ℕ) (is : e ≡ 0 + run (is_not line_feed) (drop 0 (take k b'))) where
      seen_at : e ≡ line_length (take k b')
      unfolding line_length
      seen_at = omega (arith, is)

      pub passing_found : e < k → Passes was b'
          (record { behind = Some (record { at = e + 1; len = k }); read = r })
      unfolding counted
      passing_found h =
          record {
            before = p.before;
            unbroken = p.unbroken;
            long = long_now;
            is = record {
              is = rw (← seen_at);
              in_len = rw (← seen_at) h;
              in_b = fits;
              count = omega (arith, p.count, f.count, came);
            };
          }

      pub passing_more : (left : ℕ) → turns ≤ left + 1 → (k ≡ 0 → ⊥) → k ≤ e → e ≤ length (take k b')
          → Passing was b' left r
      unfolding counted
      passing_more left few some h m =
          let o : length (take k b') ≡ k = length-take-le k b' (omega (arith, long_now, fits)) in
          let l : length (p.before ++ take k b') ≡ length p.before + length (take k b') =
          length-append p.before (take k b') in
          let z : 0 < k = pos_of_ne-zero some in
          record {
            before = p.before ++ take k b';
            unbroken = unbroken_both p.before (take k b') p.unbroken (sym seen_at ∙ omega (arith, o));
            long = long_now;
            count = omega (arith, p.count, f.count, o, l, came);
            spent = omega (arith, p.spent, o, l, z, few);
          }

-- ---- from a place on

pub stands_from : (b : List ℕ) (at len end left : ℕ) (read : Delivered) → at ≤ len → len ≤ room → length b ≡ room
    → end ≡ at + run (is_not line_feed) (drop at (take len b)) → end ≤ length (take len b)
    → Stands b (record { at = at; end = end; len = len; left = left; read = read })
unfolding line_length unread
stands_from b at len end left read h k l is m =
    let o : length (take len b) ≡ len = length-take-le len b (omega (arith, l)) in
    let same : drop at (take len b) ≡ take (len - at) (drop at b) = drop_take_of at len b in
    record { low = omega (arith, is); high = omega (arith, o); in_b = k; long = l; is = is ∙ rw same }

-- what stands at the front of the buffer
pub unread_front : (b : List ℕ) (end len left : ℕ) (read : Delivered)
    → unread b (record { at = 0; end = end; len = len; left = left; read = read }) ≡ take len b
unfolding unread
unread_front b end len left read = let e : len - 0 ≡ len = omega arith in rw e

pub line_le : (t : List ℕ) → line_length t ≤ length t
unfolding line_length
line_le t = run_le (is_not line_feed) t

-- ---- a line that is whole, or all that there is

module _ (b : List ℕ) (s : Input) (p : Stands b s) where
  pub readied_now : s.end < s.len → Readied b s b s
  readied_now h =
      record {
        got = [];
        are = append-nil (unread b s);
        count = counted_none s.read.all;
        stands = p;
        left = refl;
        front = inl h;
      }

  unread_long : length (unread b s) ≡ s.len - s.at
  unfolding unread
  unread_long =
      length-take-le (s.len - s.at) (drop s.at b) (rw (length-drop s.at b) (omega (arith, p.in_b, p.long)))

  module _ (h : s.len ≤ s.end) (b₁ : List ℕ) (n : ℕ) (is : n ≡ s.len - s.at)
      (e : take (s.len - s.at) b₁ ≡ take (s.len - s.at) (drop s.at b)) where
    shifted : take n b₁ ≡ unread b s
    unfolding unread
    shifted = rw is e

    pub unbroken_now : Unbroken (take n b₁)
    unbroken_now = rw shifted (omega (arith, p.is, p.high, h, unread_long))

    pub readied_later : (b₂ : List ℕ) (w : Waited) → Waits b₁ n s.read b₂ w
        → Readied b s b₂ (record { at = 0; end = w.end; len = w.len; left = s.left; read = w.read })
    readied_later b₂ w q =
        record {
          got = q.got;
          are = sym (whole ∙ q.are ∙ rw shifted);
          count = q.count;
          stands = standing;
          left = refl;
          front = ⊎_elim (λ k. inl k) (λ u. inr (refl, u)) q.until;
        }
      where
        after : Input
        after = record { at = 0; end = w.end; len = w.len; left = s.left; read = w.read }

        whole : unread b₂ after ≡ take w.len b₂
        whole = unread_front b₂ w.end w.len s.left w.read

        standing : Stands b₂ after
        standing =
            let o : length (take w.len b₂) ≡ w.len = length-take-le w.len b₂ (omega (arith, q.in_b, q.long)) in
            let m : line_length (take w.len b₂) ≤ length (take w.len b₂) = line_le (take w.len b₂) in
            record {
              low = omega arith;
              high = omega (arith, q.is);
              in_b = q.in_b;
              long = q.long;
              is = rw whole (omega (arith, q.is));
            }
