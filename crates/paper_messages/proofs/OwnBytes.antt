-- The reader looks at the bytes of the message and at no other: where another text has the message's own bytes, the
-- answer is the same, whatever it is but 21. So it is where another buffer has the same bytes up to the next message.
use mathlib.Core.Path.{◌≡◌, refl, sym, ap, ◌∙◌}
use mathlib.Core.Bool.{Bool, true, false, not, ◌&&◌}
use mathlib.Core.List.{List, [], ◌∷◌}
use Prim.Native.Nat.{ℕ, zero, suc, ◌+◌, ◌-◌, ◌≤◌}
use native.Mathlib.Omega.{arith}
use lib.Dec.{eqb, leb, ltb}
use lib.ListN.{length, take, drop}
use lib.Seq.{take-take, drop-drop, length-take-le, take-nil}
use borrow.Author.Tests.{leb-true, ltb-false, le-ltb, eqb-true}
use Rattle.paper.specs.declared.Verdict.{Verdict}
use Rattle.paper.specs.declared.Verdict.TheVariants.{Done, CutShort, WrongLength, FieldOutOfRange}
use Rattle.paper.specs.Lists.{pick}
use Rattle.paper.specs.Ranges.{within}
use Rattle.paper.specs.Verdicts.{number_of, is_done, first_of}
use Rattle.paper.proofs.Logic.{and_left, not_true_and_false}
use Rattle.paper_desk.proofs.Refusals.{done_is}
use Rattle.paper_messages.specs.declared.Field.{Field}
use Rattle.paper_messages.specs.Bytes.{spelled}
use Rattle.paper_messages.specs.Fields.{places_of}
use Rattle.paper_messages.specs.Messages.{length_width, kind_width, length_least, length_most, total, length_of}
use Rattle.paper_messages.specs.Messages.{is_known_kind, valid, values_at, length_at, kind_at, message_at}
use Rattle.paper_messages.specs.Messages.{read_checks, accepted_heard, heard_at}
use Rattle.paper_messages.specs.OwnBytes.{own_bytes, HeardAlike}
use Rattle.paper_messages.proofs.MessageLaws.{heard_accepted, heard_verdict, done_means_accepted}
use Rattle.std.specs.Prelude.{Ok, Some, None}
use Rattle.paper_messages.specs.Messages.{Hearing, next_heard, verdict_of}

-- ---- equal beginnings

drop_take : (n m : ℕ) (l : List ℕ) → drop n (take (n + m) l) ≡ take m (drop n l)
drop_take zero m l = let e : 0 + m ≡ m = omega arith in rw e
drop_take (suc n) m [] = rw (take-nil (suc n + m), take-nil m)
drop_take (suc n) m (x ∷ l) = let e : suc n + m ≡ suc (n + m) = omega arith in rw e (drop_take n m l)

module _ (n m : ℕ) (s t : List ℕ) (same : take (n + m) s ≡ take (n + m) t) where
  first_same : take n s ≡ take n t
  first_same =
      let h : n ≤ n + m = omega arith in
      sym (take-take n (n + m) s h) ∙ ap (take n) same ∙ take-take n (n + m) t h

  rest_same : take m (drop n s) ≡ take m (drop n t)
  rest_same = sym (drop_take n m s) ∙ ap (drop n) same ∙ drop_take n m t

-- the values of fields come from the fields' own bytes
values_same : (fields : List Field) (s t : List ℕ) → take (total fields) s ≡ take (total fields) t
    → values_at fields s ≡ values_at fields t
unfolding values_at total
values_same [] s t e = refl
values_same (f ∷ fields) s t e =
    rw (
      first_same f.width (total fields) s t e,
      values_same fields (drop f.width s) (drop f.width t) (rest_same f.width (total fields) s t e),
    )

-- ---- a message that is not cut short

module _ (s : List ℕ) (whole : eqb (number_of (first_of (read_checks s))) (number_of CutShort) ≡ false) where
  has_length : length_width ≤ length s
  unfolding read_checks first_of
  has_length = ltb-false (length s) length_width (of (ltb (length s) length_width) _ whole)
    where
      of : (few : Bool) (v : Verdict) → eqb (number_of (pick few CutShort v)) (number_of CutShort) ≡ false → few ≡ false
      of true v e = absurd (not_true_and_false true refl e)
      of false v e = refl

  has_all : within length_least length_most (length_at s) ≡ true → length_width + length_at s ≤ length s
  unfolding read_checks first_of
  has_all i =
      ltb-false (length s) (length_width + length_at s)
      (of (ltb (length s) length_width) (ltb (length s) (length_width + length_at s)) _ (rw i at whole))
    where
      of : (few short : Bool) (v : Verdict)
          → eqb (number_of (pick few CutShort (pick short CutShort v))) (number_of CutShort) ≡ false
          → short ≡ false
      of true short v e = absurd (not_true_and_false true refl e)
      of false true v e = absurd (not_true_and_false true refl e)
      of false false v e = refl

  -- all of its own bytes are there
  pub own_within : own_bytes s ≤ length s
  unfolding own_bytes
  own_within = of (within length_least length_most (length_at s)) refl
    where
      of : (b : Bool) → within length_least length_most (length_at s) ≡ b
          → pick b (length_width + length_at s) length_width ≤ length s
      of true i = has_all i
      of false i = has_length

-- as many bytes are equal as are there
reaches : (k : ℕ) (l : List ℕ) → length (take k l) ≡ k → k ≤ length l
reaches zero l e = omega arith
reaches (suc k) [] e = absurd (omega arith)
reaches (suc k) (x ∷ l) e = let h = reaches k l (omega arith) in omega arith

as_long : (k : ℕ) (s t : List ℕ) → take k s ≡ take k t → k ≤ length s → k ≤ length t
as_long k s t same h = reaches k t (sym (ap length same) ∙ length-take-le k s h)

-- ---- a length that no message has: it is seen at once

unsaid_same : (s t : List ℕ) → within length_least length_most (length_at s) ≡ false → length_width ≤ length s
    → take length_width s ≡ take length_width t
    → HeardAlike s t
unfolding read_checks first_of is_done
unsaid_same s t i h e =
    let length_same : length_at t ≡ length_at s = sym (ap spelled e) in
    let of-s = le-ltb (length s) length_width h in
    let of-t = le-ltb (length t) length_width (as_long length_width s t e h) in
    (rw (of-s, of-t, length_same, i), λ d place. absurd (not_true_and_false false (rw (of-s, i) at d) refl))

-- ---- a length that a message has

module _ (s t : List ℕ) (i : within length_least length_most (length_at s) ≡ true)
    (follows : length_width + length_at s ≤ length s) (n : ℕ) (is : length_at s ≡ kind_width + n)
    (same : take (length_width + (kind_width + n)) s ≡ take (length_width + (kind_width + n)) t) where
  length_same : length_at t ≡ length_at s
  length_same = sym (ap spelled (first_same length_width (kind_width + n) s t same))

  behind_same : take (kind_width + n) (drop length_width s) ≡ take (kind_width + n) (drop length_width t)
  behind_same = rest_same length_width (kind_width + n) s t same

  kind_same : kind_at t ≡ kind_at s
  kind_same = sym (ap spelled (first_same kind_width n (drop length_width s) (drop length_width t) behind_same))

  -- with the length of its kind the fields are the same too
  message_same : length_at s ≡ length_of (kind_at s) → message_at t ≡ message_at s
  unfolding message_at length_of
  message_same right =
      let all : n ≡ total (places_of (kind_at s)) = omega (arith, is, right) in
      let own : take (total (places_of (kind_at s))) (drop (length_width + kind_width) s)
      ≡ take (total (places_of (kind_at s))) (drop (length_width + kind_width) t) =
      rw (drop-drop kind_width length_width s, drop-drop kind_width length_width t, all)
      at (rest_same kind_width n (drop length_width s) (drop length_width t) behind_same) in
      rw (kind_same, sym (values_same (places_of (kind_at s)) _ _ own))

  long : length_width + length_at s ≤ length t
  long = rw is (as_long (length_width + (kind_width + n)) s t same (rw is at follows))

  -- the same number is answered
  verdict_same : first_of (read_checks t) ≡ first_of (read_checks s)
  unfolding read_checks first_of
  verdict_same =
      rw (
        le-ltb (length t) length_width (omega (arith, long)),
        le-ltb (length s) length_width (omega (arith, follows)),
        length_same,
        i,
        le-ltb (length t) (length_width + length_at s) long,
        le-ltb (length s) (length_width + length_at s) follows,
        kind_same,
      ) (of (is_known_kind (kind_at s)) (eqb (length_at s) (length_of (kind_at s))) refl)
    where
      of : (known right : Bool) → eqb (length_at s) (length_of (kind_at s)) ≡ right
          → pick (known && not right) WrongLength (pick (known && not (valid (message_at t))) FieldOutOfRange Done)
          ≡ pick (known && not right) WrongLength (pick (known && not (valid (message_at s))) FieldOutOfRange Done)
      of false right e = refl
      of true false e = refl
      of true true e = rw (message_same (eqb-true (length_at s) (length_of (kind_at s)) e))

  -- and where it is 0, the same is heard
  said_same : first_of (read_checks s) ≡ Done → (place : ℕ) → accepted_heard place t ≡ accepted_heard place s
  unfolding accepted_heard
  said_same done place = rw (length_same, kind_same) (of (is_known_kind (kind_at s)) refl)
    where
      of : (k : Bool) → is_known_kind (kind_at s) ≡ k
          → ◌≡◌ {A = Hearing} (Ok (record {
            kind = kind_at s;
            length = length_at s;
            next = place + (length_width + length_at s);
            message = pick k (Some (message_at t)) None;
          })) (Ok (record {
            kind = kind_at s;
            length = length_at s;
            next = place + (length_width + length_at s);
            message = pick k (Some (message_at s)) None;
          }))
      of true e = rw (message_same ((done_means_accepted s done).right e))
      of false e = refl

-- ---- every answer but 21

-- WHAT IS NOT CUT SHORT is heard alike in every text that has the message's own bytes
pub own_same : (s t : List ℕ) → eqb (number_of (first_of (read_checks s))) (number_of CutShort) ≡ false
    → take (own_bytes s) s ≡ take (own_bytes s) t
    → HeardAlike s t
unfolding own_bytes
own_same s t whole same = of (within length_least length_most (length_at s)) refl same
  where
    of : (b : Bool) → within length_least length_most (length_at s) ≡ b
        → take (pick b (length_width + length_at s) length_width) s
        ≡ take (pick b (length_width + length_at s) length_width) t
        → HeardAlike s t
    of true i e =
        let least : length_least ≤ length_at s =
        leb-true length_least (length_at s) (and_left (leb length_least (length_at s)) _ i) in
        let n : ℕ = length_at s - kind_width in
        let is : length_at s ≡ kind_width + n = omega arith in
        let own : take (length_width + (kind_width + n)) s ≡ take (length_width + (kind_width + n)) t = rw is at e in
        let follows = has_all s whole i in (
          verdict_same s t i follows n is own,
          λ d. said_same s t i follows n is own (done_is (first_of (read_checks s)) d),
        )
    of false i e = unsaid_same s t i (has_length s whole) e

-- where a message is accepted, a buffer that has the same bytes up to the next one is heard alike
pub heard_same : (b c : List ℕ) (at : ℕ) → verdict_of (heard_at b at) ≡ Done
    → take (next_heard (heard_at b at)) b ≡ take (next_heard (heard_at b at)) c
    → heard_at c at ≡ heard_at b at
unfolding accepted_heard own_bytes is_done
heard_same b c at e same =
    let s : List ℕ = drop at b in
    let t : List ℕ = drop at c in
    let first : first_of (read_checks s) ≡ Done = sym (heard_verdict b at) ∙ e in
    let next_is : next_heard (heard_at b at) ≡ at + own_bytes s =
    ap next_heard (heard_accepted b at first)
    ∙ next_of s (done_means_accepted s first).in_length in
    let alike = own_same s t (ap (λ (v : Verdict). eqb (number_of v) (number_of CutShort)) first)
    (rest_same at (own_bytes s) b c (rw next_is at same)) in
    heard_accepted c at (alike.0 ∙ first) ∙ alike.1 (ap is_done first) at ∙ sym (heard_accepted b at first)
  where
    next_of : (s : List ℕ) → within length_least length_most (length_at s) ≡ true
        → next_heard (accepted_heard at s) ≡ at + own_bytes s
    next_of s i = rw i
