-- Why the functions of this crate meet their contracts, as laws over lists and numbers: the id that an argument asks
-- for, digit by digit, the text, read by read, and the answer. No law speaks of memory, so that the proofs of the functions only
-- cite them.
use mathlib.Core.Path.{◌≡◌, refl, sym, ◌∙◌}
use mathlib.Core.Bool.{Bool, true, false}
use mathlib.Core.List.{List, [], ◌∷◌, ◌++◌, append_assoc}
use mathlib.Core.Logic.{◌⊎◌, inl, inr}
use Prim.Native.Nat.{ℕ, suc, min, ◌+◌, ◌-◌, ◌*◌, ◌≤◌, ◌<◌}
use native.Mathlib.Omega.{arith}
use lib.Dec.{leb}
use lib.IntN.{pos}
use lib.ListN.{length, take, drop, get_or, drop_of_length-le}
use lib.Seq.{drop-cons}
use borrow.Author.Tests.{le-leb, lt-leb, leb-false, lt-ltb, le-ltb, eq-eqb, ne_eqb}
use Rattle.paper.specs.Lists.{pick}
use Rattle.paper.specs.Numbers.{id_most, row_numbers}
use Rattle.paper.specs.Verdicts.{number_of, is_done}
use Rattle.paper.proofs.Logic.{le_or_lt}
use Rattle.std.specs.Char.{is_ascii_digit}
use Rattle.text_bytes.specs.Bytes.{line_feed, digit_zero}
use Rattle.std.specs.declared.option.Option.TheVariants.{None, Some}
use Rattle.text_bytes.specs.Numbers.{decimal, spaced, is_digit, size_from, size_of, answer_text}
use Rattle.text_out.specs.Appends.{spaced_both}
use Rattle.exchange_protocol.specs.declared.Reading.{Reading}
use Rattle.text_evidence.specs.declared.Delivered.{Delivered}
use Rattle.text_evidence.specs.Evidence.{Counted, counted_none, counted_on, unread, has_ended, ended_is_none, Fills}
use Rattle.text_evidence.specs.Evidence.{not_ended_is_some}
use Rattle.exchange_serve.specs.Rows.{settled, asked_of, past_ids, grown, TakesIn, reading_numbers, reading_text}

-- ---- the argument

-- above the greatest id one number asks as another
over : (x y : ℕ) (t : List ℕ) → id_most < x → id_most < y → settled (size_from x t) ≡ settled (size_from y t)
unfolding settled size_from
over x y [] h k = rw (lt-leb x id_most h, lt-leb y id_most k)
over x y (b ∷ t) h k =
    go (is_digit b)
    (over (10 * x + (b - digit_zero)) (10 * y + (b - digit_zero)) t (omega arith) (omega arith))
  where
    go : (z : Bool) → settled (size_from (10 * x + (b - digit_zero)) t) ≡ settled (size_from (10 * y + (b - digit_zero)) t)
        → settled (pick z (size_from (10 * x + (b - digit_zero)) t) None)
        ≡ settled (pick z (size_from (10 * y + (b - digit_zero)) t) None)
    go true e = e
    go false e = refl

grown_same : (n d : ℕ) (t : List ℕ) → settled (size_from (grown n d) t) ≡ settled (size_from (10 * n + d) t)
unfolding grown
grown_same n d t = go (leb (10 * n + d) id_most) refl
  where
    go : (z : Bool) → leb (10 * n + d) id_most ≡ z
        → settled (size_from (pick z (10 * n + d) past_ids) t) ≡ settled (size_from (10 * n + d) t)
    go true e = refl
    go false e = over past_ids (10 * n + d) t (omega arith) (leb-false (10 * n + d) id_most e)

pub grown_is : (n d : ℕ) → min (10 * n + d) past_ids ≡ grown n d
unfolding grown
grown_is n d = go (le_or_lt (10 * n + d) id_most)
  where
    go : (10 * n + d ≤ id_most) ⊎ (id_most < 10 * n + d) → min (10 * n + d) past_ids ≡ grown n d
    go (inl h) = rw (le-leb (10 * n + d) id_most h) (omega arith)
    go (inr h) = rw (lt-leb (10 * n + d) id_most h) (omega arith)

digit_test : (b : ℕ) → is_ascii_digit b ≡ is_digit b
unfolding is_digit
digit_test b = refl

pub record Asking (p : List ℕ) (i n : ℕ) : Type 0 where
  pub in_p : i ≤ length p
  pub most : n ≤ past_ids
  pub rest : settled (size_from n (drop i p)) ≡ asked_of p

pub none_asked : (p : List ℕ) → length p ≡ 0 → None ≡ asked_of p
unfolding asked_of settled size_of
none_asked [] h = refl
none_asked (b ∷ p) h = let z : ⊥ = omega arith in absurd z

pub asking_none : (p : List ℕ) → (length p ≡ 0 → ⊥) → Asking p 0 0
unfolding asked_of size_of
asking_none [] h = absurd (h refl)
asking_none (b ∷ p) h = record { in_p = omega arith; most = omega arith; rest = refl }

module _ (p : List ℕ) (i n : ℕ) (a : Asking p i n) where
  pub asking_small : length p ≤ i → n ≤ id_most → Some n ≡ asked_of p
  unfolding settled size_from
  asking_small h k = rw (drop_of_length-le p h, le-leb n id_most k) at a.rest

  pub asking_over : length p ≤ i → id_most < n → Some 0 ≡ asked_of p
  unfolding settled size_from
  asking_over h k = rw (drop_of_length-le p h, lt-leb n id_most k) at a.rest

  module _ (h : i < length p) (b : ℕ) (e : b ≡ get_or p i 0) where
    opened : settled (pick (is_digit b) (size_from (10 * n + (b - digit_zero)) (drop (suc i) p)) None) ≡ asked_of p
    unfolding size_from
    opened = rw e (rw (drop-cons p i 0 h) at a.rest)

    no_digit : is_digit b ≡ false → None ≡ asked_of p
    unfolding settled
    no_digit d = rw d at opened

    pub asking_stops : is_ascii_digit b ≡ false → None ≡ asked_of p
    asking_stops k = no_digit (sym (digit_test b) ∙ k)

    pub asking_more : is_ascii_digit b ≡ true → (m : ℕ) → (m ≡ grown n (b - digit_zero)) × (m ≤ past_ids)
        → Asking p (i + 1) m
    asking_more d m g =
        let f : i + 1 ≡ suc i = omega arith in
        record {
          in_p = omega arith;
          most = g.1;
          rest =
              rw (f, g.0) (grown_same n (b - digit_zero) (drop (suc i) p) ∙ (rw (sym (digit_test b) ∙ d) at opened));
        }

-- ---- the text

-- so many bytes are taken in, and the input has not ended
pub record Taking (b₀ b : List ℕ) (len : ℕ) (read : Delivered) : Type 0 where
  pub long : length b ≡ length b₀
  pub most : len ≤ length b
  pub count : Counted 0 len read.all
  pub open_still : has_ended read ≡ false

pub taking_none : (b : List ℕ) → Taking b b 0 unread
taking_none b = record { long = refl; most = omega arith; count = counted_none 0; open_still = refl }

pub taken_full : {b₀ b : List ℕ} {len : ℕ} {read : Delivered} → Taking b₀ b len read → length b ≤ len
    → TakesIn b₀ b (record { end = len; read = read })
taken_full {b₀} {b} {len} {read} a h =
    record {
      long = a.long;
      most = omega (arith, a.long, a.most);
      count = a.count;
      ended = a.open_still ∙ sym (le-ltb len (length b₀) (omega (arith, a.long)));
    }

-- one read more
module _ {b₀ b : List ℕ} {len : ℕ} {read : Delivered} (a : Taking b₀ b len read) (h : len < length b) {b' : List ℕ}
    {next : Delivered} (f : Fills b len read b' next) where
  pub more_counted : Counted 0 (len + next.came) next.all
  more_counted = counted_on 0 len read.all next.came next.all a.count f.count

  pub more_came : has_ended next ≡ false → 0 < next.came
  more_came e = not_ended_is_some next (omega (arith, f.room)) e

  pub taking_more : has_ended next ≡ false → Taking b₀ b' (len + next.came) next
  taking_more e =
      record {
        long = f.long ∙ a.long;
        most = omega (arith, f.long, f.room, f.most);
        count = more_counted;
        open_still = e;
      }

  pub taken_ended : has_ended next ≡ true → TakesIn b₀ b' (record { end = len; read = next })
  taken_ended e =
      let z : len + next.came ≡ len = omega (arith, ended_is_none next e) in
      record {
        long = f.long ∙ a.long;
        most = omega (arith, a.long);
        count = rw z at more_counted;
        ended = e ∙ sym (lt-ltb len (length b₀) (omega (arith, a.long)));
      }

-- ---- the answer

module _ (r : Reading) (old : List ℕ) where
  pub say_rows : number_of r.verdict ≡ 0
      → old ++ decimal (number_of r.verdict) ++ spaced (pos r.count ∷ []) ++ spaced (take (row_numbers * r.count) r.rows)
      ++ (line_feed ∷ []) ≡ old ++ reading_text r
  unfolding reading_text reading_numbers answer_text is_done
  say_rows e =
      let s : spaced (pos r.count ∷ take (row_numbers * r.count) r.rows)
      ≡ spaced (pos r.count ∷ []) ++ spaced (take (row_numbers * r.count) r.rows) =
      spaced_both (pos r.count ∷ []) (take (row_numbers * r.count) r.rows) in
      rw (eq-eqb (number_of r.verdict) 0 e, s) (simp append_assoc)

  pub say_bad_line : (number_of r.verdict ≡ 0 → ⊥)
      → old ++ decimal (number_of r.verdict) ++ spaced (pos r.line ∷ []) ++ (line_feed ∷ []) ≡ old ++ reading_text r
  unfolding reading_text reading_numbers answer_text is_done
  say_bad_line h = rw (ne_eqb (number_of r.verdict) 0 h) (simp append_assoc)
