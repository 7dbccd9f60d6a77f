-- The ids that are asked for, behind those of the text: each that is not there, one after the other.
use mathlib.Core.Path.{◌≡◌, refl, sym, ap, ◌∙◌}
use mathlib.Core.Bool.{true, false}
use mathlib.Core.List.{List, map}
use Prim.Native.Nat.{ℕ, suc, ◌+◌, ◌-◌, ◌≤◌, ◌<◌}
use native.Mathlib.Omega.{arith}
use lib.IntN.{ℤ, pos}
use lib.ListN.{length, take, drop, get_or, set, length-set, length-drop, drop_of_length-le}
use lib.Seq.{take-suc-set, take-set-le, take-take, drop-cons}
use Rattle.std.specs.Prelude.{Option, Some, None, is_some}
use Rattle.text_bytes.proofs.Spelling.{impossible}
use Rattle.paper.specs.Ranges.{unsigned}
use Rattle.night_protocol.specs.Night.{is_among, joined, firsts_behind}
use Rattle.night_protocol.specs.Sheet.{day_numbers}
use Rattle.night_serve.specs.Tables.{Finds}
use Rattle.night_protocol.proofs.Rows.{among_at, among_none}
use Rattle.night_serve.specs.Serving.{JoinsOne, Joins}

-- ---- one id more

module _ (ids : List ℕ) (n id : ℕ) (r : Option ℕ) (f : Finds (take n ids) id r) where
  pub joins_there : is_some r ≡ true → JoinsOne ids n id ids n
  unfolding joined
  joins_there h = go r f h
    where
      go : (r : Option ℕ) → Finds (take n ids) id r → is_some r ≡ true → JoinsOne ids n id ids n
      go None f h = impossible cc
      go (Some i) f h =
          let e : is_among id (take n ids) ≡ true = among_at (take n ids) i id f.0 f.1 in
          record { long = refl; are = sym (rw e); kept = refl; low = omega arith; high = omega arith }

  pub joins_new : is_some r ≡ false → n < length ids → JoinsOne ids n id (set ids n id) (n + 1)
  unfolding joined
  joins_new h k = go r f h
    where
      go : (r : Option ℕ) → Finds (take n ids) id r → is_some r ≡ false → JoinsOne ids n id (set ids n id) (n + 1)
      go (Some i) f h = impossible cc
      go None f h =
          let e : is_among id (take n ids) ≡ false = among_none (take n ids) id f in
          let g : n + 1 ≡ suc n = omega arith in
          record {
            long = length-set ids n id;
            are = rw (g, e) (take-suc-set ids n id k);
            kept = take-set-le n ids n id (omega arith);
            low = omega arith;
            high = omega arith;
          }

-- ---- one after the other

pub record Joining (ids₀ : List ℕ) (n₀ : ℕ) (numbers : List ℤ) (ids : List ℕ) (n k : ℕ) : Type 0 where
  pub from_day : day_numbers ≤ k
  pub long : length ids ≡ length ids₀
  pub rest : firsts_behind (take n ids) (map unsigned (drop k numbers))
      ≡ firsts_behind (take n₀ ids₀) (map unsigned (drop day_numbers numbers))
  pub kept : take n₀ ids ≡ take n₀ ids₀
  pub low : n₀ ≤ n
  pub high : n + (length numbers - k) ≤ n₀ + (length numbers - day_numbers)

pub joining_none : (ids : List ℕ) (n : ℕ) (numbers : List ℤ) → Joining ids n numbers ids n day_numbers
joining_none ids n numbers =
    record { from_day = omega arith; long = refl; rest = refl; kept = refl; low = omega arith; high = omega arith }

module _ (ids₀ : List ℕ) (n₀ : ℕ) (numbers : List ℤ) (ids : List ℕ) (n k : ℕ)
    (s : Joining ids₀ n₀ numbers ids n k) where
  pub joining_more : {id : ℕ} {ids' : List ℕ} {n' : ℕ} → k < length numbers → id ≡ unsigned (get_or numbers k (pos 0))
      → JoinsOne ids n id ids' n' → Joining ids₀ n₀ numbers ids' n' (k + 1)
  unfolding firsts_behind
  joining_more {id} {ids'} {n'} h e j =
      let f : k + 1 ≡ suc k = omega arith in
      let g : firsts_behind (joined (take n ids) (unsigned (get_or numbers k (pos 0)))) (map unsigned (drop (suc k)
      numbers))
      ≡ firsts_behind (take n₀ ids₀) (map unsigned (drop day_numbers numbers)) =
      rw (drop-cons numbers k (pos 0) h) at s.rest in
      record {
        from_day = omega (arith, s.from_day);
        long = j.long ∙ s.long;
        rest = rw (f, j.are, e) g;
        kept = kept_on j.kept s.kept s.low;
        low = omega (arith, s.low, j.low);
        high = omega (arith, s.high, j.high);
      }
    where
      kept_on : take n ids' ≡ take n ids → take n₀ ids ≡ take n₀ ids₀ → n₀ ≤ n → take n₀ ids' ≡ take n₀ ids₀
      kept_on a b c =
          sym (take-take n₀ n ids' c) ∙ ap (take n₀) a ∙ take-take n₀ n ids c ∙ b

  pub joining_all : length numbers ≤ k → Joins ids₀ n₀ (drop day_numbers numbers) ids n
  unfolding firsts_behind
  joining_all h =
      record {
        long = s.long;
        are = rw (drop_of_length-le numbers h) at s.rest;
        kept = s.kept;
        low = s.low;
        high = rw (length-drop day_numbers numbers) (omega (arith, s.high));
      }
