-- Text that is appended. THE LAW is `then`: what two calls wrote one after the other is one text.
use Rattle.std.specs.Prelude.{◌≡◌, refl, List, [], ◌++◌, ℕ, ◌+◌, ◌≤◌, length, take, drop}
use Rattle.std.proofs.Common.{sym, ◌∙◌, arith, length-append, take_at, length-take-le}
use Rattle.std.proofs.lemmas.List.Edits.{sets, sets-eq}
use Rattle.exact.specs.StoreLaws.{sets_of_both}

-- b' is b with the text t at n, and n' is where t ends, at most m bytes further
pub record Wrote (b : List ℕ) (n : ℕ) (b' : List ℕ) (n' : ℕ) (t : List ℕ) (m : ℕ) : Type 0 where
  pub bytes : b' ≡ sets b n t
  pub long : n' ≡ n + length t
  pub most : n' ≤ n + m

-- ONE TEXT AND THEN ANOTHER
pub then : {b : List ℕ} {n : ℕ} {b' : List ℕ} {n' : ℕ} {b'' : List ℕ} {n'' : ℕ} {s t : List ℕ} {k m : ℕ}
    → Wrote b n b' n' s k → Wrote b' n' b'' n'' t m → Wrote b n b'' n'' (s ++ t) (k + m)
then {b} {n} {b'} {n'} {b''} {n''} {s} {t} p q =
    record {
      bytes = rw (sets_of_both s t b n, ← p.bytes, ← p.long) q.bytes;
      long = rw (length-append s t) (omega (arith, p.long, q.long));
      most = omega (arith, p.most, q.most);
    }

-- for a reader: the text before, and then t
pub appended : {b : List ℕ} {n : ℕ} {b' : List ℕ} {n' : ℕ} {t : List ℕ} {m : ℕ} → Wrote b n b' n' t m → n' ≤ length b →
    take n' b' ≡ take n b ++ t
appended {b} {n} {b'} {n'} {t} p h =
    let r : n + length t ≤ length b = omega (arith, p.long) in
    let k : n ≤ length b = omega arith in
    let l : length (take n b ++ t) ≡ n + length t = rw (length-append (take n b) t, length-take-le n b k) in
    rw (p.bytes, p.long, sets-eq t b n r) (take_at (take n b ++ t) (drop (n + length t) b) (n + length t) l)

-- ---- a loop that appends: s, still to be written at n into b, at most m bytes, leads to what t at n₀ in b₀ leads to
pub record Left (b₀ : List ℕ) (n₀ : ℕ) (t : List ℕ) (m₀ : ℕ) (b : List ℕ) (n : ℕ) (s : List ℕ) (m : ℕ) : Type 0 where
  pub bytes : sets b n s ≡ sets b₀ n₀ t
  pub long : n + length s ≡ n₀ + length t
  pub most : n + m ≤ n₀ + m₀

pub left_none : (b : List ℕ) (n : ℕ) (t : List ℕ) (m₀ m : ℕ) → m ≤ m₀ → Left b n t m₀ b n t m
left_none b n t m₀ m h = record { bytes = refl; long = refl; most = omega arith }

-- ONE TURN: the first piece of what was left is written
pub left_more : {b₀ : List ℕ} {n₀ : ℕ} {t : List ℕ} {m₀ : ℕ} {b : List ℕ} {n : ℕ} {s u : List ℕ} {k m : ℕ} {b' : List
    ℕ} {n' : ℕ}
    → Left b₀ n₀ t m₀ b n (s ++ u) (k + m) → Wrote b n b' n' s k → Left b₀ n₀ t m₀ b' n' u m
left_more {b₀} {n₀} {t} {m₀} {b} {n} {s} {u} {k} {m} {b'} {n'} p q =
    record {
      bytes = rw (q.bytes, q.long) (sym (sets_of_both s u b n) ∙ p.bytes);
      long = omega (arith, q.long, rw (length-append s u) at p.long);
      most = omega (arith, q.most, p.most);
    }

pub left_all : {b₀ : List ℕ} {n₀ : ℕ} {t : List ℕ} {m₀ : ℕ} {b : List ℕ} {n m : ℕ} → Left b₀ n₀ t m₀ b n [] m → Wrote
    b₀ n₀ b n t m₀
left_all {b₀} {n₀} {t} {m₀} {b} {n} {m} p = record {
  bytes = p.bytes;
  long = omega (arith, p.long);
  most = omega
      (arith, p.most);
}

-- with more room
pub wider : {b : List ℕ} {n : ℕ} {b' : List ℕ} {n' : ℕ} {t : List ℕ} {k m : ℕ} → Wrote b n b' n' t k → k ≤ m → Wrote b
    n b' n' t m
wider {b} {n} {b'} {n'} {t} {k} {m} p h = record { bytes = p.bytes; long = p.long; most = omega (arith, p.most) }

-- nothing
pub nothing : (b : List ℕ) (n m : ℕ) → Wrote b n b n [] m
nothing b n m = record { bytes = refl; long = omega arith; most = omega arith }
