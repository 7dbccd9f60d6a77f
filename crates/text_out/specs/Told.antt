-- Numbers that are appended, a blank before each. THE LAW is `both`: what two calls told one after the other is one
-- list of numbers.
use Rattle.std.specs.Prelude.{◌≡◌, refl, List, [], ◌∷◌, ◌++◌, ℕ, ◌+◌, ◌≤◌, ℤ, length}
use Rattle.std.proofs.Common.{sym, ◌∙◌, append-nil, append_assoc, arith}
use Rattle.std.proofs.lemmas.List.Edits.{sets}
use Rattle.text_bytes.specs.Numbers.{next, spaced}
use Rattle.text_out.specs.Wrote.{Wrote, then}

-- b' is b with the numbers zs at n, and n' is where they end, at most m bytes further
pub record Told (b : List ℕ) (n : ℕ) (b' : List ℕ) (n' : ℕ) (zs : List ℤ) (m : ℕ) : Type 0 where
  pub bytes : b' ≡ sets b n (spaced zs)
  pub long : n' ≡ n + length (spaced zs)
  pub most : n' ≤ n + m

pub spaced_both : (xs ys : List ℤ) → spaced (xs ++ ys) ≡ spaced xs ++ spaced ys
unfolding spaced
spaced_both [] ys = refl
spaced_both (x ∷ xs) ys = rw (spaced_both xs ys) (sym (append_assoc (next x) (spaced xs) (spaced ys)))

module _ {b : List ℕ} {n : ℕ} {b' : List ℕ} {n' : ℕ} {m : ℕ} where
  pub wrote : {zs : List ℤ} → Told b n b' n' zs m → Wrote b n b' n' (spaced zs) m
  wrote p = record { bytes = p.bytes; long = p.long; most = p.most }

  pub told : {zs : List ℤ} {t : List ℕ} → t ≡ spaced zs → Wrote b n b' n' t m → Told b n b' n' zs m
  told e p = record { bytes = p.bytes ∙ rw e; long = p.long ∙ rw e; most = p.most }

  -- with more room
  pub roomier : {zs : List ℤ} {k : ℕ} → Told b n b' n' zs k → k ≤ m → Told b n b' n' zs m
  roomier p h = record { bytes = p.bytes; long = p.long; most = omega (arith, p.most) }

  -- one number
  pub told_one : {z : ℤ} → Wrote b n b' n' (next z) m → Told b n b' n' (z ∷ []) m
  unfolding spaced
  told_one {z} p = told (sym (append-nil (next z))) p

  pub wrote_one : {z : ℤ} → Told b n b' n' (z ∷ []) m → Wrote b n b' n' (next z) m
  unfolding spaced
  wrote_one {z} p = rw (append-nil (next z)) at (wrote p)

pub told_none : (b : List ℕ) (n : ℕ) → Told b n b n [] 0
unfolding spaced
told_none b n = record { bytes = refl; long = omega arith; most = omega arith }

-- SOME NUMBERS AND THEN OTHERS
pub both : {b : List ℕ} {n : ℕ} {b' : List ℕ} {n' : ℕ} {b'' : List ℕ} {n'' : ℕ} {xs ys : List ℤ} {k m : ℕ}
    → Told b n b' n' xs k → Told b' n' b'' n'' ys m → Told b n b'' n'' (xs ++ ys) (k + m)
both {xs = xs} {ys = ys} p q = told (sym (spaced_both xs ys)) (then (wrote p) (wrote q))
