-- "The least ..": the least number that passes a test, found by trying one number after the other.
use Rattle.std.specs.Prelude.{Bool, true, false, ℕ, zero, suc, ◌*◌, leb}

-- the first of x, x + 1, .. that passes, among d numbers; x + d where none of them does
unfoldable pub first : (d x : ℕ) → (ℕ → Bool) → ℕ
first zero x p = x
first (suc d) x p = elim (p x) [ true ↦ x | false ↦ first d (suc x) p ]

-- the least number below the bound that passes; the bound where none does
unfoldable pub least : (bound : ℕ) → (ℕ → Bool) → ℕ
least bound p = first bound 0 p

-- the least whole x with factor·x² ≥ n; where factor is above 0, n itself is such an x
unfoldable pub least_root : (factor n : ℕ) → ℕ
least_root factor n = least n (λ x. leb n (factor * (x * x)))

-- the least whole y with y·q ≥ n; where q is above 0, n itself is such a y
unfoldable pub least_times : (q n : ℕ) → ℕ
least_times q n = least n (λ y. leb n (y * q))

-- the least multiple of h that passes, among the first bound multiples; bound·h where none of them does
unfoldable pub least_multiple : (h bound : ℕ) → (ℕ → Bool) → ℕ
least_multiple h bound p = least bound (λ j. p (j * h)) * h
