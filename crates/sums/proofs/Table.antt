-- A rule of a table, proved at all of its entries by one test that antt computes, one entry after the other.
use mathlib.Core.Path.{◌≡◌, ◌∙◌, ap, sym}
use mathlib.Core.Bool.{Bool, true, false}
use mathlib.Core.List.{List, [], ◌∷◌}
use Prim.Native.Nat.{ℕ, zero, suc, ◌+◌, ◌<◌}
use native.Mathlib.Nat.{add-zero, zero-add, add-suc, suc-add, le_of_suc-le-suc, not-suc-le-zero}
use lib.Dec.{T, eqb, eqb→eq}
use lib.ListN.{length, get_or}

abbrev both : Bool → Bool → Bool
both true b = b
both false b = false

both_left : (a b : Bool) → T (both a b) → T a
both_left true b t = tt
both_left false b t = t

both_right : (a b : Bool) → T (both a b) → T b
both_right true b t = t
both_right false b t = absurd t

-- each entry is what the rule gives at its place, counted from i
abbrev pub every : (rule : ℕ → ℕ) → (i : ℕ) → (table : List ℕ) → Bool
every rule i [] = true
every rule i (x ∷ xs) = both (eqb x (rule i)) (every rule (suc i) xs)

from : (rule : ℕ → ℕ) (xs : List ℕ) (i : ℕ) → T (every rule i xs) → (k : ℕ) → k < length xs
    → get_or xs k 0 ≡ rule (i + k)
from rule [] i t k h = absurd (not-suc-le-zero h)
from rule (x ∷ xs) i t zero h =
    eqb→eq x (rule i) (both_left (eqb x (rule i)) (every rule (suc i) xs) t) ∙ ap rule (sym (add-zero i))
from rule (x ∷ xs) i t (suc k) h =
    from rule xs (suc i) (both_right (eqb x (rule i)) (every rule (suc i) xs) t) k (le_of_suc-le-suc h)
    ∙ ap rule (suc-add i k ∙ sym (add-suc i k))

pub entry : (rule : ℕ → ℕ) (table : List ℕ) → T (every rule 0 table) → (k : ℕ) → k < length table
    → get_or table k 0 ≡ rule k
entry rule table t k h = from rule table 0 t k h ∙ ap rule (zero-add k)
