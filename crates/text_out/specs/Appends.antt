-- Text that is appended, piece after piece: what a blank before each number comes to.
use Rattle.std.specs.Prelude.{◌≡◌, refl, List, [], ◌∷◌, ◌++◌, ℤ}
use Rattle.std.proofs.Common.{sym, append-nil, append_assoc}
use Rattle.std.proofs.lemmas.Grind.{common_steps}
use Rattle.text_bytes.specs.Numbers.{next, spaced}

-- no number
pub spaced_none : spaced [] ≡ []
unfolding spaced
spaced_none = refl

-- one number
pub spaced_one : (z : ℤ) → spaced (z ∷ []) ≡ next z
unfolding spaced
spaced_one z = append-nil (next z)

-- SOME NUMBERS AND THEN OTHERS
pub spaced_both : (xs ys : List ℤ) → spaced (xs ++ ys) ≡ spaced xs ++ spaced ys
unfolding spaced
spaced_both [] ys = refl
spaced_both (x ∷ xs) ys = rw (spaced_both xs ys) (sym (append_assoc (next x) (spaced xs) (spaced ys)))

-- what the functions that append are proved by, here and in the crates above
pub ruleset appending = (common_steps, spaced_none, spaced_one, spaced_both)
