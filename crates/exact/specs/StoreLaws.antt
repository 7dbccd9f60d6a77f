-- The law of a run of stores into a lent slice: two runs, one behind the other, are one.
use Rattle.std.specs.Prelude.{◌≡◌, List, [], ◌∷◌, ◌++◌, ℕ, suc, ◌+◌, length, set}
use Rattle.std.proofs.Common.{arith}
use Rattle.std.proofs.lemmas.List.Edits.{sets}

pub sets_of_both : (xs ys b : List ℕ) (i : ℕ) → sets b i (xs ++ ys) ≡ sets (sets b i xs) (i + length xs) ys
sets_of_both [] ys b i = let e : i + 0 ≡ i = omega arith in rw e
sets_of_both (x ∷ xs) ys b i =
    let e : i + suc (length xs) ≡ suc i + length xs = omega arith in
    rw e (sets_of_both xs ys (set b i x) (suc i))
