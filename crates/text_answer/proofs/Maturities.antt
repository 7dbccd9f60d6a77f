-- The loop of `put_maturities`, on plain values: the numbers of the maturities that are told.
use mathlib.Core.Path.{◌≡◌, refl, ap}
use mathlib.Core.List.{List, [], ◌∷◌, ◌++◌, append-nil, append_assoc}
use Prim.Native.Nat.{ℕ, zero, suc, ◌+◌, ◌<◌, min}
use native.Mathlib.Omega.{arith}
use lib.IntN.{ℤ}
use lib.ListN.{length, take, get_or}
use Rattle.paper.specs.declared.MaturityFigures.{MaturityFigures}
use Rattle.text_protocol.specs.Answers.{maturity_numbers, maturities_numbers}

-- one maturity more
one_suc : (i : ℕ) (fs : List MaturityFigures) (d : MaturityFigures) → i < length fs
    → maturities_numbers (suc i) fs ≡ maturities_numbers i fs ++ maturity_numbers (get_or fs i d)
unfolding maturities_numbers
one_suc i [] d h = let z : ⊥ = omega arith in absurd z
one_suc zero (f ∷ fs) d h = append-nil (maturity_numbers f)
one_suc (suc i) (f ∷ fs) d h =
    rw (one_suc i fs d (omega arith), append_assoc (maturity_numbers f) (maturities_numbers i fs) (maturity_numbers (get_or fs i d)))

pub one_more : (i : ℕ) (fs : List MaturityFigures) (d : MaturityFigures) → i < length fs
    → maturities_numbers (i + 1) fs ≡ maturities_numbers i fs ++ maturity_numbers (get_or fs i d)
one_more i fs d h = let e : i + 1 ≡ suc i = omega arith in rw e (one_suc i fs d h)

pub none_told : (fs : List MaturityFigures) → maturities_numbers 0 fs ≡ []
unfolding maturities_numbers
none_told fs = refl

-- of the first n, or of all where there are fewer
pub all_told : (n : ℕ) (fs : List MaturityFigures) (k : ℕ) → k ≡ min n (length fs)
    → maturities_numbers (length (take k fs)) (take k fs) ≡ maturities_numbers n fs
unfolding maturities_numbers
all_told zero fs k e = let z : k ≡ 0 = omega arith in rw z
all_told (suc n) [] zero e = refl
all_told (suc n) [] (suc k) e = let z : ⊥ = omega arith in absurd z
all_told (suc n) (f ∷ fs) zero e = let z : ⊥ = omega arith in absurd z
all_told (suc n) (f ∷ fs) (suc k) e =
    ap (λ (zs : List ℤ). maturity_numbers f ++ zs) (all_told n fs k (omega arith))
