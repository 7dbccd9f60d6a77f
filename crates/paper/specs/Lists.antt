-- A choice by a test, a figure for each of three, and tests over a list.
use Rattle.std.specs.Prelude.{Bool, true, false, ◌&&◌, ◌||◌, List, [], ◌∷◌, ℕ}

-- a where the test passes, else b
abbrev pub pick {ℓ} : {A : Type ℓ} → (test : Bool) → (a b : A) → A
pick true a b = a
pick false a b = b

-- a figure for each of three places: the three terms are 0, 1, 2
abbrev pub three {ℓ} : {A : Type ℓ} → (ℕ → A) → List A
three f = f 0 ∷ f 1 ∷ f 2 ∷ []

-- a figure for each of eight places
abbrev pub eight {ℓ} : {A : Type ℓ} → (ℕ → A) → List A
eight f = f 0 ∷ f 1 ∷ f 2 ∷ f 3 ∷ f 4 ∷ f 5 ∷ f 6 ∷ f 7 ∷ []

-- a figure for each of the levels 1, 2, 3
abbrev pub for_levels {ℓ} : {A : Type ℓ} → (ℕ → A) → List A
for_levels f = f 1 ∷ f 2 ∷ f 3 ∷ []

-- whether all three pass
abbrev pub all_three : (ℕ → Bool) → Bool
all_three p = p 0 && p 1 && p 2

-- whether all pass
unfoldable pub every {ℓ} : {A : Type ℓ} → (A → Bool) → List A → Bool
every p [] = true
every p (x ∷ xs) = p x && every p xs

-- whether one passes
unfoldable pub some {ℓ} : {A : Type ℓ} → (A → Bool) → List A → Bool
some p [] = false
some p (x ∷ xs) = p x || some p xs

-- those that pass
unfoldable pub those {ℓ} : {A : Type ℓ} → (A → Bool) → List A → List A
those p [] = []
those p (x ∷ xs) = pick (p x) (x ∷ those p xs) (those p xs)
