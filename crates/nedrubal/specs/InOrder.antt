-- Document 01: "all statics with each". C passes a number by its place, so the order in which a call takes its numbers
-- is part of its promise. Here is the order of the statics, which come behind a call's own numbers: that of their
-- table.
use Rattle.std.specs.Prelude.{List, [], ◌∷◌, ℕ, zero, suc, ℤ}
use Rattle.paper.specs.Ranges.{statics_count}

-- so many numbers from a place on
abbrev pub numbers_from : (numbers : ℕ → ℤ) → (place count : ℕ) → List ℤ
numbers_from numbers place zero = []
numbers_from numbers place (suc count) = numbers place ∷ numbers_from numbers (suc place) count

-- the statics, by their places in the table
abbrev pub statics_in_order : (statics : ℕ → ℤ) → List ℤ
statics_in_order statics = numbers_from statics 0 statics_count

-- the arguments that a call has, its numbers one behind the other
abbrev pub Places : List ℤ → Type 0
Places [] = Unit {0}
Places (x ∷ xs) = ℤ × Places xs

abbrev pub in_places : (xs : List ℤ) → Places xs
in_places [] = tt
in_places (x ∷ xs) = (x, in_places xs)
