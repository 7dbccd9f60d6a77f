-- Laws of the tests: two of a kind, and a day in two parts.
use mathlib.Core.Path.{◌≡◌, refl}
use mathlib.Core.Bool.{Bool, true, false, ◌&&◌, and-false}
use mathlib.Core.List.{List}
use lib.IntN.{ℤ}
use Rattle.paper.specs.declared.Day.{Day}
use Rattle.paper.specs.Ranges.{valid_day, valid_rows, valid_day_numbers}

-- ---- two of a kind

-- two tests that are those of the definition, with the outcome that the code saw
pub two_tests_same : {a b x y t : Bool} → a ≡ x → b ≡ y → (a && b) ≡ t → (x && y) ≡ t
two_tests_same f s e = rw (← f, ← s) e

-- a first test that is the definition's wherever the second passes
pub same_where_second_passes : (a x b : Bool) → (b ≡ true → a ≡ x) → (a && b) ≡ (x && b)
same_where_second_passes a x true f = rw (f refl)
same_where_second_passes a x false f = rw (and-false a, and-false x)

-- ---- a day

-- a day is in range where its numbers and its rows are
pub day_in_parts : (d : Day) (rows : List ℤ) → valid_day d rows ≡ (valid_day_numbers d && valid_rows rows)
unfolding valid_day
day_in_parts d rows = refl
