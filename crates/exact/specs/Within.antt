-- Whether the numbers of a lent slice are each in the range of its place: the ranges are two lists, the least and the
-- most of each, and the slice is read in parts of as many numbers.
use Rattle.std.specs.Prelude.{◌≡◌, Bool, true, ◌&&◌, List, eqb, ℤ, pos, get_or}
use Rattle.std.proofs.Math.Path.{refl}
use Prim.Native.Nat.{ℕ, zero, suc, ◌+◌, ◌/◌, ◌%◌}
use Rattle.std.proofs.Math.ListN.{length}
use Rattle.paper.specs.Lists.{every}
use Rattle.paper.specs.Ranges.{within, within_z, parts_from}

-- ---- a part

-- whether the number that stands n behind `at` is in its range
abbrev pub within_nth : (least most numbers : List ℤ) → (at n : ℕ) → Bool
within_nth least most numbers at n = within_z (get_or least n (pos 0)) (get_or most n (pos 0)) (get_or numbers (at + n) (pos 0))

-- whether so many numbers from `at` on are
unfoldable pub within_first : (least most numbers : List ℤ) → (at count : ℕ) → Bool
within_first least most numbers at zero = true
within_first least most numbers at (suc n) =
    within_first least most numbers at n && within_nth least most numbers at n

-- whether as many are as there are ranges
abbrev pub all_within : (least most numbers : List ℤ) → (at : ℕ) → Bool
all_within least most numbers at = within_first least most numbers at (length least)

-- ---- every part

-- where a part begins, where so many do from a place on, and where all do
abbrev pub place : (numbers : List ℤ) → (at : ℕ) → ℕ
place numbers at = at

abbrev places_from : (width : ℕ) → (numbers : List ℤ) → (at count : ℕ) → List ℕ
places_from width numbers at count = parts_from place width numbers at count

abbrev pub places : (width : ℕ) → (numbers : List ℤ) → List ℕ
places width numbers = places_from width numbers 0 (length numbers / width)

-- whether the numbers of every part are in their ranges
unfoldable pub every_within : (least most numbers : List ℤ) → Bool
every_within least most numbers = every (all_within least most numbers) (places (length least) numbers)

-- whether there are only whole parts, and from the fewest to the greatest count of numbers
abbrev pub whole_parts : (fewest greatest : ℕ) → (least numbers : List ℤ) → Bool
whole_parts fewest greatest least numbers =
    eqb (length numbers % length least) 0 && within fewest greatest (length numbers)

unfoldable pub parts_within : (fewest greatest : ℕ) → (least most numbers : List ℤ) → Bool
parts_within fewest greatest least most numbers =
    whole_parts fewest greatest least numbers && every_within least most numbers

-- where a test of a part is that of the ranges, it passes every part of those that are within them
module _ {A : Type 0} (valid : A → Bool) (read : List ℤ → ℕ → A) (least most numbers : List ℤ)
    (same : (at : ℕ) → all_within least most numbers at ≡ valid (read numbers at)) where
  every_from : (at count : ℕ)
      → every (all_within least most numbers) (places_from (length least) numbers at count)
      ≡ every valid (parts_from read (length least) numbers at count)
  unfolding every parts_from
  every_from at zero = refl
  every_from at (suc count) = rw (same at, every_from (at + length least) count)

  pub parts_within_is : (fewest greatest : ℕ)
      → parts_within fewest greatest least most numbers
      ≡ (whole_parts fewest greatest least numbers
      && every valid (parts_from read (length least) numbers 0 (length numbers / length least)))
  unfolding parts_within every_within
  parts_within_is fewest greatest = rw (every_from 0 (length numbers / length least))
