-- The first number that is out of its range, as the code looks for it: one walk over the numbers, the least and the most
-- of each.
use Rattle.std.specs.Prelude.{Bool, not, List, [], ◌∷◌, ℕ, suc, get_or}
use Rattle.paper.specs.Lists.{pick}
use Rattle.paper.specs.Ranges.{within}
use Rattle.std.specs.declared.option.Option.{Option}
use Rattle.std.specs.declared.option.Option.TheVariants.{None, Some}

-- whether the number at a place is out of its range
abbrev pub out_at : (least most numbers : List ℕ) → (at : ℕ) → Bool
out_at least most numbers at = not (within (get_or least at 0) (get_or most at 0) (get_or numbers at 0))

-- the first that is, where they are counted from a place on
unfoldable pub first_out : (place : ℕ) → (least most numbers : List ℕ) → Option ℕ
first_out place [] most numbers = None
first_out place (l ∷ ls) [] numbers = None
first_out place (l ∷ ls) (m ∷ ms) [] = None
first_out place (l ∷ ls) (m ∷ ms) (x ∷ xs) =
    pick (not (within l m x)) (Some place) (first_out (suc place) ls ms xs)
