-- That a day has a crossed row, by a test of each row: not every row passes where one is crossed.
use Rattle.std.specs.Prelude.{◌≡◌, refl, Bool, true, false, not, ◌&&◌, ◌||◌, List, [], ◌∷◌, map, ℤ}
use Rattle.paper.specs.Lists.{every, some}
use Rattle.paper.specs.Ranges.{LentRow, rows_of, row_of}
use Rattle.paper_desk.specs.Evaluation.{day_rows, is_crossed_row, has_crossed_row}

-- whether a row as it is lent is not crossed
abbrev pub not_crossed : LentRow → Bool
not_crossed row = not (is_crossed_row (row_of row))

pub crossed_fails : (numbers : List ℤ) → not (every not_crossed (rows_of numbers)) ≡ has_crossed_row (day_rows numbers)
unfolding has_crossed_row day_rows every some
crossed_fails numbers = go (rows_of numbers)
  where
    either : (crossed rest others : Bool) → not rest ≡ others → not (not crossed && rest) ≡ (crossed || others)
    either true rest others e = refl
    either false rest others e = e

    go : (rows : List LentRow) → not (every not_crossed rows) ≡ some is_crossed_row (map row_of rows)
    go [] = refl
    go (row ∷ rows) = either (is_crossed_row (row_of row)) _ _ (go rows)
