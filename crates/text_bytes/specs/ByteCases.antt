-- docs/EVENING.md, "Lines and words" and "Numbers", by examples: both sides of each rule.
use Rattle.std.specs.Prelude.{◌≡◌, refl, true, false, [], ◌∷◌, map, pos, negsuc}
use Rattle.std.specs.declared.option.Option.TheVariants.{None, Some}
use Rattle.text_bytes.specs.Bytes.{is_blank, is_line_feed, run, grow, pieces, full, ended, words, lines, same, bytes}
use Rattle.text_bytes.specs.Bytes.{is_not}
use Rattle.text_bytes.specs.Numbers.{spelt, decimal, signed, next, spaced, answer_text, is_digit, size_from, size_of}
use Rattle.text_bytes.specs.Numbers.{up_to, above, below, number_of, slash_at}

-- A LINE FEED ENDS A LINE, and what is behind the last one is a line too, unless it is empty; spaces, tabs and carriage
-- returns part words, at both ends too
pub parts_are : (lines (bytes "move 7 0\n\nread 9") ≡ bytes "move 7 0" ∷ [] ∷ bytes "read 9" ∷ [])
    × (lines (bytes "move 7 0\nread 9\n") ≡ bytes "move 7 0" ∷ bytes "read 9" ∷ [])
    × (words (bytes " \t move\t7;  0\r8 \r") ≡ bytes "move" ∷ bytes "7;" ∷ bytes "0" ∷ bytes "8" ∷ [])
unfolding bytes is_blank is_line_feed grow pieces full ended words lines
parts_are = (refl, refl, refl)

-- two words are the same where no byte is another and none has more bytes
pub same_are : (same (bytes "read") (bytes "read") ≡ true)
    × (same (bytes "read") (bytes "Read") ≡ false)
    × (same (bytes "read") (bytes "reads") ≡ false)
    × (same (bytes "read") (bytes "rea") ≡ false)
unfolding bytes same
same_are = (refl, refl, refl, refl)

-- WHICH NUMBER A WORD SPELLS: zeros may lead, and minus zero is zero; the greatest and the least number of 64 bits, and
-- one past each; and words that spell none
pub numbers_are : (map number_of (bytes "0" ∷ bytes "007" ∷ bytes "-12" ∷ bytes "-0" ∷ [])
    ≡ Some (pos 0) ∷ Some (pos 7) ∷ Some (negsuc 11) ∷ Some (pos 0) ∷ [])
    × (map number_of (bytes "9223372036854775807" ∷ bytes "9223372036854775808" ∷ [])
    ≡ Some (pos 9223372036854775807) ∷ None ∷ [])
    × (map number_of (bytes "-9223372036854775808" ∷ bytes "-9223372036854775809" ∷ [])
    ≡ Some (negsuc 9223372036854775807) ∷ None ∷ [])
    × (map number_of ([] ∷ bytes "-" ∷ bytes "+7" ∷ bytes "7." ∷ bytes "/7" ∷ bytes ":7" ∷ bytes "--7" ∷ [])
    ≡ None ∷ None ∷ None ∷ None ∷ None ∷ None ∷ None ∷ [])
unfolding bytes is_digit size_from size_of up_to above below number_of
numbers_are = (refl, refl, refl, refl)

-- where the slash of a pair stands, and how numbers stand in a line
pub lines_are : (slash_at (bytes "12/3/4") ≡ 2) × (slash_at (bytes "123") ≡ 3)
    × (answer_text 6 [] ≡ bytes "6\n")
    × (answer_text 0 (pos 105 ∷ negsuc 29 ∷ pos 0 ∷ []) ≡ bytes "0 105 -30 0\n")
unfolding bytes run is_not slash_at spelt decimal signed next spaced answer_text
lines_are = (refl, refl, refl, refl)
