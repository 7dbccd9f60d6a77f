-- How many bytes a line may take of what is appended here: a word, and the numbers of a day's rows.
use Rattle.std.specs.Prelude.{ℕ, ◌+◌, ◌*◌}
use Rattle.paper.specs.Numbers.{all_numbers_most}
use Rattle.text_out.specs.Places.{next_signed_bytes}

-- the bytes at most of a word (`replacement` and `requirement` have them all), and with the blank before it
abbrev pub word_bytes : ℕ
word_bytes = 11

abbrev pub next_word_bytes : ℕ
next_word_bytes = word_bytes + 1

-- the bytes at most of the numbers of a day's rows, which are the most numbers of any line
abbrev pub rows_bytes : ℕ
rows_bytes = all_numbers_most * next_signed_bytes
