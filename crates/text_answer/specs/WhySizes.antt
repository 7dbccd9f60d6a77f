-- How many bytes the parts of the answer that says why may take.
use Rattle.std.specs.Prelude.{ℕ, ◌+◌, ◌*◌}
use Rattle.text_out.specs.Places.{next_bytes}
use Rattle.text_out.specs.Sizes.{next_word_bytes}

-- what is at fault: a word and a number
abbrev pub fault_bytes : ℕ
fault_bytes = next_word_bytes + next_bytes

-- what is named, and its reason
abbrev pub named_bytes : ℕ
named_bytes = 2 * next_word_bytes

-- the figures that decided: their name, and six numbers
abbrev pub figures_bytes : ℕ
figures_bytes = next_word_bytes + 6 * next_bytes

-- the seven names, each with its reason, and the figures
abbrev pub reasons_bytes : ℕ
reasons_bytes = 7 * named_bytes + figures_bytes
