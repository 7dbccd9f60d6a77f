-- docs/JOURNAL.md, "An entry": the bytes of an entry, and which bytes are one.
use Rattle.std.specs.Prelude.{Bool, ◌&&◌, List, [], ◌∷◌, ◌++◌, ℕ, zero, suc, ◌+◌, ◌-◌, ◌/◌, ◌%◌, leb, ltb, length, take, drop}
use Rattle.paper.specs.Lists.{pick}
use Rattle.sums.specs.Sums.{sum_of}
use Rattle.text_bytes.specs.Bytes.{space, digit_zero, is_not, run, same}
use Rattle.text_bytes.specs.Numbers.{decimal}
use Rattle.text_bytes.specs.Spells.{value}
use Rattle.text_protocol.specs.Line.{longest}

-- a line that was kept, and the number of its batch
pub record Entry : Type 0 where
  pub batch : ℕ
  pub line : List ℕ

-- ---- the sum as it is written

-- the letter "a", the digit of 10
abbrev pub digit_ten : ℕ
digit_ten = 97

unfoldable pub hex_digit : (digit : ℕ) → ℕ
hex_digit d = pick (ltb d 10) (digit_zero + d) (digit_ten + (d - 10))

-- the lowest digits of a number, as many as are asked for
unfoldable pub hex : (count number : ℕ) → List ℕ
hex zero n = []
hex (suc count) n = hex count (n / 16) ++ hex_digit (n % 16) ∷ []

-- a sum has 32 bits: eight digits
abbrev pub sum_digits : ℕ
sum_digits = 8

-- ---- an entry as it is written

-- what stands behind the sum, and what the sum is of: a space, the number of the batch, a space, the line
unfoldable pub behind_sum : Entry → List ℕ
behind_sum e = space ∷ (decimal e.batch ++ space ∷ e.line)

-- THE BYTES OF AN ENTRY, up to its line feed
unfoldable pub written : Entry → List ℕ
written e = hex sum_digits (sum_of (behind_sum e)) ++ behind_sum e

-- ---- an entry as it is read

-- what stands behind the sum and a space
unfoldable pub from_number : List ℕ → List ℕ
from_number bytes = drop (suc sum_digits) bytes

-- how many bytes stand there before a space
unfoldable pub number_end : List ℕ → ℕ
number_end bytes = run (is_not space) (from_number bytes)

-- the entry that bytes would be: the number before that space, and all that is behind it
unfoldable pub read_as : List ℕ → Entry
read_as bytes =
    record {
      batch = value 0 (take (number_end bytes) (from_number bytes));
      line = drop (suc (number_end bytes)) (from_number bytes);
    }

-- WHICH BYTES ARE AN ENTRY: those that are written for what they read as, so that the sum, the spaces and the number
-- are as they are written; and the line is no longer than a line may be
unfoldable pub is_entry : List ℕ → Bool
is_entry bytes = same bytes (written (read_as bytes)) && leb (length (read_as bytes).line) longest
