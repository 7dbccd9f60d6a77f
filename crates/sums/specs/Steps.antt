-- Steps of the division with no bit more: what the code's table has of each byte, and what lets its bits come in at once.
use Rattle.std.specs.Prelude.{◌≡◌, List, ℕ, zero, suc, ◌<◌, get_or}
use Rattle.sums.specs.Sums.{divided, byte_bits}

unfoldable pub divided_by : (count remainder : ℕ) → ℕ
divided_by zero remainder = remainder
divided_by (suc count) remainder = divided_by count (divided remainder)

-- a table of what eight steps make of each byte
abbrev pub HoldSteps : List ℕ → Type 0
HoldSteps table = (byte : ℕ) → byte < 256 → get_or table byte 0 ≡ divided_by byte_bits byte
