-- What the code counts with where it spells a number: its last digits, and how many digits it has.
use Rattle.std.specs.Prelude.{List, [], ◌∷◌, ◌++◌, ℕ, zero, suc, ◌+◌, ◌-◌, ◌/◌, ◌%◌, ◌^◌, ◌≤◌, ◌<◌}
use Rattle.text_bytes.specs.Bytes.{digit_zero}

-- the bytes at most of a number of 64 bits, and of a signed one, which may have a minus
abbrev pub number_bytes : ℕ
number_bytes = 20

abbrev pub signed_bytes : ℕ
signed_bytes = number_bytes + 1

-- with the blank before it
abbrev pub next_bytes : ℕ
next_bytes = number_bytes + 1

abbrev pub next_signed_bytes : ℕ
next_signed_bytes = signed_bytes + 1

-- the last k digits of n
unfoldable pub last : (k n : ℕ) → List ℕ
last zero n = []
last (suc k) n = last k (n / 10) ++ ((digit_zero + n % 10) ∷ [])

-- k digits hold x, and no fewer do; 0 has one
abbrev pub Places : (x k : ℕ) → Type 0
Places x k = (0 < k) × (k ≤ number_bytes) × (x < 10 ^ k) × (10 ^ (k - 1) ≤ x + (1 - x))
