-- docs/EVENING.md, "Numbers", as a relation: which bytes are blanks, and which word spells which number, said by how
-- they are put together and not by how they are read. `spells_reads` and `reads_spells` (proofs/Spelling.antt) prove
-- that it and `number_of` agree.
use Rattle.std.specs.Prelude.{◌≡◌, true, List, [], ◌∷◌, ℕ, zero, suc, ◌+◌, ◌-◌, ◌*◌, ◌≤◌, ◌<◌, ℤ, pos, negsuc, length}
use Rattle.text_bytes.specs.Bytes.{is_blank, minus_sign, digit_zero, digit_nine}
use Rattle.text_bytes.specs.Numbers.{greatest, least}

pub data Blanks : List ℕ → Type 0 where
  no_blank : Blanks []
  blank : {b : ℕ} {t : List ℕ} → is_blank b ≡ true → Blanks t → Blanks (b ∷ t)

-- ---- a number

pub data Digits : List ℕ → Type 0 where
  no_digit : Digits []
  digit : {b : ℕ} {t : List ℕ} → digit_zero ≤ b → b ≤ digit_nine → Digits t → Digits (b ∷ t)

-- the number that digits spell behind those of n
unfoldable pub value : (n : ℕ) → (digits : List ℕ) → ℕ
value n [] = n
value n (b ∷ t) = value (10 * n + (b - digit_zero)) t

unfoldable pub negated : ℕ → ℤ
negated zero = pos 0
negated (suc n) = negsuc n

-- digits, any zeros in front, behind a minus or none, within 64 bits
pub data Spells : List ℕ → ℤ → Type 0 where
  plain : {t : List ℕ} → Digits t → 0 < length t → value 0 t ≤ greatest → Spells t (pos (value 0 t))
  minus : {t : List ℕ} → Digits t → 0 < length t → value 0 t ≤ least → Spells (minus_sign ∷ t) (negated (value 0 t))
