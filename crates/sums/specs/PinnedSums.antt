-- Sums of texts, as the standard and other programs (zlib's crc32, cksum -o 3) give them.
use Rattle.std.specs.Prelude.{◌≡◌, refl, List, [], ◌∷◌, ℕ}
use Rattle.sums.specs.Sums.{divided, bits_of, after_bits, after_bytes, sum_on, sum_of}

-- "123456789", the standard's own check
unfoldable pub digits : List ℕ
digits = 49 ∷ 50 ∷ 51 ∷ 52 ∷ 53 ∷ 54 ∷ 55 ∷ 56 ∷ 57 ∷ []

-- a text with every hexadecimal digit as a low and as a high half of a byte
unfoldable pub halves : List ℕ
halves =
    0 ∷ 17 ∷ 34 ∷ 51 ∷ 68 ∷ 85 ∷ 102 ∷ 119 ∷ 136 ∷ 153 ∷ 170 ∷ 187 ∷ 204 ∷ 221 ∷ 238 ∷ 255 ∷ 254 ∷ 220 ∷ 186 ∷ 152 ∷ 118
    ∷ 84 ∷ 50 ∷ 16 ∷ []

-- the sum of a text. It opens every definition that it is made with, so that a table opens this one alone
unfoldable pub summed : List ℕ → ℕ
unfolding sum_of sum_on after_bytes after_bits bits_of divided
summed bytes = sum_of bytes

pub sums_are : (summed [] ≡ 0)
    × (summed digits ≡ 3421780262)  -- CBF43926
    × (summed (0 ∷ []) ≡ 3523407757)
    × (summed (97 ∷ []) ≡ 3904355907)
    × (summed (255 ∷ []) ≡ 4278190080)
    × (summed halves ≡ 4185432090)
unfolding summed digits halves
sums_are = (refl, refl, refl, refl, refl, refl)

-- "1234" first, and then "56789" from its sum on
pub carried_on : (summed (49 ∷ 50 ∷ 51 ∷ 52 ∷ []) ≡ 2615402659)
    × (sum_on 2615402659 (53 ∷ 54 ∷ 55 ∷ 56 ∷ 57 ∷ []) ≡ 3421780262)
unfolding summed sum_on after_bytes after_bits bits_of divided
carried_on = (refl, refl)
