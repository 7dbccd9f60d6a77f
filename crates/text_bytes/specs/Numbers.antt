-- docs/EVENING.md, "Numbers": how a number is written, and which number a word spells.
use Rattle.std.specs.Prelude.{Bool, ◌&&◌, List, [], ◌∷◌, ◌++◌, ℕ, zero, suc, ◌+◌, ◌-◌, ◌*◌, ◌/◌, ◌%◌, ◌<◌, leb, ltb, eqb, ℤ, pos, negsuc}
use Rattle.std.specs.Int.Signed.{mag}
use Rattle.paper.specs.Lists.{pick}
use Rattle.std.specs.declared.option.Option.{Option}
use Rattle.std.specs.declared.option.Option.TheVariants.{None, Some}
use Rattle.text_bytes.specs.Bytes.{line_feed, space, minus_sign, slash, digit_zero, digit_nine, is_not, run}

-- ---- a number as it is printed

-- one digit; or the text of a number above 0, and one digit more: so no zero leads, and 0 is "0"
pub data Decimal : ℕ → List ℕ → Type 0 where
  one : {d : ℕ} → d < 10 → Decimal d ((digit_zero + d) ∷ [])
  more : {n d : ℕ} {t : List ℕ} → 0 < n → d < 10 → Decimal n t → Decimal (10 * n + d) (t ++ ((digit_zero + d) ∷ []))

-- the same, computed: `f` is a number of steps that is enough
unfoldable pub spelt : (f n : ℕ) → List ℕ
spelt zero n = []
spelt (suc f) n = pick (ltb n 10) ((digit_zero + n) ∷ []) (spelt f (n / 10) ++ ((digit_zero + n % 10) ∷ []))

unfoldable pub decimal : ℕ → List ℕ
decimal n = spelt (suc n) n

-- a minus where it is below zero, and its size
unfoldable pub signed : ℤ → List ℕ
signed (pos n) = decimal n
signed (negsuc n) = minus_sign ∷ decimal (suc n)

-- ---- numbers in a line

-- a blank, and the number
unfoldable pub next : ℤ → List ℕ
next z = space ∷ signed z

-- a blank before each number
unfoldable pub spaced : List ℤ → List ℕ
spaced [] = []
spaced (z ∷ zs) = next z ++ spaced zs

-- the numbers of an answer, the verdict's first
abbrev pub numbers_of : (verdict : ℕ) → (figures : List ℤ) → List ℤ
numbers_of v zs = pos v ∷ zs

-- THE BYTES OF AN ANSWER: the number of the verdict, the figures behind it, the end of the line
unfoldable pub answer_text : (verdict : ℕ) → (figures : List ℤ) → List ℕ
answer_text v zs = decimal v ++ spaced zs ++ (line_feed ∷ [])

-- ---- a number as it is read

unfoldable pub is_digit : ℕ → Bool
is_digit b = leb digit_zero b && leb b digit_nine

-- the number that digits spell behind those of n
unfoldable pub size_from : (n : ℕ) → (digits : List ℕ) → Option ℕ
size_from n [] = Some n
size_from n (b ∷ t) = pick (is_digit b) (size_from (10 * n + (b - digit_zero)) t) None

-- at least one digit; zeros may lead
unfoldable pub size_of : List ℕ → Option ℕ
size_of [] = None
size_of (b ∷ t) = size_from 0 (b ∷ t)

-- the sizes of the greatest and of the least number of 64 bits with a sign
abbrev pub greatest : ℕ
greatest = 9223372036854775807

abbrev pub least : ℕ
least = 9223372036854775808

-- numbers whose sizes are below 2^63
pub data Fitting : List ℤ → Type 0 where
  none_fits : Fitting []
  also_fits : {z : ℤ} {zs : List ℤ} → mag z < least → Fitting zs → Fitting (z ∷ zs)

unfoldable pub up_to : (most : ℕ) → Option ℕ → Option ℕ
up_to most (Some n) = pick (leb n most) (Some n) None
up_to most None = None

unfoldable pub above : Option ℕ → Option ℤ
above (Some n) = Some (pos n)
above None = None

unfoldable pub below : Option ℕ → Option ℤ
below (Some zero) = Some (pos 0)
below (Some (suc n)) = Some (negsuc n)
below None = None

-- THE NUMBER THAT A WORD SPELLS: digits, behind a minus or none, from -2^63 to 2^63 - 1
unfoldable pub number_of : List ℕ → Option ℤ
number_of [] = None
number_of (b ∷ t) = pick (eqb b minus_sign) (below (up_to least (size_of t))) (above (up_to greatest (size_of (b ∷ t))))

-- ---- a pair of terms Ym/Yn

-- how many bytes stand before the first slash
unfoldable pub slash_at : List ℕ → ℕ
slash_at w = run (is_not slash) w
