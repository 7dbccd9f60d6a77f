-- Document 02, W-203, "Take the exchange's evening text": what a field, a line and a text mean, said by how they are
-- put together and not by how they are read. How we read what the request leaves open stands in docs/READINGS.md.
use Rattle.std.specs.Prelude.{◌≡◌, Bool, true, false, ◌||◌, List, [], ◌∷◌, ◌++◌, ℕ, suc, ◌+◌, ◌-◌, ◌*◌, ◌^◌, ◌≤◌, ◌<◌, leb, eqb, ℤ, pos, length, take, get_or, replicate}
use Rattle.paper.specs.declared.Verdict.TheVariants.{Done, BadLine}
use Rattle.paper.specs.Numbers.{id_most, row_numbers, all_numbers_most}
use Rattle.paper.specs.Ranges.{within, row_at, valid_row}
use Rattle.text_bytes.specs.Bytes.{carriage_return, minus_sign, is_line_feed, pieces}
use Rattle.text_bytes.specs.Spells.{Digits, value, negated}
use Rattle.exchange_protocol.specs.declared.Column.{Column}
use Rattle.exchange_protocol.specs.declared.Reading.{Reading}

abbrev pub point : ℕ
point = 46

abbrev pub semicolon : ℕ
semicolon = 59

unfoldable pub is_semicolon : ℕ → Bool
is_semicolon b = eqb b semicolon

-- ---- a field

-- "decimal point", "leading zeros are accepted; a point has a digit on each side". The text is digits, or digits, a
-- point and digits; v is its exact value in the column's unit, 10^-places, so that what stands behind the unit's
-- decimals is zeros; and such zeros stand only where the column may have them
pub data Decimal (c : Column) : List ℕ → ℕ → Type 0 where
  whole : {t : List ℕ} → Digits t → 0 < length t → Decimal c t (value 0 t * 10 ^ c.places)
  pointed : {w f : List ℕ} {v : ℕ} → Digits w → 0 < length w → Digits f → 0 < length f
      → (leb (length f) c.places || c.zeros) ≡ true
      → v * 10 ^ length f ≡ value 0 (w ++ f) * 10 ^ c.places
      → Decimal c (w ++ point ∷ f) v

-- "Empty and 0 both mean missing for close, bid and ask; no other field may be empty"; "an optional minus"
pub data Field (c : Column) : List ℕ → ℤ → Type 0 where
  missing : c.empty ≡ true → Field c [] (pos 0)
  plain : {p : List ℕ} {v : ℕ} → Decimal c p v → Field c p (pos v)
  negative : {p : List ℕ} {v : ℕ} → c.minus ≡ true → Decimal c p v → Field c (minus_sign ∷ p) (negated v)

-- ---- a line

-- "term and volume whole", and so the id
abbrev pub whole_number : Column
whole_number = record { places = 0; zeros = false; empty = false; minus = false }

-- "rates of exchange with up to four decimals"
abbrev pub exchange_rate : Column
exchange_rate = record { places = 4; zeros = false; empty = false; minus = false }

-- "the repo rate in per cent with up to two and an optional minus"
abbrev pub repo_rate : Column
repo_rate = record { places = 2; zeros = false; empty = false; minus = true }

-- "roubles .. with up to four decimals", "a price with more than four decimals is refused unless the extra digits are
-- zeros"
abbrev pub price : Column
price = record { places = 4; zeros = true; empty = true; minus = false }

-- "eight fields: the id, then document 01's seven in its order": T, central rate, repo rate, close, bid, ask, volume
unfoldable pub columns : List Column
columns = whole_number ∷ whole_number ∷ exchange_rate ∷ repo_rate ∷ price ∷ price ∷ price ∷ whole_number ∷ []

-- the numbers of a line: the id, and those of a row
abbrev pub line_numbers : ℕ
line_numbers = 1 + row_numbers

-- each field by its column, as many fields as columns
pub data Fields : List Column → List (List ℕ) → List ℤ → Type 0 where
  no_field : Fields [] [] []
  field : {c : Column} {cs : List Column} {p : List ℕ} {ps : List (List ℕ)} {z : ℤ} {zs : List ℤ}
      → Field c p z → Fields cs ps zs → Fields (c ∷ cs) (p ∷ ps) (z ∷ zs)

-- "fields split by semicolons"; "a field outside document 01's range" makes a bad line
pub record Line (l : List ℕ) (id : ℕ) (row : List ℤ) : Type 0 where
  pub fields : Fields columns (pieces is_semicolon l) (pos id ∷ row)
  pub known : within 1 id_most id ≡ true
  pub valid : valid_row (row_at row 0) ≡ true

-- "A line ends with LF, and CR LF is accepted": what stands before the LF
pub data Ended : List ℕ → ℕ → List ℤ → Type 0 where
  by_lf : {l : List ℕ} {id : ℕ} {row : List ℤ} → Line l id row → Ended l id row
  by_cr_lf : {l : List ℕ} {id : ℕ} {row : List ℤ} → Line l id row → Ended (l ++ carriage_return ∷ []) id row

-- ---- a text

-- "16 rows"
abbrev pub rows_most : ℕ
rows_most = 16

-- "a lent buffer of at most 65,536 bytes"
abbrev pub text_most : ℕ
text_most = 65536

-- at least so many of the lines are rows of the security
pub data AtLeast (id : ℕ) : ℕ → List (List ℕ) → Type 0 where
  enough : {ls : List (List ℕ)} → AtLeast id 0 ls
  one : {n : ℕ} {l : List ℕ} {ls : List (List ℕ)} {row : List ℤ} → Ended l id row → AtLeast id n ls
      → AtLeast id (suc n) (l ∷ ls)
  past : {n : ℕ} {l : List ℕ} {ls : List (List ℕ)} → AtLeast id n ls → AtLeast id n (l ∷ ls)

-- "An unended last line, a field outside document 01's range and a seventeenth row for the security are bad lines". The
-- pieces ls stand between the LFs of the text, the last of them behind the last LF; lines are "counted from 1"
pub data Bad (id : ℕ) (ls : List (List ℕ)) : ℕ → Type 0 where
  unended : {k : ℕ} → length ls ≡ suc k → 0 < length (get_or ls k []) → Bad id ls (suc k)
  no_row : {k : ℕ} → suc k < length ls → ((i : ℕ) (row : List ℤ) → Ended (get_or ls k []) i row → ⊥) → Bad id ls (suc k)
  seventeenth : {k : ℕ} {row : List ℤ} → suc k < length ls → Ended (get_or ls k []) id row
      → AtLeast id rows_most (take k ls) → Bad id ls (suc k)

-- the rows of the security, in the order of its lines, where every line is a row of some security
pub data RowsOf (id : ℕ) : List (List ℕ) → List (List ℤ) → Type 0 where
  no_line : RowsOf id [] []
  its_own : {l : List ℕ} {ls : List (List ℕ)} {row : List ℤ} {rows : List (List ℤ)} → Ended l id row → RowsOf id ls rows
      → RowsOf id (l ∷ ls) (row ∷ rows)
  another's : {l : List ℕ} {ls : List (List ℕ)} {i : ℕ} {row : List ℤ} {rows : List (List ℤ)} → Ended l i row
      → (i ≡ id → ⊥) → RowsOf id ls rows → RowsOf id (l ∷ ls) rows

unfoldable pub in_one : List (List ℤ) → List ℤ
in_one [] = []
in_one (row ∷ rows) = row ++ in_one rows

-- "16 rows, zeros past the last, and their count"
unfoldable pub accepted : List (List ℤ) → Reading
accepted rows =
    record {
      verdict = Done;
      line = 0;
      count = length rows;
      rows = in_one rows ++ replicate (all_numbers_most - row_numbers * length rows) (pos 0);
    }

-- "a refusal gives zeros"; "15, bad line, with its line number"
unfoldable pub refused : ℕ → Reading
refused n = record { verdict = BadLine; line = n; count = 0; rows = replicate all_numbers_most (pos 0) }

-- WHAT A TEXT SAYS OF A SECURITY
pub data Says (id : ℕ) (t : List ℕ) : Reading → Type 0 where
  -- "a buffer over the length is bad at line 0"
  too_long : text_most < length t → Says id t (refused 0)
  -- "the first bad line wins"
  bad_at_lem : {n : ℕ} → length t ≤ text_most → Bad id (pieces is_line_feed t) n
      → ((m : ℕ) → m < n → Bad id (pieces is_line_feed t) m → ⊥) → Says id t (refused n)
  good : {rows : List (List ℤ)} → length t ≤ text_most → ((m : ℕ) → Bad id (pieces is_line_feed t) m → ⊥)
      → RowsOf id (take (length (pieces is_line_feed t) - 1) (pieces is_line_feed t)) rows → Says id t (accepted rows)
