-- W-203 by examples: lines and texts of the exchange, both sides of each sentence, each beside what it says of the
-- security 7. `rows_are`, `lines_bad` and `texts_are` compute them all; `says_reading` (proofs/Texts.antt) proves that
-- what is computed is what the definitions of Exchange say, and nothing else.
use Rattle.std.specs.Prelude.{◌≡◌, refl, List, [], ◌∷◌, ◌++◌, map, ℕ, zero, suc, ℤ, pos, negsuc, length, replicate}
use Prim.Native.String.{String}
use Rattle.paper.specs.declared.Verdict.TheVariants.{Done, BadLine}
use Rattle.paper.specs.Ranges.{unsigned, row_at, valid_row}
use Rattle.text_bytes.specs.Bytes.{line_feed, carriage_return, is_line_feed, grow, pieces, bytes}
use Rattle.text_bytes.specs.Numbers.{is_digit}
use Rattle.text_bytes.specs.Spells.{negated}
use Rattle.exchange_protocol.specs.declared.Column.{Column}
use Rattle.exchange_protocol.specs.declared.Reading.{Reading}
use Rattle.exchange_protocol.specs.Exchange.{whole_number, exchange_rate, repo_rate, price, columns, line_numbers}
use Rattle.exchange_protocol.specs.Exchange.{text_most}
use Rattle.exchange_protocol.specs.Exchange.{in_one, accepted, refused}
use Rattle.exchange_protocol.specs.Scan.{starts, digits, past_zeros, decimals, behind_whole, number, positive}
use Rattle.exchange_protocol.specs.Scan.{turned}
use Rattle.exchange_protocol.specs.Scan.{cell, pass, line_end, field_end, cells, in_range, line, is_of, or_bad}
use Rattle.exchange_protocol.specs.Scan.{collect}
use Rattle.exchange_protocol.specs.Scan.{front, none, reading}

unfoldable pub ended : String → List ℕ
ended s = bytes s ++ line_feed ∷ []

unfoldable pub ended_cr : String → List ℕ
ended_cr s = bytes s ++ carriage_return ∷ line_feed ∷ []

-- ---- what is expected: so many rows, their numbers, and so many zeros behind them, 112 numbers in all; or a bad line

abbrev pub holds : (count : ℕ) → (numbers : List ℤ) → (zeros : ℕ) → Reading
holds count numbers zeros =
    record { verdict = Done; line = 0; count = count; rows = numbers ++ replicate zeros (pos 0) }

abbrev pub bad_at : (line : ℕ) → Reading
bad_at line = record { verdict = BadLine; line = line; count = 0; rows = replicate 112 (pos 0) }

-- ---- a line that is a row of the security 7

pub data RowCase : Type 0 where
  row : String → List ℤ → RowCase

unfoldable pub row_read : RowCase → Reading
row_read (row s zs) = reading 7 (ended s)

unfoldable pub row_meant : RowCase → Reading
row_meant (row s zs) = holds 1 zs 105

abbrev pub unit : ℤ
unit = pos 10000

unfoldable pub row_cases : List RowCase
row_cases =
    -- roubles and rates of exchange in ten-thousandths, the repo rate in basis points
    row "7;0;1;0;103;;;5" (pos 0 ∷ unit ∷ pos 0 ∷ pos 1030000 ∷ pos 0 ∷ pos 0 ∷ pos 5 ∷ [])
    ∷ row "7;2;12.5;7.3;103.0001;102.95;0.1;0"
    (pos 2 ∷ pos 125000 ∷ pos 730 ∷ pos 1030001 ∷ pos 1029500 ∷ pos 1000 ∷ pos 0 ∷ [])
    -- leading zeros; the ends of the ranges
    ∷ row "0000007;0030;01000.0000;099.99;01000000;1000000.0;1000000.0000;100000000"
    (pos 30 ∷ pos 10000000 ∷ pos 9999 ∷ pos 10000000000 ∷ pos 10000000000 ∷ pos 10000000000 ∷ pos 100000000 ∷ [])
    ∷ row "7;0;0.0001;-99.99;0.0001;0;0;0" (pos 0 ∷ pos 1 ∷ negsuc 9998 ∷ pos 1 ∷ pos 0 ∷ pos 0 ∷ pos 0 ∷ [])
    -- a minus before nothing is a zero
    ∷ row "7;0;1;-0;;;;0" (pos 0 ∷ unit ∷ pos 0 ∷ pos 0 ∷ pos 0 ∷ pos 0 ∷ pos 0 ∷ [])
    ∷ row "7;0;1;-0.00;;;;0" (pos 0 ∷ unit ∷ pos 0 ∷ pos 0 ∷ pos 0 ∷ pos 0 ∷ pos 0 ∷ [])
    ∷ row "7;0;1;-0.01;;;;0" (pos 0 ∷ unit ∷ negsuc 0 ∷ pos 0 ∷ pos 0 ∷ pos 0 ∷ pos 0 ∷ [])
    -- further decimals of a price that are zeros
    ∷ row "7;0;1;0;8.10000000;0.00000;1.23450;0"
    (pos 0 ∷ unit ∷ pos 0 ∷ pos 81000 ∷ pos 0 ∷ pos 12345 ∷ pos 0 ∷ [])
    ∷ []

-- ---- a line that is bad

unfoldable pub bad_lines : List String
bad_lines =
    -- not eight fields
    "" ∷ "7;0;1;0;103;;5" ∷ "7;0;1;0;103;;;5;" ∷ "7;0;1;0;103;;;5;6"
    -- no other field may be empty
    ∷ ";0;1;0;103;;;5" ∷ "7;;1;0;103;;;5" ∷ "7;0;;0;103;;;5" ∷ "7;0;1;;103;;;5" ∷ "7;0;1;0;103;;;"
    -- a point has a digit on each side; whole fields have none
    ∷ "7;0;1.;0;103;;;5" ∷ "7;0;.5;0;103;;;5" ∷ "7;0;1;-.5;103;;;5" ∷ "7;0;1;0;103.;;;5" ∷ "7;0;1;0;.1;;;5"
    ∷ "7;0;1;0;.;;;0" ∷ "7;0;1;0;1.2.3;;;5" ∷ "7.0;0;1;0;103;;;5" ∷ "7;0.0;1;0;103;;;5" ∷ "7;0;1;0;103;;;5.0"
    -- more decimals than the unit has
    ∷ "7;0;1.00000;0;103;;;5" ∷ "7;0;1;0.000;103;;;5" ∷ "7;0;1;7.305;103;;;5" ∷ "7;0;1;0;103.00001;;;5"
    ∷ "7;0;1;0;103.0000001;;;5" ∷ "7;0;1;0;103;0.00010001;;5"
    -- other bytes, and a minus elsewhere
    ∷ "7;0;1;+1;103;;;5" ∷ "7;0;1; 1;103;;;5" ∷ "7;0;1;1 ;103;;;5" ∷ "7;0;1;1e1;103;;;5" ∷ "7;0;1;--1;103;;;5"
    ∷ "7;0;1;1-;103;;;5" ∷ "7;0;1;-;103;;;5" ∷ "-7;0;1;0;103;;;5" ∷ "7;-0;1;0;103;;;5" ∷ "7;0;1;0;-103;;;5"
    ∷ "7;0;1;0;103;-;;5" ∷ "7;0;1;0;-0;;;0" ∷ "7;0;1;0;103;;-0.0;5" ∷ "7;0;1,5;0;103;;;5" ∷ "a;0;1;0;103;;;5"
    -- outside document 01's ranges
    ∷ "0;0;1;0;103;;;5" ∷ "1000000001;0;1;0;103;;;5" ∷ "7;31;1;0;103;;;5" ∷ "7;0;0;0;103;;;5"
    ∷ "7;0;1000.0001;0;103;;;5" ∷ "7;0;1;100;103;;;5" ∷ "7;0;1;-100.00;103;;;5" ∷ "7;0;1;0;1000000.0001;;;5"
    ∷ "7;0;1;0;103;1000001;;5" ∷ "7;0;1;0;103;;;100000001" ∷ "18446744073709551623;0;1;0;103;;;5"
    -- "Volume above 0 with close 0 is out of range"
    ∷ "7;0;1;0;;;;1" ∷ "7;0;1;0;0.0000;102;104;1"
    ∷ []

-- ---- texts

pub data TextCase : Type 0 where
  text : List ℕ → Reading → TextCase

unfoldable pub text_read : TextCase → Reading
text_read (text t r) = reading 7 t

unfoldable pub text_meant : TextCase → Reading
text_meant (text t r) = r

unfoldable pub times : {A : Type 0} → ℕ → List A → List A
times zero t = []
times (suc n) t = t ++ times n t

abbrev pub some : List ℤ
some = pos 0 ∷ unit ∷ pos 0 ∷ pos 10000 ∷ pos 0 ∷ pos 0 ∷ pos 0 ∷ []

unfoldable pub own : List ℕ
own = ended "7;0;1;0;1;;;0"

unfoldable pub others : List ℕ
others = ended "9;0;1;0;2;;;0"

unfoldable pub spoilt : List ℕ
spoilt = ended "9;0;1;0;x;;;0"

unfoldable pub text_cases : List TextCase
text_cases =
    -- an empty text has no rows; lines of other ids have none of this one
    text [] (holds 0 [] 112)
    ∷ text others (holds 0 [] 112)
    -- the rows in their order; LF and CR LF
    ∷ text (own ++ others ++ ended_cr "7;1;1;0;1;;;0" ++ own)
    (holds 3 (some ++ (pos 1 ∷ unit ∷ pos 0 ∷ pos 10000 ∷ pos 0 ∷ pos 0 ∷ pos 0 ∷ some)) 91)
    -- a CR anywhere else; an empty line
    ∷ text (ended_cr "7;0;1;0;1;;;0" ++ ended_cr "7;0;1;0;1;;;0" ++ carriage_return ∷ []) (bad_at 3)
    ∷ text (bytes "7;0;1;0;1;;;0" ++ carriage_return ∷ carriage_return ∷ line_feed ∷ []) (bad_at 1)
    ∷ text (carriage_return ∷ own) (bad_at 1)
    ∷ text (own ++ line_feed ∷ own) (bad_at 2)
    -- an unended last line
    ∷ text (own ++ bytes "7;0;1;0;1;;;0") (bad_at 2)
    ∷ text (bytes "7") (bad_at 1)
    -- NUL, and a byte above 127
    ∷ text (own ++ 0 ∷ line_feed ∷ []) (bad_at 2)
    ∷ text (own ++ bytes "7;0;1;0;1;;;" ++ 178 ∷ line_feed ∷ []) (bad_at 2)
    -- the first bad line wins, of whichever id
    ∷ text (own ++ spoilt ++ own ++ spoilt) (bad_at 2)
    -- sixteen rows, and a seventeenth; a bad line before it, and one behind it
    ∷ text (times 16 own ++ others) (holds 16 (times 16 some) 0)
    ∷ text (times 16 own ++ others ++ own) (bad_at 18)
    ∷ text (times 2 own ++ spoilt ++ times 15 own) (bad_at 3)
    ∷ text (times 17 own ++ spoilt) (bad_at 17)
    ∷ []

pub rows_are : map row_read row_cases ≡ map row_meant row_cases
unfolding row_read row_meant row_cases ended bytes reading collect or_bad is_of line cells cell field_end line_end pass number
    positive turned behind_whole decimals digits past_zeros starts in_range accepted refused in_one columns pieces grow
    is_line_feed is_digit negated unsigned row_at valid_row
rows_are = refl

pub lines_bad : map (λ s. reading 7 (ended s)) bad_lines ≡ map (λ s. bad_at 1) bad_lines
unfolding bad_lines ended bytes reading collect or_bad is_of line cells cell field_end line_end pass number
    positive turned behind_whole decimals digits past_zeros starts in_range accepted refused in_one columns pieces grow
    is_line_feed is_digit negated unsigned row_at valid_row
lines_bad = refl

pub texts_are : map text_read text_cases ≡ map text_meant text_cases
unfolding text_read text_meant text_cases times own others spoilt ended ended_cr bytes reading collect or_bad is_of line cells
    cell field_end line_end pass number positive turned behind_whole decimals digits past_zeros starts in_range accepted
    refused in_one columns pieces grow is_line_feed is_digit negated unsigned row_at valid_row
texts_are = refl

-- "no other field may be empty" than a price's, and none but the repo rate has a minus
pub columns_are : (map (λ (c : Column). cell c []) (whole_number ∷ exchange_rate ∷ repo_rate ∷ price ∷ [])
    ≡ none ∷ none ∷ none ∷ front (pos 0) [] ∷ [])
    × (map (λ (c : Column). cell c (bytes "-1")) (whole_number ∷ exchange_rate ∷ repo_rate ∷ [])
    ≡ none ∷ none ∷ front (negsuc 99) [] ∷ [])
    × (cell price (bytes "-1") ≡ front (pos 0) (bytes "-1"))
unfolding cell turned positive number digits behind_whole decimals starts is_digit negated bytes
columns_are = (refl, refl, refl)

-- "eight fields", and "at most 65,536 bytes"
pub lengths_are : (length columns ≡ line_numbers) × (line_numbers ≡ 8) × (text_most ≡ 65536)
unfolding columns
lengths_are = (refl, refl, refl)
