-- How a text is read in one pass, from its front on: what stands in front of a text, and what is left behind it. The
-- code reads so; proofs/ proves that it is what the definitions of Exchange say.
use Rattle.std.specs.Prelude.{◌≡◌, Bool, false, ◌&&◌, not, List, [], ◌∷◌, ◌++◌, ℕ, zero, suc, ◌+◌, ◌-◌, ◌*◌, ◌^◌, leb, ltb, eqb, ℤ, pos, length, drop, get_or}
use Rattle.paper.specs.Lists.{pick}
use Rattle.paper.specs.Numbers.{id_most, price_most}
use Rattle.paper.specs.Ranges.{within_z, unsigned, row_at, valid_row}
use Rattle.text_bytes.specs.Bytes.{line_feed, carriage_return, minus_sign, digit_zero, is_line_feed, pieces}
use Rattle.text_bytes.specs.Numbers.{is_digit}
use Rattle.text_bytes.specs.Spells.{negated}
use Rattle.text_bytes.specs.Split.{Free}
use Rattle.exchange_protocol.specs.declared.Column.{Column}
use Rattle.exchange_protocol.specs.declared.Reading.{Reading}
use Rattle.exchange_protocol.specs.Exchange.{point, semicolon, columns, rows_most, text_most, accepted, refused}
use Rattle.exchange_protocol.specs.Exchange.{Decimal, Field, Ended}

-- what stands in front of a text and the text behind it; or nothing that is looked for
pub data Front (A : Type 0) : Type 0 where
  front : A → List ℕ → Front A
  none : Front A

abbrev pub then : {A B : Type 0} → Front A → (A → List ℕ → Front B) → Front B
then (front x rest) f = f x rest
then none f = none

-- whether the first byte passes a test
unfoldable pub starts : (passes : ℕ → Bool) → (text : List ℕ) → Bool
starts passes [] = false
starts passes (b ∷ t) = passes b

-- no byte of a number follows
pub record NumberEnds (t : List ℕ) : Type 0 where
  pub digit : starts is_digit t ≡ false
  pub point : starts (λ b. eqb b point) t ≡ false
  pub minus : starts (λ b. eqb b minus_sign) t ≡ false

-- no range holds a greater number than this
abbrev pub number_most : ℕ
number_most = price_most

-- at most m digits, behind those of n
unfoldable pub digits : (m n : ℕ) → (text : List ℕ) → Front ℕ
digits zero n t = front n t
digits (suc m) n [] = front n []
digits (suc m) n (b ∷ t) =
    pick (is_digit b)
    (pick (leb (10 * n + (b - digit_zero)) number_most) (digits m (10 * n + (b - digit_zero)) t) none)
    (front n (b ∷ t))

unfoldable pub past_zeros : List ℕ → List ℕ
past_zeros [] = []
past_zeros (b ∷ t) = pick (eqb b digit_zero) (past_zeros t) (b ∷ t)

-- zeros, where the column may have them
abbrev pub behind_zeros : Column → List ℕ → List ℕ
behind_zeros c t = pick c.zeros (past_zeros t) t

-- behind the point
unfoldable pub decimals : Column → (whole : ℕ) → List ℕ → Front ℕ
decimals c n t =
    then (digits c.places n t)
    (λ v rest. pick (ltb (length (behind_zeros c rest)) (length t))
    (front (v * 10 ^ (c.places - (length t - length rest))) (behind_zeros c rest))
    none)

-- behind the digits of n
unfoldable pub behind_whole : Column → (whole : ℕ) → List ℕ → Front ℕ
behind_whole c n t = pick (starts (λ b. eqb b point) t) (decimals c n (drop 1 t)) (front (n * 10 ^ c.places) t)

unfoldable pub number : Column → List ℕ → Front ℕ
number c t =
    then (digits (length t) 0 t)
    (λ n rest. pick (ltb (length rest) (length t)) (behind_whole c n rest) none)

-- a number above zero, and one below
unfoldable pub positive : Column → List ℕ → Front ℤ
positive c t = then (number c t) (λ v rest. front (pos v) rest)

unfoldable pub turned : Column → List ℕ → Front ℤ
turned c t = then (number c t) (λ v rest. front (negated v) rest)

unfoldable pub cell : Column → List ℕ → Front ℤ
cell c t =
    pick (c.minus && starts (λ b. eqb b minus_sign) t) (turned c (drop 1 t))
    (pick (c.empty && not (starts is_digit t)) (front (pos 0) t) (positive c t))

-- a byte or two that are no number
pub data Passed : Type 0 where
  passed : Passed

-- the byte b
unfoldable pub pass : (b : ℕ) → (text : List ℕ) → Front Passed
pass b t = pick (starts (λ x. eqb x b) t) (front passed (drop 1 t)) none

-- what ends a line
unfoldable pub line_end : List ℕ → Front Passed
line_end t = pick (starts (λ x. eqb x carriage_return) t) (pass line_feed (drop 1 t)) (pass line_feed t)

-- behind a field: a semicolon, where columns are left; else what ends the line
unfoldable pub field_end : List Column → List ℕ → Front Passed
field_end [] t = line_end t
field_end (c ∷ cs) t = pass semicolon t

-- the fields of so many columns, behind those that are read
unfoldable pub cells : List Column → (zs : List ℤ) → (text : List ℕ) → Front (List ℤ)
cells [] zs t = front zs t
cells (c ∷ cs) zs t =
    then (cell c t) (λ z rest. then (field_end cs rest) (λ u behind. cells cs (zs ++ z ∷ []) behind))

-- document 01's ranges, of a line's eight numbers
unfoldable pub in_range : List ℤ → Bool
in_range zs = within_z (pos 1) (pos id_most) (get_or zs 0 (pos 0)) && valid_row (row_at zs 1)

-- A LINE, with what ends it
unfoldable pub line : List ℕ → Front (List ℤ)
line t = then (cells columns [] t) (λ zs rest. pick (in_range zs) (front zs rest) none)

-- whether a line's eight numbers are of the security
unfoldable pub is_of : (id : ℕ) → List ℤ → Bool
is_of id zs = eqb (unsigned (get_or zs 0 (pos 0))) id

unfoldable pub or_bad : Front (List ℤ) → (line : ℕ) → (List ℤ → Reading) → Reading
or_bad (front zs rest) n f = f zs
or_bad none n f = refused n

-- from line n on, behind the rows that are read
unfoldable pub collect : (id n : ℕ) → List (List ℤ) → List (List ℕ) → Reading
collect id n rows [] = refused n
collect id n rows (p ∷ []) = pick (eqb (length p) 0) (accepted rows) (refused n)
collect id n rows (p ∷ q ∷ ps) =
    or_bad (line (p ++ line_feed ∷ [])) n
    (λ zs. pick (is_of id zs)
    (pick (ltb (length rows) rows_most) (collect id (suc n) (rows ++ drop 1 zs ∷ []) (q ∷ ps)) (refused n))
    (collect id (suc n) rows (q ∷ ps)))

-- THE READING OF A TEXT
unfoldable pub reading : (id : ℕ) → List ℕ → Reading
reading id t = pick (leb (length t) text_most) (collect id 1 [] (pieces is_line_feed t)) (refused 0)

-- ---- what is read in front of a text u is written there: its bytes p, and the rest behind them

pub record WrittenDecimal (c : Column) (u : List ℕ) (v : ℕ) (rest : List ℕ) : Type 0 where
  pub p : List ℕ
  pub is : u ≡ p ++ rest
  pub decimal : Decimal c p v

pub record WrittenField (c : Column) (u : List ℕ) (z : ℤ) (rest : List ℕ) : Type 0 where
  pub p : List ℕ
  pub is : u ≡ p ++ rest
  pub field : Field c p z

-- a line ends with its line feed
pub record WrittenLine (u : List ℕ) (zs : List ℤ) (rest : List ℕ) : Type 0 where
  pub p : List ℕ
  pub id : ℕ
  pub row : List ℤ
  pub is : u ≡ p ++ line_feed ∷ rest
  pub unbroken : Free is_line_feed p
  pub ended : Ended p id row
  pub numbers : zs ≡ pos id ∷ row
