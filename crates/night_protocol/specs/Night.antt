-- docs/EXCHANGE.md, "The text of a night": what the exchange's text says of all its securities. A line is read as
-- `exchange` reads it (`line` of exchange_protocol); `good_is_reading` (proofs/Rows.antt) proves that the rows of an id
-- are those that the reading of `exchange` gives.
use Rattle.std.specs.Prelude.{Bool, ◌&&◌, ◌||◌, List, [], ◌∷◌, ◌++◌, map, ℕ, suc, leb, ltb, eqb, ℤ, pos, length, drop, get_or}
use Rattle.paper.specs.Lists.{pick, some}
use Rattle.paper.specs.Numbers.{slots_most}
use Rattle.paper.specs.Ranges.{unsigned}
use Rattle.text_bytes.specs.Bytes.{line_feed, is_line_feed, pieces}
use Rattle.exchange_protocol.specs.Exchange.{rows_most}
use Rattle.exchange_protocol.specs.Scan.{Front, front, none, line}

-- the bytes of a text at most
abbrev pub night_most : ℕ
night_most = 1048576

-- the securities of a text at most: a table has so many slots
abbrev pub securities_most : ℕ
securities_most = slots_most

-- ---- ids

unfoldable pub is_among : (id : ℕ) → List ℕ → Bool
is_among id ids = some (λ i. eqb i id) ids

-- an id more, unless it is there
unfoldable pub joined : (ids : List ℕ) → (id : ℕ) → List ℕ
joined ids id = pick (is_among id ids) ids (ids ++ id ∷ [])

-- each id where it first occurs, behind those that are there
unfoldable pub firsts_behind : (ids : List ℕ) → List ℕ → List ℕ
firsts_behind ids [] = ids
firsts_behind ids (i ∷ is) = firsts_behind (joined ids i) is

-- EACH ID ONCE, in the order in which they first occur
unfoldable pub firsts : List ℕ → List ℕ
firsts is = firsts_behind [] is

-- ---- the rows of a security

-- the id of a line's eight numbers
unfoldable pub id_of : List ℤ → ℕ
id_of zs = unsigned (get_or zs 0 (pos 0))

unfoldable pub ids_of : (lines : List (List ℤ)) → List ℕ
ids_of lines = map id_of lines

-- the rows of an id, in the order of its lines
unfoldable pub rows_in : (id : ℕ) → (lines : List (List ℤ)) → List (List ℤ)
rows_in id [] = []
rows_in id (zs ∷ lines) = pick (eqb (id_of zs) id) (drop 1 zs ∷ rows_in id lines) (rows_in id lines)

-- ---- a text

-- whether a line more has room behind those that are read: a seventeenth row of a security has none, and the row of a
-- 513th security has none
unfoldable pub has_room : (lines : List (List ℤ)) → List ℤ → Bool
has_room lines zs =
    ltb (length (rows_in (id_of zs) lines)) rows_most
    && (is_among (id_of zs) (firsts (ids_of lines)) || ltb (length (firsts (ids_of lines))) securities_most)

-- what a text says: the eight numbers of each line; or the first bad line
pub data Night : Type 0 where
  good : (lines : List (List ℤ)) → Night
  bad : (line : ℕ) → Night

unfoldable pub or_bad : Front (List ℤ) → (line : ℕ) → (List ℤ → Night) → Night
or_bad (front zs rest) n f = f zs
or_bad none n f = bad n

-- from line n on, behind the lines that are read
unfoldable pub gather : (n : ℕ) → (lines : List (List ℤ)) → List (List ℕ) → Night
gather n lines [] = bad n
gather n lines (p ∷ []) = pick (eqb (length p) 0) (good lines) (bad n)
gather n lines (p ∷ q ∷ ps) =
    or_bad (line (p ++ line_feed ∷ [])) n
    (λ zs. pick (has_room lines zs) (gather (suc n) (lines ++ zs ∷ []) (q ∷ ps)) (bad n))

-- WHAT A TEXT SAYS; one that is too long is bad at line 0
unfoldable pub night_of : List ℕ → Night
night_of t = pick (leb (length t) night_most) (gather 1 [] (pieces is_line_feed t)) (bad 0)
