-- How the tables hold the lines of a text: the ids in the order in which they first occur, how many rows each
-- security has, and the rows' numbers, in so many places for each security.
use Rattle.std.specs.Prelude.{◌≡◌, true, false, List, [], ◌∷◌, ◌++◌, Option, Some, None, MatchOption, Result, Ok, Err, ℕ, ◌+◌, ◌*◌, ◌≤◌, ◌<◌, ℤ, length, take, drop, get_or}
use Rattle.paper.specs.Numbers.{row_numbers, all_numbers_most}
use Rattle.exchange_protocol.specs.Exchange.{rows_most, in_one}
use Rattle.night_protocol.specs.Night.{good, bad, securities_most, firsts, ids_of, rows_in, has_room, night_of}
use Rattle.night_protocol.specs.Sheet.{asked_most}
use Rattle.night_serve.specs.declared.reading.Securities.{Securities}

-- the room for ids, for rows, and for their numbers
abbrev pub ids_room : ℕ
ids_room = securities_most + asked_most

abbrev pub rows_room : ℕ
rows_room = securities_most * rows_most

abbrev pub figures_room : ℕ
figures_room = securities_most * all_numbers_most

-- the id at a place
abbrev pub id_at : List ℕ → ℕ → ℕ
id_at ids i = get_or ids i 0

-- an id's place among others; or it stands at none
abbrev pub Finds : (ids : List ℕ) (id : ℕ) → Option ℕ → Type 0
Finds ids id r =
    MatchOption r ((i : ℕ) → i < length ids → id_at ids i ≡ id → ⊥) (λ i. (i < length ids) × (id_at ids i ≡ id))

-- THE FIRST n PLACES HOLD THE LINES: the ids, each once, how many rows each has, and their numbers
pub record Held (lines : List (List ℤ)) (ids counts : List ℕ) (figures : List ℤ) (n : ℕ) : Type 0 where
  pub ids_long : length ids ≡ ids_room
  pub counts_long : length counts ≡ securities_most
  pub figures_long : length figures ≡ figures_room
  pub few : n ≤ securities_most
  pub are : take n ids ≡ firsts (ids_of lines)
  pub once : (i j : ℕ) → i < n → j < n → id_at ids i ≡ id_at ids j → i ≡ j
  pub others : (z : ℕ) → ((i : ℕ) → i < n → id_at ids i ≡ z → ⊥) → rows_in z lines ≡ []
  pub count : (i : ℕ) → i < n → get_or counts i 0 ≡ length (rows_in (id_at ids i) lines)
  pub few_rows : (i : ℕ) → i < n → get_or counts i 0 ≤ rows_most
  pub rows : (i : ℕ) → i < n
      → take (row_numbers * get_or counts i 0) (drop (all_numbers_most * i) figures) ≡ in_one (rows_in (id_at ids i) lines)

abbrev pub HeldBy : (lines : List (List ℤ)) → Securities → Type 0
HeldBy lines s = Held lines s.ids s.counts s.figures s.count

-- the tables hold some lines
pub record HeldSome (s : Securities) : Type 0 where
  pub lines : List (List ℤ)
  pub held : HeldBy lines s

-- A LINE MORE: there is room for it, and the tables hold it too; or there is none
unfoldable pub EntersAs : (lines : List (List ℤ)) → (zs : List ℤ) → Securities → Option ℕ → Type 0
EntersAs lines zs s (Some at) = (has_room lines zs ≡ true) × HeldBy (lines ++ zs ∷ []) s
EntersAs lines zs s None = has_room lines zs ≡ false

-- the same, whatever lines the tables hold
pub record Enters (s : Securities) (zs : List ℤ) (s' : Securities) (r : Option ℕ) : Type 0 where
  pub is : (lines : List (List ℤ)) → HeldBy lines s → EntersAs lines zs s' r

-- a good text, whose lines the tables hold
pub record HeldNight (t : List ℕ) (s : Securities) : Type 0 where
  pub lines : List (List ℤ)
  pub is : night_of t ≡ good lines
  pub held : HeldBy lines s

-- WHAT IS READ OF A TEXT is what it says
unfoldable pub Reads : (t : List ℕ) → Securities → Result (Unit {0}) ℕ → Type 0
Reads t s (Ok u) = HeldNight t s
Reads t s (Err n) = night_of t ≡ bad n
