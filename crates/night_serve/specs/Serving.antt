-- What the program `night` is asked for, what it takes in, and what it prints.
use Rattle.std.specs.Prelude.{◌≡◌, true, false, List, map, Option, Some, None, ℕ, ◌+◌, ◌*◌, ◌≤◌, ℤ, ltb, length, take}
use Rattle.paper.specs.Lists.{pick}
use Rattle.paper.specs.Ranges.{unsigned}
use Rattle.text_out.specs.Places.{number_bytes, next_bytes, next_signed_bytes}
use Rattle.text_out.specs.Sizes.{word_bytes, rows_bytes}
use Rattle.text_protocol.specs.declared.Pairs.{Pairs}
use Rattle.text_protocol.specs.Line.{no_pairs, item_of, Reading, read, spoilt}
use Rattle.night_serve.specs.declared.Taken.{Taken}
use Rattle.text_protocol.specs.declared.Item.{Item}
use Rattle.night_protocol.specs.Night.{Night, good, bad, night_most, securities_most, firsts_behind, joined, night_of}
use Rattle.night_protocol.specs.Sheet.{day_numbers, asked_most, words_most, asking, asked_on, asked_by, evaluate_all}
use Rattle.night_protocol.specs.Sheet.{sheet_text}
use Rattle.exchange_serve.specs.Rows.{TakesIn}
use Rattle.text_evidence.specs.Evidence.{has_failed, unwritten, Hands}
use Rattle.night_serve.specs.declared.reading.Securities.{Securities}
use Rattle.night_serve.specs.Tables.{HeldBy}
use Rattle.night_serve.specs.declared.Served.{Served}

-- ---- how long a line may be

abbrev pub term_most : ℕ
term_most = 3 * next_signed_bytes

abbrev pub day_most : ℕ
day_most = 12 * next_signed_bytes

abbrev pub head_most : ℕ
head_most = word_bytes + next_bytes + day_most

abbrev pub line_most : ℕ
line_most = head_most + rows_bytes + 1

abbrev pub fault_most : ℕ
fault_most = number_bytes + next_bytes + 1

-- the room for what is printed
abbrev pub sheet_room : ℕ
sheet_room = securities_most * line_most + asked_most * (head_most + 1)

-- ---- the ids

-- an id more among the first n, unless it is there; those stay where they are
pub record JoinsOne (ids : List ℕ) (n id : ℕ) (ids' : List ℕ) (n' : ℕ) : Type 0 where
  pub long : length ids' ≡ length ids
  pub are : take n' ids' ≡ joined (take n ids) id
  pub kept : take n ids' ≡ take n ids
  pub low : n ≤ n'
  pub high : n' ≤ n + 1

-- ALL THAT ARE ASKED FOR, each that is not there
pub record Joins (ids : List ℕ) (n : ℕ) (asked : List ℤ) (ids' : List ℕ) (n' : ℕ) : Type 0 where
  pub long : length ids' ≡ length ids
  pub are : take n' ids' ≡ firsts_behind (take n ids) (map unsigned asked)
  pub kept : take n ids' ≡ take n ids
  pub low : n ≤ n'
  pub high : n' ≤ n + length asked

-- ---- the sheet

-- THE EVALUATIONS of the securities, whatever lines the tables hold
pub record PrintsText (zs : List ℤ) (p : Pairs) (s : Securities) (sheet : List ℕ) : Type 0 where
  pub most : length sheet ≤ line_most * s.count
  pub is : (lines : List (List ℤ)) → HeldBy lines s → sheet ≡ evaluate_all zs p lines (take s.count s.ids)

-- THE WHOLE SHEET: the securities of the lines, and behind them those that are asked for
pub record PrintsAll (zs : List ℤ) (p : Pairs) (s : Securities) (sheet : List ℕ) : Type 0 where
  pub is : (lines : List (List ℤ)) → HeldBy lines s → sheet ≡ sheet_text zs p (good lines)

-- what is answered to what a text says: the sheet, handed over whole; or that it is bad, and nothing is handed over
unfoldable pub Answers : (zs : List ℤ) → Pairs → (sheet : List ℕ) → Served → Night → Type 0
Answers zs p sheet r (good lines) =
    (r.fault ≡ None) × (sheet ≡ sheet_text zs p (good lines)) × Hands (length sheet) unwritten r.told
Answers zs p sheet r (bad n) = (r.fault ≡ Some n) × (r.told ≡ unwritten)

-- THE PROGRAM: the text that is taken in is answered; nothing is handed over where a read failed
pub record Serves (zs : List ℤ) (p : Pairs) (t t' sheet : List ℕ) (r : Served) : Type 0 where
  pub end : ℕ
  pub takes : TakesIn t t' (record { end = end; read = r.read })
  pub answers : has_failed r.read ≡ false → Answers zs p sheet r (night_of (take end t'))
  pub silent : has_failed r.read ≡ true → r.told ≡ unwritten

-- the same of buffers that nobody is lent: that of the text has a byte more than a text may have
pub record Answered (zs : List ℤ) (p : Pairs) (r : Served) : Type 0 where
  pub t : List ℕ
  pub t' : List ℕ
  pub sheet : List ℕ
  pub space : length t ≡ night_most + 1
  pub is : Serves zs p t t' sheet r

-- ---- the words

-- before the first word
abbrev pub start_taken : Taken
start_taken = record { ok = true; count = 0; pairs = no_pairs }

-- what some word is
pub record OfWord (r : Item) : Type 0 where
  pub word : List ℕ
  pub is : r ≡ item_of word

-- what is read
unfoldable pub reading_of : Taken → List ℤ → Reading
reading_of r xs = pick r.ok (read (take r.count xs) r.pairs) spoilt

-- A WORD MORE: the numbers that are read are the first of xs
pub record TakesWord (xs : List ℤ) (a : Taken) (w : Item) (xs' : List ℤ) (r : Taken) : Type 0 where
  pub are : reading_of r xs' ≡ asked_on (reading_of a xs) (λ zs p. asking zs p w)
  pub long : length xs' ≡ words_most
  pub most : r.count ≤ words_most

-- at the end of the words
abbrev pub asked_taken : Taken → Taken
asked_taken a = pick (ltb a.count day_numbers) (record { ok = false; count = a.count; pairs = a.pairs }) a

-- WHAT IS ASKED FOR is what some words ask for
pub record Asks (xs : List ℤ) (r : Taken) : Type 0 where
  pub words : List (List ℕ)
  pub is : reading_of r xs ≡ asked_by words
  pub long : length xs ≡ words_most
  pub most : r.count ≤ words_most
  pub day : r.ok ≡ true → day_numbers ≤ r.count
