-- docs/EXCHANGE.md, "What `night` prints": what the words on the command line ask for, and the lines of an evening that
-- are printed, an evaluation for each security.
use Rattle.std.specs.Prelude.{Bool, ◌&&◌, ◌||◌, not, List, [], ◌∷◌, ◌++◌, map, ℕ, suc, ◌+◌, leb, ltb, ℤ, pos, length, drop, get_or}
use Rattle.std.specs.Int.Signed.{lt_z}
use Rattle.paper.specs.Lists.{pick}
use Rattle.paper.specs.Numbers.{slots_most}
use Rattle.paper.specs.Ranges.{unsigned}
use Rattle.text_bytes.specs.Bytes.{line_feed, space, slash}
use Rattle.text_bytes.specs.Numbers.{signed, next, spaced, answer_text}
use Rattle.text_protocol.specs.declared.Item.{Item}
use Rattle.text_protocol.specs.declared.Item.TheVariants as item
use Rattle.text_protocol.specs.declared.Pairs.{Pairs}
use Rattle.text_protocol.specs.Names.{evaluate_kind, evaluate_word}
use Rattle.text_protocol.specs.Line.{Reading, read, spoilt, no_pairs, item_of, pair_fits, with_pair}
use Rattle.exchange_protocol.specs.Exchange.{in_one}
use Rattle.night_protocol.specs.Night.{Night, good, bad, firsts, ids_of, rows_in}

-- ---- the words

-- the numbers of an evaluation behind its id and before its rows
abbrev pub day_numbers : ℕ
day_numbers = 12

-- so many ids may be asked for: a table has so many slots
abbrev pub asked_most : ℕ
asked_most = slots_most

abbrev pub words_most : ℕ
words_most = day_numbers + asked_most

-- whether a number may be the n-th: one of the day; or an id, which is not below zero
unfoldable pub may_stand : (n : ℕ) → ℤ → Bool
may_stand n z = ltb n day_numbers || (ltb n words_most && not (lt_z z (pos 0)))

-- a word more. A pair of terms stands where an evaluation may have one, in which the id stands before these numbers
unfoldable pub asking : List ℤ → Pairs → Item → Reading
asking zs p (item.One z) = pick (may_stand (length zs) z) (read (zs ++ z ∷ []) p) spoilt
asking zs p (item.Two m n) =
    pick (pair_fits evaluate_kind (suc (length zs)))
    (read (zs ++ m ∷ n ∷ []) (with_pair evaluate_kind (suc (length zs)) p))
    spoilt
asking zs p item.Neither = spoilt

unfoldable pub asked_on : Reading → (List ℤ → Pairs → Reading) → Reading
asked_on (read zs p) f = f zs p
asked_on spoilt f = spoilt

-- the words from one on, behind the numbers that are read
unfoldable pub asked_from : List ℤ → Pairs → List (List ℕ) → Reading
asked_from zs p [] = pick (leb day_numbers (length zs)) (read zs p) spoilt
asked_from zs p (w ∷ ws) = asked_on (asking zs p (item_of w)) (λ zs p. asked_from zs p ws)

-- WHAT THE WORDS ASK FOR: the numbers of the day, and behind them the ids; or nothing, and the usage is the answer
unfoldable pub asked_by : List (List ℕ) → Reading
asked_by ws = asked_from [] no_pairs ws

-- ---- the lines

-- K RRCL RRCH of the term whose K is the n-th number; a slash stands between the two of a pair
unfoldable pub term_text : (pair : Bool) → List ℤ → (n : ℕ) → List ℕ
term_text pair zs n =
    next (get_or zs n (pos 0)) ++ next (get_or zs (n + 1) (pos 0))
    ++ (pick pair slash space ∷ signed (get_or zs (n + 2) (pos 0)))

-- DAY B M, and the three terms
unfoldable pub day_text : List ℤ → Pairs → List ℕ
day_text zs p =
    next (get_or zs 0 (pos 0)) ++ next (get_or zs 1 (pos 0)) ++ next (get_or zs 2 (pos 0))
    ++ term_text p.first zs 3 ++ term_text p.second zs 6 ++ term_text p.third zs 9

-- an evaluation up to its rows
unfoldable pub head_text : List ℤ → Pairs → (id : ℕ) → List ℕ
head_text zs p id = evaluate_word ++ next (pos id) ++ day_text zs p

-- AN EVALUATION of the security, with the numbers of its rows
unfoldable pub evaluate_text : List ℤ → Pairs → (id : ℕ) → (figures : List ℤ) → List ℕ
evaluate_text zs p id figures = head_text zs p id ++ spaced figures ++ (line_feed ∷ [])

-- the evaluations of ids, each with the rows that the lines have of it
unfoldable pub evaluate_all : List ℤ → Pairs → (lines : List (List ℤ)) → (ids : List ℕ) → List ℕ
evaluate_all zs p lines [] = []
evaluate_all zs p lines (id ∷ ids) = evaluate_text zs p id (in_one (rows_in id lines)) ++ evaluate_all zs p lines ids

-- the ids of the lines, and behind them those that are asked for
unfoldable pub sheet_ids : List ℤ → (lines : List (List ℤ)) → List ℕ
sheet_ids zs lines = firsts (ids_of lines ++ map unsigned (drop day_numbers zs))

-- WHAT IS PRINTED: an evaluation for each security of the text, and for each that is asked for; nothing of a bad text
unfoldable pub sheet_text : List ℤ → Pairs → Night → List ℕ
sheet_text zs p (good lines) = evaluate_all zs p lines (sheet_ids zs lines)
sheet_text zs p (bad n) = []

-- what is said of a bad text: `15 LINE`, as `exchange` says it
unfoldable pub fault_text : Night → List ℕ
fault_text (good lines) = []
fault_text (bad n) = answer_text 15 (pos n ∷ [])
