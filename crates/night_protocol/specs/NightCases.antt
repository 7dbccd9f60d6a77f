-- `night` by examples: texts of several securities and what they say, words and what they ask for, and what is printed,
-- byte for byte. `good_is_reading` (proofs/Rows.antt) proves the rows of every text to be those that `exchange` reads.
use Rattle.std.specs.Prelude.{◌≡◌, refl, true, false, List, [], ◌∷◌, ◌++◌, map, ℕ, ℤ, pos, negsuc}
use Prim.Native.String.{String}
use Rattle.paper.specs.Lists.{some}
use Rattle.paper.specs.Ranges.{unsigned, row_at, valid_row}
use Rattle.text_bytes.specs.Bytes.{is_line_feed, grow, pieces, bytes, is_not, run}
use Rattle.text_bytes.specs.Numbers.{is_digit, size_from, size_of, up_to, above, below, number_of, slash_at, spelt, decimal}
use Rattle.text_bytes.specs.Numbers.{signed, next, spaced, answer_text}
use Rattle.text_bytes.specs.Spells.{negated}
use Rattle.text_protocol.specs.Names.{evaluate_names, bond_names, place_of, code}
use Rattle.text_protocol.specs.Line.{read, spoilt, no_pairs, one_of, two_of, item_of, has_terms, place_in, pair_fits}
use Rattle.text_protocol.specs.Line.{with_pair}
use Rattle.exchange_protocol.specs.Exchange.{columns, in_one}
use Rattle.exchange_protocol.specs.Scan.{starts, digits, past_zeros, decimals, behind_whole, number, positive, turned}
use Rattle.exchange_protocol.specs.Scan.{cell}
use Rattle.exchange_protocol.specs.Scan.{pass, line_end, field_end, cells, in_range, line}
use Rattle.exchange_protocol.specs.ExchangeCases.{ended, times}
use Rattle.night_protocol.specs.Night.{good, bad, night_most, is_among, joined, firsts_behind, firsts, id_of}
use Rattle.night_protocol.specs.Night.{ids_of, rows_in, has_room, or_bad, gather, night_of}
use Rattle.night_protocol.specs.Sheet.{may_stand, asking, asked_on, asked_from, asked_by, term_text, day_text, head_text}
use Rattle.night_protocol.specs.Sheet.{evaluate_text, evaluate_all, sheet_ids, sheet_text, fault_text}

-- ---- texts

unfoldable pub seven : List ℕ
seven = ended "7;0;1;0;1;;;0"

unfoldable pub nine : List ℕ
nine = ended "9;1;1;0;2;;;3"

abbrev pub seven_read : List ℤ
seven_read = pos 7 ∷ pos 0 ∷ pos 10000 ∷ pos 0 ∷ pos 10000 ∷ pos 0 ∷ pos 0 ∷ pos 0 ∷ []

abbrev pub nine_read : List ℤ
nine_read = pos 9 ∷ pos 1 ∷ pos 10000 ∷ pos 0 ∷ pos 20000 ∷ pos 0 ∷ pos 0 ∷ pos 3 ∷ []

-- A TEXT IS GOOD with no line; with the lines of several securities, among each other; with sixteen rows of each. It is
-- BAD at a line that is none, at one that is not ended, at the seventeenth row of either security, whichever is first
pub texts_are : (night_of [] ≡ good [])
    × (night_of (nine ++ seven ++ nine) ≡ good (nine_read ∷ seven_read ∷ nine_read ∷ []))
    × (night_of (times 16 seven ++ times 16 nine) ≡ good (times 16 (seven_read ∷ []) ++ times 16 (nine_read ∷ [])))
    × (night_of (seven ++ bytes "x\n" ++ nine) ≡ bad 2)
    × (night_of (seven ++ nine ++ bytes "7;0;1;0;1;;;0") ≡ bad 3)
    × (night_of (times 16 seven ++ times 16 nine ++ seven) ≡ bad 33)
    × (night_of (times 17 nine ++ times 17 seven) ≡ bad 17)
    × (night_most ≡ 1048576)
unfolding seven nine ended times bytes grow pieces is_line_feed is_digit negated unsigned valid_row row_at columns starts
    digits past_zeros decimals behind_whole number positive turned cell pass line_end field_end cells in_range line is_among
    some joined firsts_behind firsts id_of ids_of rows_in has_room or_bad gather night_of
texts_are = (refl, refl, refl, refl, refl, refl, refl, refl)

-- EACH ID ONCE, where it first occurs; the rows of an id in the order of its lines
pub ids_are : (firsts (9 ∷ 7 ∷ 9 ∷ 9 ∷ 8 ∷ 7 ∷ []) ≡ 9 ∷ 7 ∷ 8 ∷ [])
    × (rows_in 9 (nine_read ∷ seven_read ∷ (pos 9 ∷ pos 5 ∷ []) ∷ []) ≡
    (pos 1 ∷ pos 10000 ∷ pos 0 ∷ pos 20000 ∷ pos 0 ∷ pos 0 ∷ pos 3 ∷ []) ∷ (pos 5 ∷ []) ∷ [])
unfolding is_among some joined firsts_behind firsts id_of unsigned rows_in
ids_are = (refl, refl)

-- ---- words

unfoldable pub words_of : List String → List (List ℕ)
words_of ws = map bytes ws

abbrev pub day_words : List String
day_words = "4" ∷ "0" ∷ "0" ∷ "1" ∷ "-73" ∷ "14" ∷ "1" ∷ "0/1" ∷ "2" ∷ "0" ∷ "7" ∷ []

abbrev pub day_read : List ℤ
day_read = pos 4 ∷ pos 0 ∷ pos 0 ∷ pos 1 ∷ negsuc 72 ∷ pos 14 ∷ pos 1 ∷ pos 0 ∷ pos 1 ∷ pos 2 ∷ pos 0 ∷ pos 7 ∷ []

-- WORDS ASK FOR a day with its pairs and for ids behind it; no words do with a number too few, a pair where none may
-- stand, a word that is no number, and an id below zero
pub words_are : (asked_by (words_of day_words) ≡ read day_read (record { first = false; second = true; third = false }))
    × (asked_by (words_of (day_words ++ "11" ∷ "007" ∷ []))
    ≡ read (day_read ++ pos 11 ∷ pos 7 ∷ []) (record { first = false; second = true; third = false }))
    × (asked_by (words_of ("4" ∷ "0" ∷ "0" ∷ "1" ∷ "0/1" ∷ "1" ∷ "0/1" ∷ "2" ∷ "0" ∷ [])) ≡ spoilt)
    × (asked_by (words_of ("4" ∷ "0" ∷ "0/1" ∷ "1" ∷ "0" ∷ "1" ∷ "0/1" ∷ "2" ∷ "0" ∷ "7" ∷ [])) ≡ spoilt)
    × (asked_by (words_of (day_words ++ "x" ∷ [])) ≡ spoilt)
    × (asked_by (words_of (day_words ++ "-7" ∷ [])) ≡ spoilt)
    × (asked_by [] ≡ spoilt)
unfolding words_of bytes is_not run is_digit size_from size_of up_to above below number_of slash_at evaluate_names bond_names
    place_of code one_of two_of item_of has_terms place_in pair_fits with_pair may_stand asking asked_on asked_from asked_by
words_are = (refl, refl, refl, refl, refl, refl, refl)

-- WHERE A NUMBER MAY STAND: any number as one of the day's twelve; behind them an id, which is not below zero, up to
-- 512 of them
pub places_are : (may_stand 11 (negsuc 0) ≡ true)
    × (may_stand 12 (negsuc 0) ≡ false)
    × (may_stand 12 (pos 0) ≡ true)
    × (may_stand 523 (pos 7) ≡ true)
    × (may_stand 524 (pos 7) ≡ false)
unfolding may_stand
places_are = (refl, refl, refl, refl, refl)

-- ---- what is printed

-- AN EVALUATION FOR EACH SECURITY of the text, and one without rows for each other id that is asked for, each once;
-- nothing of a bad text
pub sheets_are : (sheet_text (day_read ++ pos 11 ∷ pos 7 ∷ pos 11 ∷ []) (record {
  first = false;
  second = true;
  third = false;
}) (good ((pos 9 ∷ pos 5 ∷ negsuc 1 ∷ []) ∷ (pos 7 ∷ pos 3 ∷ []) ∷ (pos 9 ∷ pos 6 ∷ []) ∷ []))
    ≡ bytes "evaluate 9 4 0 0 1 -73 14 1 0/1 2 0 7 5 -2 6\n" ++ bytes "evaluate 7 4 0 0 1 -73 14 1 0/1 2 0 7 3\n"
    ++ bytes "evaluate 11 4 0 0 1 -73 14 1 0/1 2 0 7\n")
    × (sheet_text (day_read ++ pos 11 ∷ []) no_pairs (bad 3) ≡ [])
    × (fault_text (bad 3) ≡ bytes "15 3\n")
unfolding bytes is_among some joined firsts_behind firsts id_of ids_of unsigned rows_in in_one spelt decimal signed next
    spaced
    answer_text term_text day_text head_text evaluate_text evaluate_all sheet_ids sheet_text fault_text
sheets_are = (refl, refl, refl)
