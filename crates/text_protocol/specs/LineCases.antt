-- docs/EVENING.md, by examples: lines of examples/evening.txt, those of it that are no call, and both sides of each
-- rule, each beside its meaning. `meanings` computes them all.
use Rattle.std.specs.Prelude.{◌≡◌, refl, true, false, List, [], ◌∷◌, ◌++◌, map, ℕ, zero, suc, ℤ, pos, negsuc, replicate}
use Prim.Native.String.{String}
use Rattle.paper.specs.PinnedValues.{z_statics}
use Rattle.text_bytes.specs.Bytes.{is_blank, is_not, run, grow, pieces, full, words, same, bytes}
use Rattle.text_bytes.specs.Numbers.{is_digit, size_from, size_of, up_to, above, below, number_of, slash_at}
use Rattle.text_protocol.specs.Names.{admit_kind, evaluate_kind, quote_kind, move_kind, read_kind, open_kind}
use Rattle.text_protocol.specs.Names.{outside_kind, notice_kind, withdraw_kind, interest_kind, bond_kind, forms}
use Rattle.text_protocol.specs.Names.{kind_from, kind_of, count_fits, takes_in, takes, place_of, code}
use Rattle.text_protocol.specs.Line.{Said, Nothing, NoCall, Call, one_of, two_of, item_of, no_pairs, longest}
use Rattle.text_protocol.specs.Line.{has_terms, place_in, pair_fits, with_pair, more, taking, on_with, finished, fill}
use Rattle.text_protocol.specs.Line.{is_heading, called, meaning}

abbrev pub naturals : List ℕ → List ℤ
naturals ns = map pos ns

-- the statics of document 01's Z (`z_statics` of `paper`) as an admission's line ends with them, but for isEWMA
unfoldable pub z_text : (ewma : String) → List ℕ
z_text ewma =
    bytes " 10 100 300 1000 500 5 2 5 8 50 500 700 900 4000 200 25 2000 2000 1000 60 1 " ++ bytes ewma
    ++ bytes " 120 1 2 0"

-- a line, and what it means; a line that ends with Z's statics
pub data LineCase : Type 0 where
  line : String → Said → LineCase
  of_z : String → Said → LineCase

unfoldable pub heard : LineCase → Said
heard (line text said) = meaning (bytes text)
heard (of_z text said) = meaning (bytes text ++ z_text "1")

unfoldable pub meant : LineCase → Said
meant (line text said) = said
meant (of_z text said) = said

unfoldable pub line_cases : List LineCase
line_cases =
    -- lines of examples/evening.txt: a line of each call, numbers below zero, pairs of terms
    of_z "admit 15 3 10 10 20000 600"
    (Call admit_kind (naturals (15 ∷ 3 ∷ 10 ∷ 10 ∷ 20000 ∷ 600 ∷ []) ++ z_statics) no_pairs)
    ∷ line "evaluate 7 4 0 0 0 0 0 0 0 0 0 0 0 0 10000 0 1030000 0 0 5"
    (Call evaluate_kind (naturals (7 ∷ 4 ∷ 0 ∷ 0 ∷ 0 ∷ 0 ∷ 0 ∷ 0 ∷ 0 ∷ 0 ∷ 0 ∷ 0 ∷ 0 ∷ 0 ∷ 10000 ∷ 0 ∷ 1030000
    ∷ 0 ∷ 0 ∷ 5 ∷ [])) no_pairs)
    ∷ line "evaluate 7 5 0 0 2 -730 1460 2 -730 1460 2 -730 1460 0 10000 0 1000000 0 0 300 0 125000 0 81000 0 0 8"
    (Call evaluate_kind (pos 7 ∷ pos 5 ∷ pos 0 ∷ pos 0 ∷ pos 2 ∷ negsuc 729 ∷ pos 1460 ∷ pos 2 ∷ negsuc 729
    ∷ pos 1460 ∷ pos 2 ∷ negsuc 729 ∷ pos 1460 ∷ pos 0 ∷ pos 10000 ∷ pos 0 ∷ pos 1000000 ∷ pos 0 ∷ pos 0
    ∷ pos 300 ∷ pos 0 ∷ pos 125000 ∷ pos 0 ∷ pos 81000 ∷ pos 0 ∷ pos 0 ∷ pos 8 ∷ []) no_pairs)
    ∷ line "quote 7 36000 0 1062960 0" (Call quote_kind (naturals (7 ∷ 36000 ∷ 0 ∷ 1062960 ∷ 0 ∷ [])) no_pairs)
    ∷ line "move 7 0" (Call move_kind (naturals (7 ∷ 0 ∷ [])) no_pairs)
    ∷ line "read 9" (Call read_kind (naturals (9 ∷ [])) no_pairs)
    ∷ line "open 16" (Call open_kind (naturals (16 ∷ [])) no_pairs)
    ∷ line "outside 18 4636702106982547456 4636965989773213696"
    (Call outside_kind (naturals (18 ∷ 4636702106982547456 ∷ 4636965989773213696 ∷ [])) no_pairs)
    ∷ line "notice 18 1 9221120237041090560" (Call notice_kind (naturals (18 ∷ 1 ∷ 9221120237041090560 ∷ [])) no_pairs)
    ∷ line "withdraw 18" (Call withdraw_kind (naturals (18 ∷ [])) no_pairs)
    ∷ line "evaluate 7 7 0 0 1 0/1 2 0/2 0 0 0 0 10000 0 1010000 0 0 5"
    (Call evaluate_kind (naturals (7 ∷ 7 ∷ 0 ∷ 0 ∷ 1 ∷ 0 ∷ 1 ∷ 2 ∷ 0 ∷ 2 ∷ 0 ∷ 0 ∷ 0 ∷ 0 ∷ 10000 ∷ 0 ∷ 1010000
    ∷ 0 ∷ 0 ∷ 5 ∷ [])) (record { first = true; second = true; third = false }))
    ∷ line "evaluate 7 10 0 0 1 -1/3 0 0 0 0 0 0"
    (Call evaluate_kind (pos 7 ∷ pos 10 ∷ pos 0 ∷ pos 0 ∷ pos 1 ∷ negsuc 0 ∷ pos 3 ∷ pos 0 ∷ pos 0 ∷ pos 0
    ∷ pos 0 ∷ pos 0 ∷ pos 0 ∷ []) (record { first = true; second = false; third = false }))
    ∷ line "interest 0 0 1 1000 500 200 50 2 20 300 100 200 940 710"
    (Call interest_kind (naturals (0 ∷ 0 ∷ 1 ∷ 1000 ∷ 500 ∷ 200 ∷ 50 ∷ 2 ∷ 20 ∷ 300 ∷ 100 ∷ 200 ∷ 940 ∷ 710
    ∷ [])) no_pairs)
    -- those of it that are no call: no word of a call; half a pair, three of a pair, blanks in a pair; a pair where
    -- none may stand; a number too few
    ∷ line "hello" NoCall
    ∷ line "evaluate 7 10 0 0 1 0/ 2 0/1 0 0 0 0" NoCall
    ∷ line "evaluate 7 10 0 0 1 /1 2 0/1 0 0 0 0" NoCall
    ∷ line "evaluate 7 10 0 0 1 0/1/2 2 0/1 0 0 0" NoCall
    ∷ line "evaluate 7 10 0 0 1 0 /1 2 0/1 0 0 0" NoCall
    ∷ line "evaluate 7 10 0 0 1 -/1 2 0/1 0 0 0" NoCall
    ∷ line "evaluate 7 10 0 0 1/0 1 2 0/1 0 0 0" NoCall
    ∷ line "evaluate 7 10 0 0 1 0/1 2 0/1 0 0 0 0/10000 0 1010000 0 0 5" NoCall
    ∷ line "quote 7 36000 0 1000000/0" NoCall
    ∷ of_z "admit 15 3 10 10 20000/600" NoCall
    ∷ line
    "interest 0 0 1 1000 500 200/50 2 20 300 100 200 940 710 1 800 650 700 810 40 150 1 3 803 652 700 1150 40 150 1"
    NoCall
    ∷ line "interest 0 0 1 1000 500 200 50 2 20 300 100 200 940" NoCall
    -- a bond with a pair in its first term, a number below zero in its third and one cash flow; the pair at the place
    -- that it has in an evaluation; a number too few
    ∷ line
    "bond 0 9850 20000 100 700 30000 800 2 1 0/1 2 0 0 7 -730 0 100 300 5 2 5 8 50 500 700 900 4000 200 250 250 1 1 2 9"
    (Call bond_kind (pos 0 ∷ pos 9850 ∷ pos 20000 ∷ pos 100 ∷ pos 700 ∷ pos 30000 ∷ pos 800 ∷ pos 2 ∷ pos 1 ∷ pos 0
    ∷ pos 1 ∷ pos 2 ∷ pos 0 ∷ pos 0 ∷ pos 7 ∷ negsuc 729 ∷ pos 0 ∷ pos 100 ∷ pos 300 ∷ pos 5 ∷ pos 2 ∷ pos 5 ∷ pos 8
    ∷ pos 50 ∷ pos 500 ∷ pos 700 ∷ pos 900 ∷ pos 4000 ∷ pos 200 ∷ pos 250 ∷ pos 250 ∷ pos 1 ∷ pos 1 ∷ pos 2 ∷ pos 9
    ∷ []) (record { first = true; second = false; third = false }))
    ∷ line "bond 0 9850 1 0 0 0/1 0 1 0 0 2 0 0 7 0 0 100 300 5 2 5 8 50 500 700 900 4000 200 250 250 1 1" NoCall
    ∷ line "bond 0 9850 1 0 0 0 0 2 1 0 0 2 0 0 7 0 0 100 300 5 2 5 8 50 500 700 900 4000 200 250 250 1" NoCall
    -- a line says nothing where it is empty or blanks alone
    ∷ line "" Nothing
    ∷ line " \t \r" Nothing
    -- or where its first word begins with "#", whatever follows; behind another word that is no number
    ∷ line "# the evening of 16 November" Nothing
    ∷ line "#" Nothing
    ∷ line "  \t#read 7" Nothing
    ∷ line "## 7 0/1 #" Nothing
    ∷ line "read 7 # the first share" NoCall
    ∷ line "read #7" NoCall
    ∷ line "read# 7" NoCall
    ∷ line "7 # read" NoCall
    -- blanks, tabs and carriage returns part words, at both ends too
    ∷ line "  move\t7  0 \r" (Call move_kind (naturals (7 ∷ 0 ∷ [])) no_pairs)
    -- zeros may lead, and minus zero is zero
    ∷ line "read 007" (Call read_kind (naturals (7 ∷ [])) no_pairs)
    ∷ line "move 7 -0" (Call move_kind (naturals (7 ∷ 0 ∷ [])) no_pairs)
    -- the greatest and the least number of 64 bits, and one past each
    ∷ line "read 9223372036854775807" (Call read_kind (naturals (9223372036854775807 ∷ [])) no_pairs)
    ∷ line "read -9223372036854775808" (Call read_kind (negsuc 9223372036854775807 ∷ []) no_pairs)
    ∷ line "read 9223372036854775808" NoCall
    ∷ line "read -9223372036854775809" NoCall
    ∷ line "read 18446744073709551623" NoCall
    -- no number
    ∷ line "read -" NoCall
    ∷ line "read +7" NoCall
    ∷ line "read 7.0" NoCall
    ∷ line "read 7;" NoCall
    ∷ line "move 7 0;read 9" NoCall
    -- too few numbers and too many
    ∷ line "read" NoCall
    ∷ line "open" NoCall
    ∷ line "open 7 0" NoCall
    ∷ line "move 7" NoCall
    ∷ line "move 7 0 0" NoCall
    ∷ of_z "admit 15 3 10 10 20000" NoCall
    ∷ of_z "admit 15 3 10 10 20000 600 10" NoCall
    ∷ line "outside 18 1" NoCall
    ∷ line "outside 18 103.25 103.5" NoCall
    ∷ line "notice 18 0" NoCall
    ∷ line "withdraw 18 0" NoCall
    -- a word in other letters, and a word's part
    ∷ line "Read 7" NoCall
    ∷ line "reads 7" NoCall
    ∷ line "rea 7" NoCall
    ∷ []

-- " 1" so many times
unfoldable pub ones : ℕ → List ℕ
ones zero = []
ones (suc n) = bytes " 1" ++ ones n

-- EACH LINE MEANS WHAT STANDS BESIDE IT; of a line's numbers the first 126 are kept; a line has at most 65,535 bytes
pub meanings : (map heard line_cases ≡ map meant line_cases)
    × (meaning (bytes "evaluate" ++ ones 140) ≡ Call evaluate_kind (replicate 126 (pos 1)) no_pairs)
    × (longest ≡ 65535)
unfolding line_cases heard meant bytes z_text z_statics ones is_blank is_not run grow pieces full words same is_digit
    size_from size_of up_to above below number_of slash_at forms kind_from kind_of count_fits takes_in
    takes place_of code one_of two_of item_of
    has_terms place_in pair_fits with_pair more taking on_with finished fill is_heading called meaning
meanings = (refl, refl, refl)
