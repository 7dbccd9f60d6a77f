-- docs/JOURNAL.md, "Pruning", by examples: what is left of small journals.
use Rattle.std.specs.Prelude.{◌≡◌, refl, List, [], ◌∷◌, map, ℕ}
use Prim.Native.String.{String}
use Rattle.text_bytes.specs.Bytes.{same, bytes}
use Rattle.text_protocol.specs.CallCases.{deed_by}
use Rattle.journal_protocol.specs.Lines.{closed_line}
use Rattle.prune_protocol.specs.Pruning.{ask_part, deed_part, part_of, is_evaluation, evaluated_in, writes_bid}
use Rattle.prune_protocol.specs.Pruning.{writes_ask, replaced_by, replaced_in, takes, outlives, taken_by, taken_in}
use Rattle.prune_protocol.specs.Pruning.{kept_by, kept_through, part_matters, matters, pruned}

abbrev lines_of : List String → List (List ℕ)
lines_of texts = map (λ (text : String). bytes text) texts

-- what is left of texts. It opens every definition that lines are pruned by, so that a table opens this one alone
unfoldable pub left_of : List String → List (List ℕ)
unfolding same closed_line deed_by ask_part deed_part part_of is_evaluation evaluated_in writes_bid writes_ask replaced_by replaced_in takes
    outlives taken_by taken_in kept_by kept_through part_matters matters pruned
left_of texts = pruned (lines_of texts)

-- ---- quotes, moves and openings

-- those of 7 BEFORE ITS LAST EVALUATION ARE LEFT OUT, over an evaluation between them too. Those behind it stay, and so
-- do those of 8, which is evaluated earlier. Evaluations stay, and of the two closes the last
pub watched_are : left_of
    ("evaluate 8 4 0 0 0 0 0 0 0 0 0 0 0" ∷ "quote 8 36000 0 1062960 0" ∷ "quote 7 36000 0 1062960 0" ∷ "open 7"
    ∷ "evaluate 7 4 0 0 0 0 0 0 0 0 0 0 0" ∷ "move 7 0" ∷ "move 8 1" ∷ "# closed"
    ∷ "evaluate 7 5 0 0 0 0 0 0 0 0 0 0 0" ∷ "quote 7 36001 0 1062960 0" ∷ "open 8" ∷ "# closed" ∷ [])
    ≡ lines_of
    ("evaluate 8 4 0 0 0 0 0 0 0 0 0 0 0" ∷ "quote 8 36000 0 1062960 0"
    ∷ "evaluate 7 4 0 0 0 0 0 0 0 0 0 0 0" ∷ "move 8 1" ∷ "evaluate 7 5 0 0 0 0 0 0 0 0 0 0 0"
    ∷ "quote 7 36001 0 1062960 0" ∷ "open 8" ∷ "# closed" ∷ [])
unfolding left_of
watched_are = refl

-- ---- outside prices

-- A PAIR THAT A NEXT PAIR OR A WITHDRAWAL REPLACES is left out; one of which a notice replaces one side stays
pub pairs_are : left_of
    ("outside 7 1 2" ∷ "outside 8 9 9" ∷ "outside 7 3 4" ∷ "withdraw 7" ∷ "outside 7 5 6" ∷ "notice 7 1 7" ∷ [])
    ≡ lines_of ("outside 8 9 9" ∷ "outside 7 5 6" ∷ "notice 7 1 7" ∷ [])
unfolding left_of
pairs_are = refl

-- each of these replaces both sides
pub both_sides_are : (left_of ("outside 7 1 2" ∷ "withdraw 7" ∷ []) ≡ lines_of ("withdraw 7" ∷ []))
    × (left_of ("notice 7 0 1" ∷ "notice 7 1 2" ∷ "outside 7 3 4" ∷ []) ≡ lines_of ("outside 7 3 4" ∷ []))
    × (left_of ("withdraw 7" ∷ "notice 7 1 2" ∷ []) ≡ lines_of ("withdraw 7" ∷ "notice 7 1 2" ∷ []))
unfolding left_of
both_sides_are = (refl, refl, refl)

-- and one of which two notices replace both sides is left out; so is a notice that a notice of its side replaces,
-- whatever stands between them
pub notices_are : left_of
    ("outside 7 5 6" ∷ "notice 7 1 7" ∷ "notice 7 0 8" ∷ "quote 7 36000 0 1062960 0"
    ∷ "interest 0 1 9 1000 500 200 50 2 20 300 100 200 940 710 1 800 650 700 810 40 150 1" ∷ "# evening"
    ∷ "notice 7 1 9" ∷ [])
    ≡ lines_of
    ("notice 7 0 8" ∷ "quote 7 36000 0 1062960 0"
    ∷ "interest 0 1 9 1000 500 200 50 2 20 300 100 200 940 710 1 800 650 700 810 40 150 1" ∷ "# evening"
    ∷ "notice 7 1 9" ∷ [])
unfolding left_of
notices_are = refl

-- WHAT THE NEXT EVALUATION TAKES STAYS, though it is replaced behind it; the evaluation of another security takes none
pub taken_prices_are : left_of
    ("outside 7 1 2" ∷ "evaluate 8 4 0 0 0 0 0 0 0 0 0 0 0" ∷ "outside 7 3 4" ∷ "evaluate 7 4 0 0 0 0 0 0 0 0 0 0 0"
    ∷ "outside 7 5 6" ∷ [])
    ≡ lines_of
    ("evaluate 8 4 0 0 0 0 0 0 0 0 0 0 0" ∷ "outside 7 3 4" ∷ "evaluate 7 4 0 0 0 0 0 0 0 0 0 0 0"
    ∷ "outside 7 5 6" ∷ [])
unfolding left_of
taken_prices_are = refl

-- ---- interest lines

-- THE LAST THREE STAY, whatever their pairs
pub last_three_are : left_of
    ("interest 0 1 1 1000 500 200 50 2 20 300 100 200 940 710 1 800 650 700 810 40 150 1"
    ∷ "interest 0 2 1 1000 500 200 50 2 20 300 100 200 940 710 1 800 650 700 810 40 150 1"
    ∷ "interest 0 2 1 1000 500 200 50 2 20 300 100 200 940 710 1 800 650 700 810 40 150 1"
    ∷ "interest 0 3 1 1000 500 200 50 2 20 300 100 200 940 710 1 800 650 700 810 40 150 1" ∷ [])
    ≡ lines_of
    ("interest 0 2 1 1000 500 200 50 2 20 300 100 200 940 710 1 800 650 700 810 40 150 1"
    ∷ "interest 0 2 1 1000 500 200 50 2 20 300 100 200 940 710 1 800 650 700 810 40 150 1"
    ∷ "interest 0 3 1 1000 500 200 50 2 20 300 100 200 940 710 1 800 650 700 810 40 150 1" ∷ [])
unfolding left_of
last_three_are = refl

-- WHAT AN EVALUATION TOOK STAYS: the newest answer of the pair that it names, among the three latest, whatever stands
-- between them. An older answer of 1/9 is left out, and those of 2/9 and 6/9, which nothing took. An evaluation names
-- 3/9, of which no answer is kept any more, and so takes none: it would be refused, and no journal has it
pub taken_answers_are : left_of
    ("interest 0 2 9 1000 500 200 50 2 20 300 100 200 940 710 1 800 650 700 810 40 150 1"
    ∷ "interest 0 1 9 1000 500 200 50 2 20 300 100 200 940 710 1 800 650 700 810 40 150 1"
    ∷ "interest 1 1 9 1000 500 200 50 2 20 300 100 200 940 710 1 800 650 700 810 40 150 1"
    ∷ "interest 0 3 9 1000 500 200 50 2 20 300 100 200 940 710 1 800 650 700 810 40 150 1"
    ∷ "# closed"
    ∷ "open 8"
    ∷ "outside 7 3 4"
    ∷ "evaluate 7 3 0 0 0 0 0 0 0 0 0 0 0"
    ∷ "evaluate 7 4 0 0 1 1/9 0 0 0 0 0 0"
    ∷ "interest 0 4 9 1000 500 200 50 2 20 300 100 200 940 710 1 800 650 700 810 40 150 1"
    ∷ "evaluate 7 5 0 0 0 0 0 1 4/9 0 0 0"
    ∷ "interest 0 5 9 1000 500 200 50 2 20 300 100 200 940 710 1 800 650 700 810 40 150 1"
    ∷ "interest 0 6 9 1000 500 200 50 2 20 300 100 200 940 710 1 800 650 700 810 40 150 1"
    ∷ "evaluate 7 6 0 0 0 0 0 0 0 0 1 5/9"
    ∷ "evaluate 7 7 0 0 1 3/9 0 0 0 0 0 0"
    ∷ "interest 0 7 9 1000 500 200 50 2 20 300 100 200 940 710 1 800 650 700 810 40 150 1"
    ∷ "interest 0 8 9 1000 500 200 50 2 20 300 100 200 940 710 1 800 650 700 810 40 150 1"
    ∷ "open 8"
    ∷ "interest 0 9 9 1000 500 200 50 2 20 300 100 200 940 710 1 800 650 700 810 40 150 1" ∷ [])
    ≡ lines_of
    ("interest 1 1 9 1000 500 200 50 2 20 300 100 200 940 710 1 800 650 700 810 40 150 1"
    ∷ "open 8"
    ∷ "outside 7 3 4"
    ∷ "evaluate 7 3 0 0 0 0 0 0 0 0 0 0 0"
    ∷ "evaluate 7 4 0 0 1 1/9 0 0 0 0 0 0"
    ∷ "interest 0 4 9 1000 500 200 50 2 20 300 100 200 940 710 1 800 650 700 810 40 150 1"
    ∷ "evaluate 7 5 0 0 0 0 0 1 4/9 0 0 0"
    ∷ "interest 0 5 9 1000 500 200 50 2 20 300 100 200 940 710 1 800 650 700 810 40 150 1"
    ∷ "evaluate 7 6 0 0 0 0 0 0 0 0 1 5/9"
    ∷ "evaluate 7 7 0 0 1 3/9 0 0 0 0 0 0"
    ∷ "interest 0 7 9 1000 500 200 50 2 20 300 100 200 940 710 1 800 650 700 810 40 150 1"
    ∷ "interest 0 8 9 1000 500 200 50 2 20 300 100 200 940 710 1 800 650 700 810 40 150 1"
    ∷ "open 8"
    ∷ "interest 0 9 9 1000 500 200 50 2 20 300 100 200 940 710 1 800 650 700 810 40 150 1" ∷ [])
unfolding left_of
taken_answers_are = refl
