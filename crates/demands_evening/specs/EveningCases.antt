-- Evenings of a few lines: which calls they say, and that a security has a history and a live record in one of them, so
-- that the theorem speaks of something.
use Rattle.std.specs.Prelude.{◌≡◌, refl, true, List, [], ◌∷◌, ◌++◌, map, ℕ, pos, negsuc}
use Prim.Native.String.{String}
use Rattle.paper.specs.declared.Verdict.TheVariants.{Done}
use Rattle.paper.specs.Ranges.{unsigned, given_of, is_live, no_term}
use Rattle.paper.specs.PinnedValues.{◌but◌, ewma_at, z_statics}
use Rattle.paper.specs.Terms.{repo_of, day_of, term_of as dayTerm}
use Rattle.paper_desk.specs.Desk.{evaluating, moving, reading, move, read, found}
use Rattle.paper_desk.specs.History.{since, longer, counts, noted, history}
use Rattle.paper_desk.specs.PinnedSequence.{answers}
use Rattle.text_bytes.specs.Bytes.{is_blank, is_not, run, grow, pieces, full, words, same, bytes}
use Rattle.text_bytes.specs.Numbers.{is_digit, size_from, size_of, up_to, above, below, number_of, slash_at}
use Rattle.text_protocol.specs.Names.{code, forms, kind_from, kind_of, count_fits, takes_in, takes, place_of, the}
use Rattle.text_protocol.specs.Line.{one_of, two_of, item_of, has_terms, place_in, pair_fits, with_pair, more, taking}
use Rattle.text_protocol.specs.Line.{on_with, finished, fill, is_heading, called, meaning}
use Rattle.text_protocol.specs.LineCases.{z_text}
use Rattle.text_protocol.specs.Kept.{found_in}
use Rattle.text_protocol.specs.Calls.{admission_of, band_of, term_of, asked_of, figures_behind, desk_call, call_of, deed_of}
use Rattle.text_evening.specs.Evening.{table_after, after, after_all}
use Rattle.demands.specs.Demands.{answered}
use Rattle.demands_evening.specs.Calls.{calls_in, calls_of}
use Rattle.demands_evening.specs.Holds.{own_table, table_behind, calls_behind, history_behind}

-- lines as texts. It opens every definition that a line is read with, so that a table opens this one alone
unfoldable pub lines_of : List String → List (List ℕ)
unfolding bytes is_blank is_not run grow pieces full words same is_digit size_from size_of up_to above below number_of slash_at
    code forms kind_from kind_of count_fits takes_in takes place_of the one_of two_of item_of has_terms place_in pair_fits with_pair
    more taking on_with finished fill is_heading called meaning found_in given_of admission_of band_of term_of asked_of figures_behind
    desk_call call_of deed_of unsigned repo_of day_of dayTerm
lines_of texts = map bytes texts

-- a line that is no call, a blank one, an interest line and a bond's among calls
unfoldable pub mixed : List (List ℕ)
unfolding lines_of
mixed =
    lines_of
    ("read 8"
    ∷ "hello"
    ∷ ""
    ∷ "move 7 0"
    ∷ "interest 0 0 1 1000 500 200 50 2 20 300 100 200 940 710 1 800 650 700 810 40 150 1 3 803 652 700 1150 40 150 1"
    ∷ "bond 0 9850 10000000 1234 700 300 800 2 1 0 1 2 0 1 7 0 1 100 300 5 2 5 8 50 500 700 900 4000 200 25 25 1 1 2 35"
    ∷ "read 7"
    ∷ [])

-- ONLY CALLS OF DOCUMENT 01 COUNT, in their order
pub calls_are : calls_behind mixed ≡ read 8 ∷ move 7 0 ∷ read 7 ∷ []
unfolding mixed calls_of calls_in after
calls_are = refl

-- an admission with isEWMA no, a day without rows, an upper move and a read
unfoldable pub short : List (List ℕ)
unfolding lines_of z_text
short =
    (bytes "admit 7 3 10 10 20000 600" ++ z_text "0")
    ∷ lines_of
    ("evaluate 7 4 0 0 30 -730 1460 0 0 0 0 0 0"
    ∷ "move 7 0"
    ∷ "read 7"
    ∷ [])

-- THE SECURITY HAS A HISTORY, its record is live, and a read of it is accepted
pub short_holds : (history_behind short 7
    ≡ since (record {
      id = 7;
      day = 3;
      p1 = 10;
      p2 = 10;
      s = 20000;
      tentative = 600;
      given = given_of (z_statics but (ewma_at, pos 0));
    })
    (reading
    ∷ moving 0
    ∷ evaluating (record {
      day = 4;
      b = 0;
      m = 0;
      terms = record { k = 30; low = negsuc 729; high = pos 1460 } ∷ no_term ∷ no_term ∷ [];
    }) []
    ∷ []))
    × (is_live (found (table_behind short) 7).standing ≡ true)
    × (answered (read 7) (table_behind short) ≡ Done)
unfolding short z_statics calls_of calls_in after after_all table_after own_table answers history noted counts longer
short_holds = (refl, refl, refl)
