-- Document 01, "Errors that look reasonable", and the empty versions: figures on which each of them would differ. They
-- are small, so that no root is searched for long; the document's own cases stand in the crate `demands`.
-- It may use every definition of document 01, and the values of PinnedValues.
use Rattle.std.specs.Prelude.{◌≡◌, refl, List, [], ◌∷◌, ◌++◌, ℕ, ℤ, pos, get_or}
use Rattle.paper.specs.declared.Side.TheVariants.{Upper}
use Rattle.paper.specs.declared.Record.{Record}
use Rattle.paper.specs.Ranges.{given_of, statics_of, no_external}
use Rattle.paper_desk.specs.Evaluation.{evaluation_of, day_rows}
use Rattle.paper_desk.specs.Limits.{band_limit}
use Rattle.paper_desk.specs.Desk.{blank, Call, admit, quote, place, run}
use Rattle.paper.specs.PinnedValues.{◌but◌, lot_at, s_at, rates_at, row_bid_at, row_ask_at, volume_at, closed_at}
use Rattle.paper.specs.PinnedValues.{admission_from, record_from, quote_from, z_numbers, z_record}
use Rattle.paper_desk.specs.PinnedSequence.{numbers, slots, day_at}

-- Z with s 0 and S_1 500, admitted only
calm : List ℤ
unfolding z_record
calm = z_record but (s_at, pos 0) but (rates_at, pos 500)

-- two days of it, at 1,000,020 and back at 1,000,000, and then other calls
left : List Call → Record
unfolding numbers calm record_from day_at
left calls = get_or (run (day_at 7 4 1000020 ∷ day_at 7 5 1000000 ∷ calls) (record_from calm ∷ [])) 0 blank

-- the number that an admission gets from a fresh table of so many slots
admit_answer : (count : ℕ) → List ℕ
unfolding numbers slots admission_from z_numbers
admit_answer count = numbers (admit (admission_from z_numbers) ∷ []) (slots count)

-- case 11's rows, one with the close and the bid, and one with the ask
rows11 : (close : ℕ) → List ℤ
unfolding closed_at
rows11 close =
    (closed_at close but (row_bid_at, pos 1010000)) ++ (closed_at 0 but (row_ask_at, pos 1000000) but (volume_at, pos 0))

pub straddles : List (List ℕ)
unfolding left admit_answer rows11 statics_of given_of quote_from
straddles =
    -- a band limit is rounded once: 1,052,493.68 down; with each factor rounded it would be 1,052,494
    (band_limit (statics_of (given_of (z_numbers but (lot_at, pos 11)))) 1000013 800 30 (pos 1460) 0 Upper ∷ [])
    -- the second day is evaluated as the first was: the two evaluations, s, tentative and age
    ∷ ((left []).p1.units ∷ (left []).p2.units ∷ (left []).s ∷ (left []).tentative.bp ∷ (left []).tentative.age ∷ [])
    -- a quote leaves the volatility
    ∷ ((left (quote 7 (quote_from (pos 1 ∷ pos 0 ∷ pos 990000 ∷ [])) ∷ [])).s ∷ [])
    -- "A table of no slots, or over 512, is refused 4 by admit"
    ∷ (admit_answer 0 ++ admit_answer 1 ++ admit_answer 512 ++ admit_answer 513)
    -- "Where an id stands in several slots the first alone counts"
    ∷ (place (blank ∷ record_from z_record ∷ record_from z_record ∷ []) 7 ∷ [])
    -- "the median of BID, close, ASK", where BID is above ASK: the close between them, and below both
    ∷ (evaluation_of 10 1000000 no_external (day_rows (rows11 1005000))
    ∷ evaluation_of 10 1000000 no_external (day_rows (rows11 990000))
    ∷ [])
    ∷ []

pub straddled : straddles
    ≡ (1052493 ∷ [])
    -- r is 20 on either day: 0.1·20² is 40, which 7² covers; 0.9·7² + 0.1·20² is 84.1, which 10² covers
    ∷ (1000000 ∷ 1000020 ∷ 10 ∷ 600 ∷ 2 ∷ [])
    ∷ (10 ∷ [])
    ∷ (4 ∷ 0 ∷ 0 ∷ 4 ∷ [])
    ∷ (1 ∷ [])
    ∷ (1005000 ∷ 1000000 ∷ [])
    ∷ []
unfolding straddles
straddled = refl
