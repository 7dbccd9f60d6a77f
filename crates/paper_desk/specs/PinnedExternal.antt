-- Document 02, W-211, "External prices": the pair that each receipt leaves, the floats that are refused with 20, and
-- BID and ASK with the outside prices and without, on both sides of the book's. The general sentences are laws
-- (proofs/PinnedLaws), and the roundings of floats stand in `paper`. It may use every definition of document 01,
-- and the values of PinnedValues and PinnedSession.
use Rattle.std.specs.Prelude.{◌≡◌, refl, List, [], ◌∷◌, ◌++◌, map, ℕ, Float, ℤ, pos}
use Rattle.std.specs.Float.{binary64}
use Rattle.std.specs.Float.Ieee.{of_bits}
use Rattle.paper.specs.declared.Notice.TheVariants.{Bid, Ask, Withdrawal}
use Rattle.paper.specs.declared.Record.{Record}
use Rattle.paper.specs.Ranges.{given_of, statics_of}
use Rattle.paper_desk.specs.Evaluation.{used_pair, evaluation_of, day_rows}
use Rattle.paper_desk.specs.External.{together, notice}
use Rattle.paper_desk.specs.Desk.{Call, evaluate, move, read, open_evening, receive}
use Rattle.paper.specs.PinnedValues.{◌but◌, monitoring_at, useexternal_at, age_at, session_at, record_from}
use Rattle.paper.specs.PinnedValues.{day_from, z_numbers, z_record}
use Rattle.paper_desk.specs.PinnedSequence.{numbers}
use Rattle.paper_desk.specs.PinnedEvaluation.{row}
use Rattle.paper_desk.specs.PinnedSession.{live_z, quote_at, left}

-- ---- floats, by their bits

float : (bits : ℕ) → Float
unfolding of_bits
float bits = of_bits binary64 bits

-- 100 and 103.25 roubles
hundred : Float
unfolding float
hundred = float 0x4059_0000_0000_0000

quarter_more : Float
unfolding float
quarter_more = float 0x4059_d000_0000_0000

-- "a float that isn't finite, isn't above zero, or rounds to 0 or above 10^10 units": an infinity, what is no number,
-- zero, -103.25, the float before the one nearest to 0.00005, and one above 10^6 roubles and half a unit
bad_floats : List Float
unfolding float
bad_floats =
    map float
    (0x7ff0_0000_0000_0000
    ∷ 0x7ff8_0000_0000_0000
    ∷ 0x0000_0000_0000_0000
    ∷ 0xc059_d000_0000_0000
    ∷ 0x3f0a_36e2_eb1c_432c
    ∷ 0x412e_8480_0006_8db9
    ∷ [])

-- ---- the calls

sent : (bid ask : Float) → Call
sent bid ask = receive 7 (together (record { bid = bid; ask = ask }))

bid_notice : Float → Call
bid_notice bid = receive 7 (notice (Bid bid))

ask_notice : Float → Call
ask_notice ask = receive 7 (notice (Ask ask))

withdrawal : Call
withdrawal = receive 7 (notice Withdrawal)

-- ---- "Both sent together replace the kept pair, a notice changes one side, a withdrawal clears both"

-- case 1's security with an outside bid and ask in units
keeping : (bid ask : ℕ) → List ℤ
unfolding live_z
keeping bid ask = live_z ++ (pos bid ∷ pos ask ∷ [])

-- the numbers that calls answer, and then the pair that they leave
told : (row : List ℤ) → List Call → List ℕ
unfolding numbers record_from left
told row calls =
    let r : Record = left calls row in
    numbers calls (record_from row ∷ []) ++ (r.external.bid ∷ r.external.ask ∷ [])

pub receipts : List (List ℕ)
unfolding told keeping sent bid_notice ask_notice withdrawal hundred quarter_more z_record
receipts =
    -- both together, where there is no pair and where there is one; crossed ones are taken as they are
    told (keeping 0 0) (sent hundred quarter_more ∷ [])
    ∷ told (keeping 990000 1010000) (sent hundred quarter_more ∷ [])
    ∷ told (keeping 0 0) (sent quarter_more hundred ∷ [])
    -- a notice of each side, where there is a pair and where there is none
    ∷ told (keeping 990000 1010000) (bid_notice quarter_more ∷ [])
    ∷ told (keeping 990000 1010000) (ask_notice quarter_more ∷ [])
    ∷ told (keeping 0 0) (bid_notice quarter_more ∷ [])
    ∷ told (keeping 0 0) (ask_notice quarter_more ∷ [])
    -- a withdrawal, of a pair, of one side and of none
    ∷ told (keeping 990000 1010000) (withdrawal ∷ [])
    ∷ told (keeping 990000 0) (withdrawal ∷ [])
    ∷ told (keeping 0 0) (withdrawal ∷ [])
    -- one after the other
    ∷ told (keeping 0 0) (sent hundred hundred ∷ ask_notice quarter_more ∷ withdrawal ∷ bid_notice hundred ∷ [])
    -- admitted only, with Monitoring no, and in the evening
    ∷ told z_record (sent hundred quarter_more ∷ [])
    ∷ told (keeping 0 0 but (monitoring_at, pos 0)) (ask_notice quarter_more ∷ [])
    ∷ told (keeping 0 0 but (session_at, pos 1)) (bid_notice quarter_more ∷ [])
    ∷ []

pub receipts_are : receipts
    ≡ (0 ∷ 1000000 ∷ 1032500 ∷ [])
    ∷ (0 ∷ 1000000 ∷ 1032500 ∷ [])
    ∷ (0 ∷ 1032500 ∷ 1000000 ∷ [])
    ∷ (0 ∷ 1032500 ∷ 1010000 ∷ [])
    ∷ (0 ∷ 990000 ∷ 1032500 ∷ [])
    ∷ (0 ∷ 1032500 ∷ 0 ∷ [])
    ∷ (0 ∷ 0 ∷ 1032500 ∷ [])
    ∷ (0 ∷ 0 ∷ 0 ∷ [])
    ∷ (0 ∷ 0 ∷ 0 ∷ [])
    ∷ (0 ∷ 0 ∷ 0 ∷ [])
    ∷ (0 ∷ 0 ∷ 0 ∷ 0 ∷ 1000000 ∷ 0 ∷ [])
    ∷ (0 ∷ 1000000 ∷ 1032500 ∷ [])
    ∷ (0 ∷ 0 ∷ 1032500 ∷ [])
    ∷ (0 ∷ 1032500 ∷ 0 ∷ [])
    ∷ []
unfolding receipts
receipts_are = refl

-- ---- "Refusals: 20 .. on receipt, after 1, and the pair stays"

pub bad_receipts : List (List ℕ)
unfolding told keeping sent bid_notice ask_notice hundred bad_floats
bad_receipts =
    -- each bad float as a bid, as an ask, and beside a good one
    told (keeping 990000 1010000) (map bid_notice bad_floats)
    ∷ told (keeping 990000 1010000) (map ask_notice bad_floats)
    ∷ told (keeping 990000 1010000) (map (λ (x : Float). sent x hundred) bad_floats)
    ∷ told (keeping 990000 1010000) (map (λ (x : Float). sent hundred x) bad_floats)
    -- 1 comes first: a damaged record
    ∷ told (keeping 990000 1010000 but (age_at, pos 251)) (map bid_notice bad_floats)
    ∷ []

pub bad_receipts_are : bad_receipts
    ≡ (20 ∷ 20 ∷ 20 ∷ 20 ∷ 20 ∷ 20 ∷ 990000 ∷ 1010000 ∷ [])
    ∷ (20 ∷ 20 ∷ 20 ∷ 20 ∷ 20 ∷ 20 ∷ 990000 ∷ 1010000 ∷ [])
    ∷ (20 ∷ 20 ∷ 20 ∷ 20 ∷ 20 ∷ 20 ∷ 990000 ∷ 1010000 ∷ [])
    ∷ (20 ∷ 20 ∷ 20 ∷ 20 ∷ 20 ∷ 20 ∷ 990000 ∷ 1010000 ∷ [])
    ∷ (1 ∷ 1 ∷ 1 ∷ 1 ∷ 1 ∷ 1 ∷ 990000 ∷ 1010000 ∷ [])
    ∷ []
unfolding bad_receipts
bad_receipts_are = refl

-- ---- the other calls leave the pair

pub other_calls : List (List ℕ)
unfolding told keeping quote_at day_from
other_calls =
    map (λ (c : Call). told (keeping 990000 1010000) (c ∷ []))
    (evaluate 7 (day_from (pos 4 ∷ [])) []
    ∷ quote_at 100 0 1062970 0
    ∷ move 7 0
    ∷ open_evening 7
    ∷ read 7
    ∷ [])

pub other_calls_are : other_calls
    ≡ (0 ∷ 990000 ∷ 1010000 ∷ [])
    ∷ (0 ∷ 990000 ∷ 1010000 ∷ [])
    ∷ (0 ∷ 990000 ∷ 1010000 ∷ [])
    ∷ (0 ∷ 990000 ∷ 1010000 ∷ [])
    ∷ (0 ∷ 990000 ∷ 1010000 ∷ [])
    ∷ []
unfolding other_calls
other_calls_are = refl

-- ---- "With UseEXTERNAL yes, BID is the greater of the book's and the outside one, ASK the lesser (6.1); a missing
-- side leaves the book's."

-- the evaluation to a unit after 700, of rows and of a kept pair, with UseEXTERNAL yes and with no
prices : (bid ask : ℕ) → (rows : List ℤ) → List ℕ
unfolding numbers statics_of given_of z_numbers
prices bid ask rows =
    map
    (λ (outside : ℕ). evaluation_of 1 700
    (used_pair (statics_of (given_of (z_numbers but (useexternal_at, pos outside)))) (record { bid = bid; ask = ask }))
    (day_rows rows))
    (1 ∷ 0 ∷ [])

pub evaluations : List (List ℕ)
unfolding prices row
evaluations =
    -- the outside bid above the book's, equal to it and below it; the book's missing, the outside one missing
    prices 12 0 (row 10 11 0 1)
    ∷ prices 11 0 (row 10 11 0 1)
    ∷ prices 9 0 (row 10 11 0 1)
    ∷ prices 12 0 (row 10 0 0 1)
    ∷ prices 0 0 (row 10 11 0 1)
    -- the outside ask likewise
    ∷ prices 0 8 (row 10 0 9 1)
    ∷ prices 0 9 (row 10 0 9 1)
    ∷ prices 0 12 (row 10 0 9 1)
    ∷ prices 0 8 (row 10 0 0 1)
    ∷ prices 0 0 (row 10 0 9 1)
    -- no row: the previous evaluation, 700, between the outside prices
    ∷ prices 701 0 []
    ∷ prices 0 699 []
    ∷ prices 699 701 []
    -- the greatest row bid and the outside one; the outside bid with the book's ask, and the reverse
    ∷ prices 12 0 (row 10 13 0 1 ++ row 10 11 0 1)
    ∷ prices 12 0 (row 10 0 14 1)
    ∷ prices 0 8 (row 10 7 0 1)
    -- "the median of BID, close, ASK, also when BID > ASK": a crossed outside pair with the close below, between and
    -- above; an outside bid above the book's ask
    ∷ prices 14 12 (row 10 0 0 1)
    ∷ prices 14 12 (row 13 0 0 1)
    ∷ prices 14 12 (row 20 0 0 1)
    ∷ prices 14 0 (row 10 8 12 1)
    ∷ []

pub evaluations_are : evaluations
    ≡ (12 ∷ 11 ∷ [])
    ∷ (11 ∷ 11 ∷ [])
    ∷ (11 ∷ 11 ∷ [])
    ∷ (12 ∷ 10 ∷ [])
    ∷ (11 ∷ 11 ∷ [])
    ∷ (8 ∷ 9 ∷ [])
    ∷ (9 ∷ 9 ∷ [])
    ∷ (9 ∷ 9 ∷ [])
    ∷ (8 ∷ 10 ∷ [])
    ∷ (9 ∷ 9 ∷ [])
    ∷ (701 ∷ 700 ∷ [])
    ∷ (699 ∷ 700 ∷ [])
    ∷ (700 ∷ 700 ∷ [])
    ∷ (13 ∷ 13 ∷ [])
    ∷ (12 ∷ 10 ∷ [])
    ∷ (8 ∷ 10 ∷ [])
    ∷ (12 ∷ 10 ∷ [])
    ∷ (13 ∷ 13 ∷ [])
    ∷ (14 ∷ 20 ∷ [])
    ∷ (12 ∷ 10 ∷ [])
    ∷ []
unfolding evaluations
evaluations_are = refl

-- ---- an evaluation of day 4 after a receipt

-- with UseEXTERNAL yes or no: the numbers that calls and then an evaluation of rows answer, and the evaluation left
evaluated_with : (outside : ℕ) → List Call → (rows : List ℤ) → List ℕ
unfolding numbers record_from left keeping day_from
evaluated_with outside calls rows =
    let both : List Call = calls ++ (evaluate 7 (day_from (pos 4 ∷ [])) rows ∷ []) in
    let start : List ℤ = keeping 0 0 but (useexternal_at, pos outside) in
    numbers both (record_from start ∷ []) ++ ((left both start).p1.units ∷ [])

pub evaluated_outside : List (List ℕ)
unfolding evaluated_with sent bid_notice ask_notice withdrawal float hundred quarter_more row
evaluated_outside =
    -- "These prices are roubles": after 1,030,000 a bid of 103.25, with UseEXTERNAL yes and no, and withdrawn again
    evaluated_with 1 (bid_notice quarter_more ∷ []) []
    ∷ evaluated_with 0 (bid_notice quarter_more ∷ []) []
    ∷ evaluated_with 1 (bid_notice quarter_more ∷ withdrawal ∷ []) []
    -- 16 judges rows alone: a crossed outside pair, an outside bid above a row's ask, and a crossed row
    ∷ evaluated_with 1 (sent quarter_more hundred ∷ []) (row 1040000 0 0 1)
    ∷ evaluated_with 1 (bid_notice quarter_more ∷ []) (row 1040000 0 1000000 1)
    ∷ evaluated_with 1 (bid_notice hundred ∷ []) (row 0 1000001 1000000 0)
    -- 7 "or the evaluation, is 0": an outside ask of 3 units on the grid 10, with UseEXTERNAL yes and no
    ∷ evaluated_with 1 (ask_notice (float 0x3f33_a92a_3055_3261) ∷ []) []
    ∷ evaluated_with 0 (ask_notice (float 0x3f33_a92a_3055_3261) ∷ []) []
    ∷ []

pub evaluated_outside_are : evaluated_outside
    ≡ (0 ∷ 0 ∷ 1032500 ∷ [])
    ∷ (0 ∷ 0 ∷ 1030000 ∷ [])
    ∷ (0 ∷ 0 ∷ 0 ∷ 1030000 ∷ [])
    ∷ (0 ∷ 0 ∷ 1032500 ∷ [])
    ∷ (0 ∷ 0 ∷ 1032500 ∷ [])
    ∷ (0 ∷ 16 ∷ 1030000 ∷ [])
    ∷ (0 ∷ 7 ∷ 1030000 ∷ [])
    ∷ (0 ∷ 0 ∷ 1030000 ∷ [])
    ∷ []
unfolding evaluated_outside
evaluated_outside_are = refl
