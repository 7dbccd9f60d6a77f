-- Document 01's ranges, both sides of each end: a value with one number at either end of its range is valid, and with
-- that number one past either end it is not. Then grids, multiples of h, lengths of slices.
-- It may use the tests of Ranges, and the values of PinnedValues.
use Rattle.std.specs.Prelude.{◌≡◌, refl, Bool, true, false, List, [], ◌∷◌, ◌++◌, map, ℕ, zero, suc, ◌+◌, ℤ, pos, negsuc, replicate}
use Rattle.std.proofs.Math.IntN.{suc_ℤ, pred_ℤ}
use Rattle.paper.specs.declared.Side.TheVariants.{Upper, Lower}
use Rattle.paper.specs.Lists.{every}
use Rattle.paper.specs.Roundings.{up}
use Rattle.paper.specs.Ranges.{is_price, is_rate, grid_of, is_grid_price, valid_statics, statics_of, valid_given}
use Rattle.paper.specs.Ranges.{tentative_top, valid_tentative, valid_admission, parts_from, row_at, rows_of, whole_rows}
use Rattle.paper.specs.Ranges.{row_of, unsigned}
use Rattle.paper.specs.Ranges.{valid_row, valid_rows, valid_term, valid_day, valid_quote, valid_side, side_of, last_day}
use Rattle.paper.specs.Ranges.{is_limit, valid_limits, valid_near, valid_near_seconds, valid_session, valid_external}
use Rattle.paper.specs.Ranges.{sound, valid_slots, is_live}
use Rattle.paper.specs.PinnedValues.{◌but◌, lot_at, h_at, minima_at, uevening_at, eveningmax_at, id_at, p1_at}
use Rattle.paper.specs.PinnedValues.{tentative_at, age_at, ranges_at, bands_at, admission_from, record_from, day_from}
use Rattle.paper.specs.PinnedValues.{quote_from, live_at}

-- ---- a row of numbers with their ranges

-- a number, and the least and the greatest that may stand in its place
abbrev pub Ranged : Type 0
Ranged = ℤ × ℤ × ℤ

abbrev pub range : (value low high : ℕ) → Ranged
range value low high = (pos value, pos low, pos high)

unfoldable pub values_of : List Ranged → List ℤ
values_of rs = map (λ (r : Ranged). r.0) rs

-- of each number, from a place of the row on: one below its range, at either end, one above
unfoldable pub straddles : (valid : List ℤ → Bool) → (row : List ℤ) → (place : ℕ) → List Ranged → List (List Bool)
straddles valid row place [] = []
straddles valid row place (r ∷ rs) =
    (valid (row but (place, pred_ℤ r.1))
    ∷ valid (row but (place, r.1))
    ∷ valid (row but (place, r.2))
    ∷ valid (row but (place, suc_ℤ r.2))
    ∷ [])
    ∷ straddles valid row (suc place) rs

-- what is said of so many numbers: valid at the ends, not past them
unfoldable pub at_the_ends_alone : (count : ℕ) → List (List Bool)
at_the_ends_alone count = replicate count (false ∷ true ∷ true ∷ false ∷ [])

-- whether the row is valid with each of these changes
tried : (valid : List ℤ → Bool) → (row : List ℤ) → List (ℕ × ℤ) → List Bool
tried valid row changes = map (λ (change : ℕ × ℤ). valid (row but change)) changes

-- ---- the table of statics; lot 100, so that the grid is 1, and h 1. Where two are ordered, the other is an end

static_ranges : List Ranged
static_ranges =
    -- "lot: pieces, 1..100"; "step h: bp, 1..1,000"; "multiplier q: hundredths, 100..1,000"
    range 100 1 100
    ∷ range 1 1 1000
    ∷ range 300 100 1000
    -- "a_up, a_down: ten-thousandths, 0..10,000"; "wait n: trading days, 1..250"
    ∷ range 1000 0 10000
    ∷ range 500 0 10000
    ∷ range 5 1 250
    -- "rh_1 ≤ rh_2 ≤ rh_3: days, rh_1 1..5, others to 30"; "liq: bp, 0..500"
    ∷ range 2 1 5
    ∷ range 10 2 20
    ∷ range 20 10 30
    ∷ range 50 0 500
    -- "S_1_min ≤ S_2_min ≤ S_3_min ≤ S_max: bp, 0..10,000"
    ∷ range 2000 0 4000
    ∷ range 4000 2000 6000
    ∷ range 6000 4000 8000
    ∷ range 8000 6000 10000
    -- "x_pr: hundredths, 50..1,000"; "shift: hundredths, 1..100"
    ∷ range 200 50 1000
    ∷ range 25 1 100
    -- "PcH_max, PcL_max: bp, 0..10,000"; "w: ten-thousandths, 0..5,000"; "u: seconds, 1..3,600"
    ∷ range 2000 0 10000
    ∷ range 2000 0 10000
    ∷ range 1000 0 5000
    ∷ range 60 1 3600
    ∷ []

-- "Monitoring, isEWMA: yes/no", "yes 1, no 0"
flag_ranges : List Ranged
flag_ranges = range 1 0 1 ∷ range 1 0 1 ∷ []

-- W-210: "u_evening 1..3,600 seconds, Autochange yes/no, the evening maximum 0..10"
evening_ranges : List Ranged
evening_ranges = range 120 1 3600 ∷ range 1 0 1 ∷ range 2 0 10 ∷ []

-- W-211: "UseEXTERNAL yes/no"
external_ranges : List Ranged
external_ranges = range 0 0 1 ∷ []

-- the statics behind isEWMA, in their order
later_ranges : List Ranged
unfolding evening_ranges external_ranges
later_ranges = evening_ranges ++ external_ranges

-- "id (1..10^9), last day number (0..10^6, as every day number), the two latest evaluations (on the grid, in range), s,
-- and the tentative rate", which W-208 takes to 100,000 where h is 1; "Price: .. 1 to 10^10"; "Volatility s: .. 0 to
-- 1,000,000"
admission_ranges : List Ranged
admission_ranges =
    range 7 1 1000000000
    ∷ range 3 0 1000000
    ∷ range 1000000 1 10000000000
    ∷ range 1000000 1 10000000000
    ∷ range 20000 0 1000000
    ∷ range 0 0 100000
    ∷ []

-- "limits on the grid 0..2·10^12 + 2·10^10"
limit_ranges : List Ranged
limit_ranges = replicate 6 (range 0 0 2020000000000)

-- "three terms, each with days k 0..30 and repo band RRcL ≤ RRcH, -9,999..9,999 bp"
term_ranges : List Ranged
term_ranges = range 2 0 30 ∷ (pos 0, negsuc 9998, pos 1) ∷ (pos 1, pos 0, pos 9999) ∷ []

three_terms : List Ranged
unfolding term_ranges
three_terms = term_ranges ++ (term_ranges ++ term_ranges)

-- "age 0..250", "rates 0..10,000", "move counts 0..50", "seconds 0..86,399"; a near second is spelled by one more, and
-- so are the evening moves made, 0..10 (W-210); an outside bid and ask are 0..10^10 (W-211)
record_ranges : List Ranged
unfolding limit_ranges three_terms
record_ranges =
    range 0 0 250
    ∷ (replicate 3 (range 0 0 10000)
    ++ (limit_ranges
    ++ (three_terms
    ++ (limit_ranges
    ++ (replicate 2 (range 0 0 50)
    ++ (replicate 6 (range 0 0 86400)
    ++ (range 0 0 86399 ∷ range 0 0 11 ∷ replicate 2 (range 0 0 10000000000))))))))

-- an admission, and a live record
admission_row : List ℤ
unfolding static_ranges flag_ranges later_ranges admission_ranges values_of
admission_row = values_of (static_ranges ++ (flag_ranges ++ (later_ranges ++ admission_ranges)))

record_row : List ℤ
unfolding admission_row record_ranges
record_row = admission_row ++ (pos 1 ∷ values_of record_ranges)

valid_admission_row : (row : List ℤ) → Bool
unfolding valid_admission valid_given valid_statics statics_of is_grid_price is_price grid_of tentative_top valid_tentative
    up admission_from
valid_admission_row row = valid_admission (admission_from row)

sound_row : (row : List ℤ) → Bool
unfolding sound valid_statics is_grid_price is_price is_rate grid_of tentative_top valid_tentative up last_day valid_term
    is_limit valid_limits valid_near valid_near_seconds valid_session valid_external record_from
sound_row row = sound (record_from row)

pub admission_ends : List (List Bool)
unfolding straddles valid_admission_row admission_row
admission_ends =
    straddles valid_admission_row admission_row 0 (static_ranges ++ (flag_ranges ++ (later_ranges ++ admission_ranges)))

pub admission_ends_are : admission_ends ≡ at_the_ends_alone 32
unfolding admission_ends at_the_ends_alone
admission_ends_are = refl

-- "A record with a field outside the ranges, orders, multiples of h or grid that this paper gives as input ranges (and
-- ..) counts as no such id"
pub record_ends : List (List Bool)
unfolding straddles sound_row record_row
record_ends =
    straddles sound_row record_row 0 static_ranges
    -- Autochange and UseEXTERNAL are yes or no in a record, with no number out of range
    ++ (straddles sound_row record_row uevening_at (range 120 1 3600 ∷ [])
    ++ straddles sound_row record_row eveningmax_at (range 2 0 10 ∷ []))
    ++ (straddles sound_row record_row id_at admission_ranges ++ straddles sound_row record_row age_at record_ranges)

pub record_ends_are : record_ends ≡ at_the_ends_alone 65
unfolding record_ends at_the_ends_alone
record_ends_are = refl

-- ---- "multiples of h", and the grid

-- with h 1,000: S_1_min, S_2_min, S_3_min, S_max, the tentative rate, each one off a multiple and at a multiple
steps : List (ℕ × ℤ)
steps =
    (minima_at, pos 3001)
    ∷ (minima_at, pos 3000)
    ∷ (minima_at + 1, pos 3001)
    ∷ (minima_at + 1, pos 3000)
    ∷ (minima_at + 2, pos 7001)
    ∷ (minima_at + 2, pos 7000)
    ∷ (minima_at + 3, pos 7001)
    ∷ (minima_at + 3, pos 7000)
    ∷ (tentative_at, pos 3001)
    ∷ (tentative_at, pos 3000)
    ∷ []

-- W-208: h and a tentative rate a step past the top of its range, then at it, for h 1, 7, 999 and 1,000
about_the_top : List (ℕ × ℕ)
about_the_top =
    (1, 100001)
    ∷ (1, 100000)
    ∷ (7, 100009)
    ∷ (7, 100002)
    ∷ (999, 101898)
    ∷ (999, 100899)
    ∷ (1000, 101000)
    ∷ (1000, 100000)
    ∷ []

-- whether the row is valid with each of them, where the minima and S_max are 0, so that S_max is no maximum
tried_tops : (valid : List ℤ → Bool) → (row : List ℤ) → List Bool
unfolding about_the_top
tried_tops valid row =
    map (λ (x : ℕ × ℕ). valid (row but (h_at, pos x.0) but (minima_at, pos 0) but (minima_at + 1, pos 0)
    but (minima_at + 2, pos 0) but (minima_at + 3, pos 0) but (tentative_at, pos x.1)))
    about_the_top

-- with lot 10, whose grid is 10: the two evaluations, off the grid and on it
on_grid : List (ℕ × ℤ)
on_grid = (p1_at, pos 1000005) ∷ (p1_at, pos 1000010) ∷ (p1_at + 1, pos 1000005) ∷ (p1_at + 1, pos 1000010) ∷ []

-- and of a record a lower and an upper limit of a range and of a band
limits_on_grid : List (ℕ × ℤ)
limits_on_grid =
    (ranges_at, pos 5)
    ∷ (ranges_at, pos 10)
    ∷ (ranges_at + 5, pos 5)
    ∷ (ranges_at + 5, pos 10)
    ∷ (bands_at, pos 5)
    ∷ (bands_at, pos 10)
    ∷ (bands_at + 5, pos 5)
    ∷ (bands_at + 5, pos 10)
    ∷ []

pub multiples : List (List Bool)
unfolding tried steps tried_tops on_grid limits_on_grid valid_admission_row sound_row record_row
multiples =
    tried valid_admission_row (admission_row but (h_at, pos 1000)) steps
    ∷ tried sound_row (record_row but (h_at, pos 1000)) steps
    ∷ tried valid_admission_row (admission_row but (lot_at, pos 10)) on_grid
    ∷ tried sound_row (record_row but (lot_at, pos 10)) (on_grid ++ limits_on_grid)
    ∷ tried_tops valid_admission_row admission_row
    ∷ tried_tops sound_row record_row
    ∷ []

-- no, yes, so many times
unfoldable pub off_then_on : ℕ → List Bool
off_then_on zero = []
off_then_on (suc times) = false ∷ true ∷ off_then_on times

pub multiples_are : multiples ≡ off_then_on 5 ∷ off_then_on 5 ∷ off_then_on 2 ∷ off_then_on 6 ∷ off_then_on 4 ∷ off_then_on 4 ∷ []
unfolding multiples off_then_on
multiples_are = refl

-- "So g = 100 units for lot 1, 10 for 2..10, 1 for 11..100."
pub grids_are : map grid_of (1 ∷ 2 ∷ 10 ∷ 11 ∷ 100 ∷ []) ≡ 100 ∷ 10 ∷ 10 ∷ 1 ∷ 1 ∷ []
unfolding grid_of
grids_are = refl

-- ---- a day, its rows, a quote

-- "A day gives a day number ..; b .. 0..30; m .. 0..10; and three terms"
day_ranges : List Ranged
unfolding three_terms
day_ranges = range 4 0 1000000 ∷ range 0 0 30 ∷ range 0 0 10 ∷ three_terms

-- "A row: T 0..30; central rate 1..10^7 ten-thousandths; repo rate -9,999..9,999 bp; close, bid, ask 0..10^10; volume
-- 0..10^8 thousands."
row_ranges : List Ranged
row_ranges =
    range 0 0 30
    ∷ range 10000 1 10000000
    ∷ (pos 0, negsuc 9998, pos 9999)
    ∷ range 1 0 10000000000
    ∷ range 0 0 10000000000
    ∷ range 0 0 10000000000
    ∷ range 0 0 100000000
    ∷ []

-- "A quote has second 0..86,399, term 0..2, bid and ask 0..10^11 (0 missing)."
quote_ranges : List Ranged
quote_ranges = range 0 0 86399 ∷ range 0 0 2 ∷ range 0 0 100000000000 ∷ range 0 0 100000000000 ∷ []

valid_day_row : (rows day : List ℤ) → Bool
unfolding valid_day valid_term valid_rows whole_rows every valid_row rows_of parts_from row_at day_from
valid_day_row rows day = valid_day (day_from day) rows

valid_quote_row : (row : List ℤ) → Bool
unfolding valid_quote quote_from
valid_quote_row row = valid_quote (quote_from row)

pub input_ends : List (List Bool)
unfolding straddles valid_day_row valid_quote_row day_ranges row_ranges quote_ranges values_of
input_ends =
    straddles (valid_day_row []) (values_of day_ranges) 0 day_ranges
    ++ (straddles (λ (rows : List ℤ). valid_day_row rows (values_of day_ranges)) (values_of row_ranges) 0 row_ranges
    ++ straddles valid_quote_row (values_of quote_ranges) 0 quote_ranges)

pub input_ends_are : input_ends ≡ at_the_ends_alone 23
unfolding input_ends at_the_ends_alone
input_ends_are = refl

-- "rows of seven numbers": which number of a row is which, of the second of two rows whose numbers count up
pub row_is : row_of (row_at (map pos (8 ∷ 9 ∷ 10 ∷ 11 ∷ 12 ∷ 13 ∷ 14 ∷ 1 ∷ 2 ∷ 3 ∷ 4 ∷ 5 ∷ 6 ∷ 7 ∷ [])) 7)
    ≡ record { t = 1; central = 2; repo = pos 3; close = 4; bid = 5; ask = 6; volume = 7 }
unfolding row_of row_at unsigned
row_is = refl

-- ---- what else is in range

pub others : List (List Bool)
unfolding valid_day_row day_ranges values_of is_price is_rate valid_side valid_slots
others =
    -- "slice length not a multiple of 7 or over 112": 0, 6, 7, 8, 112, 113, 119 numbers
    map (λ (count : ℕ). valid_day_row (replicate count (pos 1)) (values_of day_ranges))
    (0 ∷ 6 ∷ 7 ∷ 8 ∷ 112 ∷ 113 ∷ 119 ∷ [])
    -- "Volume above 0 with close 0 is out of range.": volume 1 with close 0, 1 with close 1, 0 with close 0
    ∷ map (λ (row : List ℤ). valid_day_row row (values_of day_ranges))
    ((pos 0 ∷ pos 1 ∷ pos 0 ∷ pos 0 ∷ pos 0 ∷ pos 0 ∷ pos 1 ∷ [])
    ∷ (pos 0 ∷ pos 1 ∷ pos 0 ∷ pos 1 ∷ pos 0 ∷ pos 0 ∷ pos 1 ∷ [])
    ∷ (pos 0 ∷ pos 1 ∷ pos 0 ∷ pos 0 ∷ pos 0 ∷ pos 0 ∷ pos 0 ∷ [])
    ∷ [])
    -- the second row is looked at as the first
    ∷ (valid_day_row (replicate 7 (pos 1) ++ replicate 7 (pos 31)) (values_of day_ranges) ∷ [])
    -- "Price: .. 1 to 10^10"
    ∷ map is_price (0 ∷ 1 ∷ 10000000000 ∷ 10000000001 ∷ [])
    -- "Rate: basis point (bp), 10,000 = 100 per cent"
    ∷ map is_rate (0 ∷ 10000 ∷ 10001 ∷ [])
    -- "A move names a side, 0 upper or 1 lower."
    ∷ map valid_side (0 ∷ 1 ∷ 2 ∷ [])
    -- "1 to 512 slots"
    ∷ map valid_slots (0 ∷ 1 ∷ 512 ∷ 513 ∷ [])
    ∷ []

pub others_are : others
    ≡ (true ∷ false ∷ true ∷ false ∷ true ∷ false ∷ false ∷ [])
    ∷ (false ∷ true ∷ true ∷ [])
    ∷ (false ∷ [])
    ∷ (false ∷ true ∷ true ∷ false ∷ [])
    ∷ (true ∷ true ∷ false ∷ [])
    ∷ (true ∷ true ∷ false ∷ [])
    ∷ (false ∷ true ∷ true ∷ false ∷ [])
    ∷ []
unfolding others
others_are = refl

pub sides_are : map side_of (0 ∷ 1 ∷ []) ≡ Upper ∷ Lower ∷ []
unfolding side_of
sides_are = refl

-- "A record has a standing: admitted only, or live": live and not, and both are sound
pub standings : List (List Bool)
unfolding sound_row record_row is_live
standings =
    let rows : List (List ℤ) = record_row ∷ (record_row but (live_at, pos 0)) ∷ [] in
    map (λ (row : List ℤ). is_live (record_from row).standing) rows ∷ map sound_row rows ∷ []

pub standings_are : standings ≡ (true ∷ false ∷ []) ∷ (true ∷ true ∷ []) ∷ []
unfolding standings
standings_are = refl
