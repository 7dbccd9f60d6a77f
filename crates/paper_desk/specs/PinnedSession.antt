-- Document 01, "Ranges, bands, alerts, moves", within a day: near sides and alerts on both sides of their lines, and
-- what a move and an evaluation leave, on case 1's security. The general sentences are laws (proofs/PinnedLaws).
-- It may use every definition of document 01, and the values of PinnedValues.
use Rattle.std.specs.Prelude.{◌≡◌, refl, List, [], ◌∷◌, ◌++◌, map, ℕ, suc, ◌+◌, ℤ, pos, get_or}
use Rattle.paper.specs.declared.Side.{Side}
use Rattle.paper.specs.declared.Side.TheVariants.{Upper, Lower}
use Rattle.paper.specs.declared.Limits.{Limits}
use Rattle.std.specs.declared.option.Option.{Option}
use Rattle.std.specs.declared.option.Option.TheVariants.{None, Some}
use Rattle.paper.specs.declared.NearSeconds.{NearSeconds}
use Rattle.paper.specs.declared.Record.{Record}
use Rattle.paper.specs.declared.Answer.{Answer}
use Rattle.paper_desk.specs.Alerts.{is_near}
use Rattle.paper_desk.specs.Desk.{blank, Call, evaluate, quote, move, run}
use Rattle.paper.specs.PinnedValues.{◌but◌, ewma_at, p1_at, upper_moves_at, lower_moves_at, second_at, near_at, record_from}
use Rattle.paper.specs.PinnedValues.{day_from, quote_from, z_numbers, yes_no}
use Rattle.paper_desk.specs.PinnedSequence.{answers}

-- case 1's security after its evaluation, with isEWMA no from then on
unfoldable pub live_z : List ℤ
unfolding z_numbers
live_z =
    (z_numbers but (ewma_at, pos 0) but (p1_at, pos 1030000))
    -- live, age 0, the rates
    ++ (pos 1 ∷ pos 0 ∷ pos 800 ∷ pos 1200 ∷ pos 1500
    -- the ranges
    ∷ pos 947600 ∷ pos 1112400 ∷ pos 906400 ∷ pos 1153600 ∷ pos 875500 ∷ pos 1184500
    -- the terms
    ∷ pos 0 ∷ pos 0 ∷ pos 0 ∷ pos 0 ∷ pos 0 ∷ pos 0 ∷ pos 0 ∷ pos 0 ∷ pos 0
    -- the bands
    ∷ pos 988800 ∷ pos 1071200 ∷ pos 988800 ∷ pos 1071200 ∷ pos 988800 ∷ pos 1071200
    -- the moves, the near seconds, the last quote second, the session
    ∷ pos 0 ∷ pos 0 ∷ pos 0 ∷ pos 0 ∷ pos 0 ∷ pos 0 ∷ pos 0 ∷ pos 0 ∷ pos 0
    ∷ pos 0
    ∷ [])

-- ---- near, and the alert

-- a quote of the security
unfoldable pub quote_at : (second term bid ask : ℕ) → Call
unfolding quote_from
quote_at second term bid ask = quote 7 (quote_from (pos second ∷ pos term ∷ pos bid ∷ pos ask ∷ []))

-- the alerts at the top, or at the bottom, that a list of calls is answered from a record on
unfoldable pub tops_of : (row : List ℤ) → List Call → List ℕ
unfolding answers record_from yes_no
tops_of row calls = map (λ (a : Answer). yes_no a.top) (answers calls (record_from row ∷ []))

unfoldable pub bottoms_of : (row : List ℤ) → List Call → List ℕ
unfolding answers record_from yes_no
bottoms_of row calls = map (λ (a : Answer). yes_no a.bottom) (answers calls (record_from row ∷ []))

tops : List Call → List ℕ
unfolding tops_of live_z
tops quotes = tops_of live_z quotes

bottoms : List Call → List ℕ
unfolding bottoms_of live_z
bottoms quotes = bottoms_of live_z quotes

pub alerts : List (List ℕ)
unfolding tops bottoms quote_at yes_no
alerts =
    -- "near, and at least u seconds since that second": near since 100; at 159 and at 160
    tops (quote_at 100 0 1062970 0 ∷ quote_at 159 0 1062970 0 ∷ quote_at 160 0 1062970 0 ∷ [])
    ∷ bottoms (quote_at 100 0 0 997030 ∷ quote_at 159 0 0 997030 ∷ quote_at 160 0 0 997030 ∷ [])
    -- the bottom's quotes alert at no top, and the top's at no bottom
    ∷ tops (quote_at 100 0 0 997030 ∷ quote_at 160 0 0 997030 ∷ [])
    ∷ bottoms (quote_at 100 0 1062970 0 ∷ quote_at 160 0 1062970 0 ∷ [])
    -- "a quote that isn't near clears it": at 130 it is not near by one unit of the grid, so that it is near since 140
    ∷ tops
    (quote_at 100 0 1062970 0
    ∷ quote_at 130 0 1062960 0
    ∷ quote_at 140 0 1062970 0
    ∷ quote_at 199 0 1062970 0
    ∷ quote_at 200 0 1062970 0
    ∷ [])
    ∷ bottoms
    (quote_at 100 0 0 997030
    ∷ quote_at 130 0 0 997040
    ∷ quote_at 140 0 0 997030
    ∷ quote_at 199 0 0 997030
    ∷ quote_at 200 0 0 997030
    ∷ [])
    -- a missing bid and a missing ask clear it too
    ∷ tops (quote_at 100 0 1062970 0 ∷ quote_at 130 0 0 997030 ∷ quote_at 160 0 1062970 0 ∷ [])
    ∷ bottoms (quote_at 100 0 0 997030 ∷ quote_at 130 0 1062970 0 ∷ quote_at 160 0 0 997030 ∷ [])
    -- "A near side keeps the second at which it became near": near quotes at 130 and 150 leave 100
    ∷ tops (quote_at 100 0 1062970 0 ∷ quote_at 130 0 1070000 0 ∷ quote_at 150 0 1062970 0 ∷ quote_at 160 0 1062970 0 ∷ [])
    -- "One quote touches one term only.": quotes that are not near in the terms 1 and 2 leave term 0 near since 100
    ∷ tops (quote_at 100 0 1062970 0 ∷ quote_at 130 1 1000000 0 ∷ quote_at 140 2 1000000 0 ∷ quote_at 160 0 1062970 0 ∷ [])
    -- and a near quote in term 1 makes term 0 not near
    ∷ tops (quote_at 100 1 1062970 0 ∷ quote_at 160 0 1062970 0 ∷ quote_at 160 1 1062970 0 ∷ [])
    ∷ []

pub alerts_are : alerts
    ≡ (0 ∷ 0 ∷ 1 ∷ [])
    ∷ (0 ∷ 0 ∷ 1 ∷ [])
    ∷ (0 ∷ 0 ∷ [])
    ∷ (0 ∷ 0 ∷ [])
    ∷ (0 ∷ 0 ∷ 0 ∷ 0 ∷ 1 ∷ [])
    ∷ (0 ∷ 0 ∷ 0 ∷ 0 ∷ 1 ∷ [])
    ∷ (0 ∷ 0 ∷ 0 ∷ [])
    ∷ (0 ∷ 0 ∷ 0 ∷ [])
    ∷ (0 ∷ 0 ∷ 0 ∷ 1 ∷ [])
    ∷ (0 ∷ 0 ∷ 0 ∷ 1 ∷ [])
    ∷ (0 ∷ 0 ∷ 1 ∷ [])
    ∷ []
unfolding alerts
alerts_are = refl

-- whether prices are near a side of a band, with w in ten-thousandths
near_to : Side → (w : ℕ) → Limits → (prices : List ℕ) → List ℕ
unfolding answers yes_no
near_to side w x prices = map (λ (price : ℕ). yes_no (is_near side w x price)) prices

pub nearness : List (List ℕ)
unfolding near_to
nearness =
    -- "PcH - bid strictly less than w·(PcH - PcL)", "likewise with ask - PcL": a tenth of 100, on both sides
    near_to Upper 1000 (record { lower = 900; upper = 1000 }) (0 ∷ 990 ∷ 991 ∷ 1000 ∷ 1001 ∷ [])
    ∷ near_to Lower 1000 (record { lower = 900; upper = 1000 }) (0 ∷ 910 ∷ 909 ∷ 900 ∷ 899 ∷ [])
    -- with w 0 a price must be past the limit
    ∷ near_to Upper 0 (record { lower = 900; upper = 1000 }) (1000 ∷ 1001 ∷ [])
    ∷ near_to Lower 0 (record { lower = 900; upper = 1000 }) (900 ∷ 899 ∷ [])
    -- a lent record's band may be crossed: then w·(PcH - PcL) is below zero
    ∷ near_to Upper 1000 (record { lower = 1100; upper = 1000 }) (1010 ∷ 1011 ∷ [])
    ∷ near_to Lower 1000 (record { lower = 1100; upper = 1000 }) (1090 ∷ 1089 ∷ [])
    -- "0 missing": the least price that is there, one unit, is near a limit that it stands at
    ∷ near_to Upper 1000 (record { lower = 0; upper = 1 }) (0 ∷ 1 ∷ [])
    ∷ near_to Lower 1000 (record { lower = 1; upper = 2 }) (0 ∷ 1 ∷ [])
    ∷ []

pub nearness_are : nearness
    ≡ (0 ∷ 0 ∷ 1 ∷ 1 ∷ 1 ∷ [])
    ∷ (0 ∷ 0 ∷ 1 ∷ 1 ∷ 1 ∷ [])
    ∷ (0 ∷ 1 ∷ [])
    ∷ (0 ∷ 1 ∷ [])
    ∷ (0 ∷ 1 ∷ [])
    ∷ (0 ∷ 1 ∷ [])
    ∷ (0 ∷ 1 ∷ [])
    ∷ (0 ∷ 1 ∷ [])
    ∷ []
unfolding nearness
nearness_are = refl

-- ---- what a move and an evaluation leave

-- 0 where it is not near, one more than the second otherwise
near_number : Option ℕ → ℕ
near_number None = 0
near_number (Some second) = suc second

-- the upper and the lower limits of the bands and of the ranges; the moves of each side; the near seconds at the top
-- and at the bottom; the last quote second
unfoldable pub limits_of : Record → List (List ℕ)
unfolding near_number
limits_of r =
    map (λ (x : Limits). x.upper) r.bands
    ∷ map (λ (x : Limits). x.lower) r.bands
    ∷ map (λ (x : Limits). x.upper) r.ranges
    ∷ map (λ (x : Limits). x.lower) r.ranges
    ∷ (r.moves.upper ∷ r.moves.lower ∷ [])
    ∷ map (λ (n : NearSeconds). near_number n.top) r.near
    ∷ map (λ (n : NearSeconds). near_number n.bottom) r.near
    ∷ (r.second ∷ [])
    ∷ []

-- the record that a list of calls leaves in a table of one slot
unfoldable pub left : List Call → (row : List ℤ) → Record
unfolding answers record_from
left calls row = get_or (run calls (record_from row ∷ [])) 0 blank

-- the security near at 300 on every side, the last quote at 400, after 1 upper and 2 lower moves counted but not remade
unfoldable pub counted : List ℤ
unfolding live_z
counted =
    live_z but (upper_moves_at, pos 1) but (lower_moves_at, pos 2) but (near_at, pos 301) but (near_at + 1, pos 301)
    but (near_at + 2, pos 301) but (near_at + 3, pos 301) but (near_at + 4, pos 301) but (near_at + 5, pos 301)
    but (second_at, pos 400)

pub moves : List (List (List ℕ))
unfolding limits_of left counted day_from
moves =
    -- "It adds one to c, remakes that side's three band limits, and shifts its three range limits by delta": an upper
    -- move, and a lower one
    limits_of (left (move 7 0 ∷ []) counted)
    ∷ limits_of (left (move 7 1 ∷ []) counted)
    -- "An evaluation clears both counts, all near seconds and the last quote second (to 0)."
    ∷ limits_of (left (evaluate 7 (day_from (pos 4 ∷ [])) [] ∷ []) counted)
    ∷ []

pub moves_are : moves
    -- e = 1 + 2·2·0.25 above: 1,030,000·1.08; delta 20,600
    ≡ ((1112400 ∷ 1112400 ∷ 1112400 ∷ [])
    ∷ (988800 ∷ 988800 ∷ 988800 ∷ [])
    ∷ (1133000 ∷ 1174200 ∷ 1205100 ∷ [])
    ∷ (947600 ∷ 906400 ∷ 875500 ∷ [])
    ∷ (2 ∷ 2 ∷ [])
    ∷ (0 ∷ 0 ∷ 0 ∷ [])
    ∷ (301 ∷ 301 ∷ 301 ∷ [])
    ∷ (400 ∷ [])
    ∷ [])
    -- e = 1 + 2·3·0.25 below: 1,030,000·0.9
    ∷ ((1071200 ∷ 1071200 ∷ 1071200 ∷ [])
    ∷ (927000 ∷ 927000 ∷ 927000 ∷ [])
    ∷ (1112400 ∷ 1153600 ∷ 1184500 ∷ [])
    ∷ (927000 ∷ 885800 ∷ 854900 ∷ [])
    ∷ (1 ∷ 3 ∷ [])
    ∷ (301 ∷ 301 ∷ 301 ∷ [])
    ∷ (0 ∷ 0 ∷ 0 ∷ [])
    ∷ (400 ∷ [])
    ∷ [])
    -- with isEWMA no the rates are 500, 700, 900
    ∷ ((1055750 ∷ 1055750 ∷ 1055750 ∷ [])
    ∷ (1004250 ∷ 1004250 ∷ 1004250 ∷ [])
    ∷ (1081500 ∷ 1102100 ∷ 1122700 ∷ [])
    ∷ (978500 ∷ 957900 ∷ 937300 ∷ [])
    ∷ (0 ∷ 0 ∷ [])
    ∷ (0 ∷ 0 ∷ 0 ∷ [])
    ∷ (0 ∷ 0 ∷ 0 ∷ [])
    ∷ (0 ∷ [])
    ∷ [])
    ∷ []
unfolding moves
moves_are = refl
