-- Document 01's C gateway in plain numbers: the answers of its three calls for Z, at both ends of each range and one
-- past, and "4 (a static out of range)" before "6 (another value out of range or off the grid)".
-- It may use Gateway, and the values of PinnedValues.
use Rattle.std.specs.Prelude.{◌≡◌, refl, List, [], ◌∷◌, map, ℕ, ℤ, pos, negsuc}
use Rattle.paper.specs.Ranges.{given_of}
use Rattle.paper_desk.specs.Gateway.{gateway_checks, gateway_answer, level_in_range}
use Rattle.paper_desk.specs.Gateway.{level_figure, level_call, range_in_range, range_call, band_in_range, band_call}
use Rattle.paper.specs.PinnedValues.{◌but◌, signed, plain, lot_at, liq_at, minima_at, pchmax_at, pclmax_at, monitoring_at}
use Rattle.paper.specs.PinnedValues.{ewma_at, z_numbers}
use Rattle.paper_desk.specs.PinnedSequence.{numbers}

-- ---- the calls, with their own numbers in a row

-- "a level's rate from tentative, m and level"
level : (statics call : List ℤ) → ℤ
unfolding numbers given_of gateway_checks gateway_answer level_in_range level_figure level_call
level statics call =
    level_call (given_of statics) (plain call 0) (plain call 1) (plain call 2)

-- "a fresh range limit from P, rate and side"
range : (statics call : List ℤ) → ℤ
unfolding level range_in_range range_call
range statics call =
    range_call (given_of statics) (plain call 0) (plain call 1) (plain call 2)

-- "a band limit from P, S_1, k, that side's repo rate, c and side"
band : (statics call : List ℤ) → ℤ
unfolding level band_in_range band_call
band statics call =
    band_call (given_of statics) (plain call 0) (plain call 1) (plain call 2)
    (signed call 3) (plain call 4) (plain call 5)

-- the places of a band's numbers
abbrev s1_at : ℕ
s1_at = 1

abbrev k_at : ℕ
k_at = 2

abbrev repo_at : ℕ
repo_at = 3

abbrev c_at : ℕ
c_at = 4

abbrev side_at : ℕ
side_at = 5

-- case 1's calls: tentative 700, m 0, level 1; P 1,030,000, rate 800, above; the same P, S_1 800, k, repo rate and c 0
case1_level : List ℤ
case1_level = pos 700 ∷ pos 0 ∷ pos 1 ∷ []

case1_range : List ℤ
case1_range = pos 1030000 ∷ pos 800 ∷ pos 0 ∷ []

case1_band : List ℤ
case1_band = pos 1030000 ∷ pos 800 ∷ pos 0 ∷ pos 0 ∷ pos 0 ∷ pos 0 ∷ []

-- of the round price 1,000,000 and S_1 0, above
round_band : List ℤ
round_band = pos 1000000 ∷ pos 0 ∷ pos 0 ∷ pos 0 ∷ pos 0 ∷ pos 0 ∷ []

-- the answers to a call with other numbers at one of its places, one after the other
tried_at : (answer : List ℤ → ℤ) → (call : List ℤ) → (place : ℕ) → (values : List ℤ) → List ℤ
tried_at answer call place values = map (λ (value : ℤ). answer (call but (place, value))) values

pub levels : List (List ℤ)
unfolding level case1_level tried_at z_numbers
levels =
    -- the level: 0, case 1's three, 4
    tried_at (level z_numbers) case1_level 2 (pos 0 ∷ pos 1 ∷ pos 2 ∷ pos 3 ∷ pos 4 ∷ [])
    -- m: below 0, case 2's 1 and 6, the most, one more
    ∷ tried_at (level z_numbers) case1_level 1 (negsuc 0 ∷ pos 1 ∷ pos 6 ∷ pos 10 ∷ pos 11 ∷ [])
    -- the tentative rate: below 0, 0, S_max, a step more, the top of W-208's range, a step more; no multiple of h
    ∷ tried_at (level z_numbers) case1_level 0
    (negsuc 0 ∷ pos 0 ∷ pos 4000 ∷ pos 4100 ∷ pos 100000 ∷ pos 100100 ∷ pos 650 ∷ [])
    -- isEWMA no: the minima, and 6 as before
    ∷ tried_at (level (z_numbers but (ewma_at, pos 0))) case1_level 2 (pos 0 ∷ pos 1 ∷ pos 2 ∷ pos 3 ∷ pos 4 ∷ [])
    -- isEWMA 0, 1, 2; Monitoring 0, 1, 2
    ∷ map (λ (flag : ℤ). level (z_numbers but (ewma_at, flag)) case1_level) (pos 0 ∷ pos 1 ∷ pos 2 ∷ negsuc 0 ∷ [])
    ∷ map (λ (flag : ℤ). level (z_numbers but (monitoring_at, flag)) case1_level) (pos 0 ∷ pos 1 ∷ pos 2 ∷ negsuc 0 ∷ [])
    -- "gateway 4 (a static out of range), 6 (another value out of range ..)": both, and each alone
    ∷ (level (z_numbers but (liq_at, pos 501)) (case1_level but (2, pos 4))
    ∷ level (z_numbers but (liq_at, pos 501)) case1_level
    ∷ level (z_numbers but (liq_at, pos 500)) (case1_level but (2, pos 4))
    ∷ [])
    ∷ []

pub levels_are : levels
    ≡ (negsuc 5 ∷ pos 800 ∷ pos 1200 ∷ pos 1500 ∷ negsuc 5 ∷ [])
    -- 700·sqrt(6) + 50 is 1,764.6
    ∷ (negsuc 5 ∷ pos 1000 ∷ pos 1500 ∷ pos 1800 ∷ negsuc 5 ∷ [])
    -- the minimum 500 is above liq; 4,000 + 50 is above S_max
    ∷ (negsuc 5 ∷ pos 500 ∷ pos 4000 ∷ pos 4000 ∷ pos 4000 ∷ negsuc 5 ∷ negsuc 5 ∷ [])
    ∷ (negsuc 5 ∷ pos 500 ∷ pos 700 ∷ pos 900 ∷ negsuc 5 ∷ [])
    ∷ (pos 500 ∷ pos 800 ∷ negsuc 3 ∷ negsuc 3 ∷ [])
    ∷ (pos 800 ∷ pos 800 ∷ negsuc 3 ∷ negsuc 3 ∷ [])
    ∷ (negsuc 3 ∷ negsuc 3 ∷ negsuc 5 ∷ [])
    ∷ []
unfolding levels
levels_are = refl

pub ranges : List (List ℤ)
unfolding range case1_range tried_at z_numbers
ranges =
    -- the side: case 3's upper and lower limit, 2, below 0
    tried_at (range z_numbers) case1_range 2 (pos 0 ∷ pos 1 ∷ pos 2 ∷ negsuc 0 ∷ [])
    -- the rate: below 0, 0, no multiple of h, 10,000 bp, one more
    ∷ tried_at (range z_numbers) case1_range 1 (negsuc 0 ∷ pos 0 ∷ pos 850 ∷ pos 10000 ∷ pos 10001 ∷ [])
    -- P on the grid 10: 0, the least, the greatest, a step more; off the grid; below 0
    ∷ tried_at (range z_numbers) case1_range 0
    (pos 0 ∷ pos 10 ∷ pos 10000000000 ∷ pos 10000000010 ∷ pos 1030005 ∷ negsuc 9 ∷ [])
    -- both numbers apply, and each alone
    ∷ (range (z_numbers but (lot_at, pos 101)) (case1_range but (2, pos 2))
    ∷ range (z_numbers but (lot_at, pos 101)) case1_range
    ∷ range (z_numbers but (lot_at, pos 100)) (case1_range but (2, pos 2))
    ∷ [])
    ∷ []

pub ranges_are : ranges
    ≡ (pos 1112400 ∷ pos 947600 ∷ negsuc 5 ∷ negsuc 5 ∷ [])
    -- 1,030,000·1.085 is 1,117,550
    ∷ (negsuc 5 ∷ pos 1030000 ∷ pos 1117550 ∷ pos 2060000 ∷ negsuc 5 ∷ [])
    -- 10·1.08 is 10.8
    ∷ (negsuc 5 ∷ pos 10 ∷ pos 10800000000 ∷ negsuc 5 ∷ negsuc 5 ∷ negsuc 5 ∷ [])
    ∷ (negsuc 3 ∷ negsuc 3 ∷ negsuc 5 ∷ [])
    ∷ []
unfolding ranges
ranges_are = refl

pub bands : List (List ℤ)
unfolding band case1_band round_band tried_at z_numbers
bands =
    -- the side: case 4's upper and lower limit, 2
    tried_at (band z_numbers) case1_band side_at (pos 0 ∷ pos 1 ∷ pos 2 ∷ negsuc 0 ∷ [])
    -- "With k 2, RRcL -730, RRcH 1,460"; case 5's one upper move
    ∷ (band z_numbers (case1_band but (k_at, pos 2) but (repo_at, pos 1460))
    ∷ band z_numbers (case1_band but (k_at, pos 2) but (repo_at, negsuc 729) but (side_at, pos 1))
    ∷ band z_numbers (case1_band but (c_at, pos 1))
    ∷ [])
    -- the repo rate with k 30, above: one past either end, and at it
    ∷ tried_at (band z_numbers) (round_band but (k_at, pos 30)) repo_at
    (negsuc 9999 ∷ negsuc 9998 ∷ pos 9999 ∷ pos 10000 ∷ [])
    -- k with the repo rate 3,650: below 0, 0, the most, one more
    ∷ tried_at (band z_numbers) (round_band but (repo_at, pos 3650)) k_at (negsuc 0 ∷ pos 0 ∷ pos 30 ∷ pos 31 ∷ [])
    -- c with S_1 100: below 0, 0, the most, one more
    ∷ tried_at (band z_numbers) (round_band but (s1_at, pos 100)) c_at (negsuc 0 ∷ pos 0 ∷ pos 50 ∷ pos 51 ∷ [])
    -- S_1 with PcH_max 10,000: below 0, 0, 10,000 bp, one more
    ∷ tried_at (band (z_numbers but (pchmax_at, pos 10000))) round_band s1_at (negsuc 0 ∷ pos 0 ∷ pos 10000 ∷ pos 10001 ∷ [])
    -- P: 0, the least, the greatest, a step more; off the grid
    ∷ tried_at (band z_numbers) round_band 0 (pos 0 ∷ pos 10 ∷ pos 10000000000 ∷ pos 10000000010 ∷ pos 1000005 ∷ [])
    -- Monitoring no, whatever S_1, k and c are, with PcH_max 2,000 and PcL_max 1,000: above, below; 6 as before
    ∷ tried_at (band (z_numbers but (monitoring_at, pos 0) but (pclmax_at, pos 1000)))
    (case1_band but (k_at, pos 2) but (repo_at, pos 1460) but (c_at, pos 1)) side_at (pos 0 ∷ pos 1 ∷ pos 2 ∷ [])
    -- both numbers apply, and each alone
    ∷ (band (z_numbers but (minima_at, pos 501)) (case1_band but (c_at, pos 51))
    ∷ band (z_numbers but (minima_at, pos 501)) case1_band
    ∷ band (z_numbers but (minima_at, pos 500)) (case1_band but (c_at, pos 51))
    ∷ [])
    ∷ []

pub bands_are : bands
    ≡ (pos 1071200 ∷ pos 988800 ∷ negsuc 5 ∷ negsuc 5 ∷ [])
    ∷ (pos 1072050 ∷ pos 988410 ∷ pos 1091800 ∷ [])
    -- 299,970/3,650,000 is 0.0821836: 917,816.4 and 1,082,183.6, down
    ∷ (negsuc 5 ∷ pos 917810 ∷ pos 1082180 ∷ negsuc 5 ∷ [])
    -- 109,500/3,650,000 is 0.03
    ∷ (negsuc 5 ∷ pos 1000000 ∷ pos 1030000 ∷ negsuc 5 ∷ [])
    -- 0.01/2, and with e = 1 + 2·50·0.25 = 26 it is 0.13
    ∷ (negsuc 5 ∷ pos 1005000 ∷ pos 1130000 ∷ negsuc 5 ∷ [])
    -- 1/2
    ∷ (negsuc 5 ∷ pos 1000000 ∷ pos 1500000 ∷ negsuc 5 ∷ [])
    ∷ (negsuc 5 ∷ pos 10 ∷ pos 10000000000 ∷ negsuc 5 ∷ negsuc 5 ∷ [])
    -- 1,030,000·1.2 and 1,030,000·0.9
    ∷ (pos 1236000 ∷ pos 927000 ∷ negsuc 5 ∷ [])
    ∷ (negsuc 3 ∷ negsuc 3 ∷ negsuc 5 ∷ [])
    ∷ []
unfolding bands
bands_are = refl
