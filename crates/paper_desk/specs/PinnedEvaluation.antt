-- Document 01, "The evaluation (6.1)", "The rates (7.1)" and the limits made from them, on both sides of their lines
-- where the starred cases (Cases) have none.
-- It may use every definition of document 01, and the values of PinnedValues.
use Rattle.std.specs.Prelude.{◌≡◌, refl, List, [], ◌∷◌, ◌++◌, map, ℕ, ℤ, pos, negsuc, get_or}
use Rattle.paper.specs.declared.Rate.{Rate}
use Rattle.paper.specs.declared.Tentative.{Tentative}
use Rattle.paper.specs.declared.Statics.{Statics}
use Rattle.paper.specs.declared.Side.{Side}
use Rattle.paper.specs.declared.Side.TheVariants.{Upper, Lower}
use Rattle.paper.specs.declared.Row.{Row}
use Rattle.paper.specs.declared.Record.{Record}
use Rattle.paper.specs.Ranges.{given_of, statics_of, no_limits, no_external}
use Rattle.paper_desk.specs.Evaluation.{row_price, row_weight, evaluation_of, day_rows}
use Rattle.paper_desk.specs.Rates.{model_of, move_of, weight_of, replaces, volatility_of, tentative_rate}
use Rattle.paper_desk.specs.Rates.{level_rate, rated_by}
use Rattle.paper_desk.specs.Limits.{range_limit, band_limit, delta_of}
use Rattle.paper_desk.specs.Desk.{blank, evaluate, admitted, run}
use Rattle.paper.specs.PinnedValues.{◌but◌, lot_at, q_at, wait_at, central_at, pchmax_at, pclmax_at, monitoring_at, ewma_at}
use Rattle.paper.specs.PinnedValues.{p1_at, s_at, age_at, rates_at, admission_from, record_from, day_from, closed_at}
use Rattle.paper.specs.PinnedValues.{z_numbers, z_record, yes_no}
use Rattle.paper_desk.specs.PinnedSequence.{numbers}

-- ---- the evaluation

-- the evaluation to a unit after 700, of rows of seven numbers
evaluation_at : (rows : List ℤ) → ℕ
unfolding numbers
evaluation_at rows = evaluation_of 1 700 no_external (day_rows rows)

-- a row in roubles today
unfoldable pub row : (close bid ask volume : ℕ) → List ℤ
row close bid ask volume = pos 0 ∷ pos 10000 ∷ pos 0 ∷ pos close ∷ pos bid ∷ pos ask ∷ pos volume ∷ []

-- a row with a price of a currency at a central rate, T and a repo rate
currency : (t central : ℕ) → (repo : ℤ) → Row
currency t central repo = record { t = t; central = central; repo = repo; close = 0; bid = 0; ask = 0; volume = 1 }

pub evaluations : List (List ℕ)
unfolding evaluation_at row currency
evaluations =
    -- (a) "price·Rc/10^4 · 3,650,000/(3,650,000 + T·rate), rounded once, half up": case 12; a rate below zero; a half;
    -- less than a half
    (row_price (currency 1 10000 (pos 1825)) 1000000
    ∷ row_price (currency 30 10000 (negsuc 9998)) 1000000
    ∷ row_price (currency 0 5000 (pos 0)) 1
    ∷ row_price (currency 0 4999 (pos 0)) 1
    ∷ [])
    -- (b) "Row volume in roubles, half up to a thousand"
    ∷ map (λ (central : ℕ). row_weight (currency 0 central (pos 0))) (5000 ∷ 4999 ∷ 14999 ∷ [])
    -- (c) "The weighted close, half up to a unit": a half; a third; by weight
    ∷ (evaluation_at (row 10 0 0 1 ++ row 11 0 0 1)
    ∷ evaluation_at (row 10 0 0 1 ++ row 10 0 0 1 ++ row 11 0 0 1)
    ∷ evaluation_at (row 10 0 0 1 ++ row 20 0 0 9)
    ∷ [])
    -- "rows whose weight (b) is above 0": no trade does not count, and neither does a weight that is rounded to 0
    ∷ (evaluation_at (row 10 0 0 1 ++ row 20 0 0 0)
    ∷ evaluation_at (row 10 0 0 1 ++ (row 20 0 0 1 but (central_at, pos 4999)))
    ∷ evaluation_at (row 20 0 0 1 but (central_at, pos 5000))
    ∷ [])
    -- "With no such row it is the previous evaluation."
    ∷ (evaluation_at [] ∷ evaluation_at (row 20 0 0 0) ∷ evaluation_at (row 20 0 0 1 but (central_at, pos 4999)) ∷ [])
    -- "BID is the greatest row bid, ASK the least row ask": a missing one does not count
    ∷ (evaluation_at (row 10 20 0 1 ++ row 10 30 0 1) ∷ evaluation_at (row 10 0 8 1 ++ row 10 0 0 1 ++ row 10 0 9 1) ∷ [])
    -- "One side: min(close, ASK) or max(close, BID). None: the close.": on both sides of the close
    ∷ (evaluation_at (row 10 0 9 1)
    ∷ evaluation_at (row 10 0 11 1)
    ∷ evaluation_at (row 10 9 0 1)
    ∷ evaluation_at (row 10 11 0 1)
    ∷ evaluation_at (row 10 0 0 1)
    ∷ [])
    -- "Both present: the median of BID, close, ASK": the close between, below and above
    ∷ (evaluation_at (row 10 9 11 1) ∷ evaluation_at (row 10 11 12 1) ∷ evaluation_at (row 10 8 9 1) ∷ [])
    -- (d) "The evaluation, half up to the grid": the grid 10, a half and less
    ∷ (evaluation_of 10 1005 no_external [] ∷ evaluation_of 10 1004 no_external [] ∷ [])
    ∷ []

pub evaluations_are : evaluations
    ≡ (999500 ∷ 1089542 ∷ 1 ∷ 0 ∷ [])
    ∷ (1 ∷ 0 ∷ 1 ∷ [])
    ∷ (11 ∷ 10 ∷ 19 ∷ [])
    ∷ (10 ∷ 10 ∷ 10 ∷ [])
    ∷ (700 ∷ 700 ∷ 700 ∷ [])
    ∷ (30 ∷ 8 ∷ [])
    ∷ (9 ∷ 10 ∷ 10 ∷ 11 ∷ 10 ∷ [])
    ∷ (10 ∷ 11 ∷ 9 ∷ [])
    ∷ (1010 ∷ 1000 ∷ [])
    ∷ []
unfolding evaluations
evaluations_are = refl

-- ---- the rates

-- Z's statics with changes
statics_but : (numbersOfZ : List ℤ) → Statics
unfolding statics_of given_of
statics_but numbersOfZ = statics_of (given_of numbersOfZ)

-- the tentative rate 600 of Z at an age, and its age, after an evaluation that wants t; n is 6, which no other static is
tentative_at : (age t : ℕ) → List ℕ
unfolding numbers statics_but z_numbers
tentative_at age t =
    let after : Tentative =
    (rated_by (statics_but (z_numbers but (wait_at, pos 6))) 0 t 0 (record { bp = 600; age = age })).tentative in
    after.bp ∷ after.age ∷ []

pub rates : List (List ℕ)
unfolding tentative_at statics_but yes_no
rates =
    -- "a is 0 when b > 1; else a_up when r > s, a_down otherwise.": b 0, 1 and 2 with r above s; r = s
    (weight_of (model_of (statics_but z_numbers)) 0 11 10
    ∷ weight_of (model_of (statics_but z_numbers)) 1 11 10
    ∷ weight_of (model_of (statics_but z_numbers)) 2 11 10
    ∷ weight_of (model_of (statics_but z_numbers)) 1 10 10
    ∷ [])
    -- "When b ≤ 1 and r > 100·S_1 (last rate), also take the least y with y·q ≥ 100·r; s is the greater": b 1 and b 2
    ∷ (volatility_of (model_of (statics_but z_numbers)) 1 1000 900 100
    ∷ volatility_of (model_of (statics_but z_numbers)) 2 1000 900 100
    -- r one above 100·S_1, and at it
    ∷ volatility_of (model_of (statics_but z_numbers)) 1 1000 999 100
    ∷ volatility_of (model_of (statics_but z_numbers)) 1 1000 1000 100
    ∷ [])
    -- "and on a tie x is the one chosen": y is 334
    ∷ (yes_no (replaces (model_of (statics_but z_numbers)) 0 1000 900 333)
    ∷ yes_no (replaces (model_of (statics_but z_numbers)) 0 1000 900 334)
    ∷ [])
    -- "t is the least multiple of h with 10,000·t ≥ q·s": exactly 100, just above; W-208: a step below S_max, at it and
    -- a step above; "the most that q and s can give"
    ∷ (tentative_rate (statics_but (z_numbers but (q_at, pos 100))) 10000
    ∷ tentative_rate (statics_but (z_numbers but (q_at, pos 100))) 10001
    ∷ tentative_rate (statics_but z_numbers) 130000
    ∷ tentative_rate (statics_but z_numbers) 133333
    ∷ tentative_rate (statics_but z_numbers) 133334
    ∷ tentative_rate (statics_but (z_numbers but (q_at, pos 1000))) 1000000
    ∷ [])
    -- "If t ≥ tentative + h, tentative becomes t.": at 700, one below, and far above
    ∷ tentative_at 0 700
    ∷ tentative_at 0 699
    ∷ tentative_at 0 1200
    -- "Else if t ≤ tentative - h and age + 1 ≥ n, it falls by one h.": at 500, one above; a day too early; far below
    ∷ tentative_at 5 500
    ∷ tentative_at 5 501
    ∷ tentative_at 4 500
    ∷ tentative_at 5 0
    -- "Age becomes 0 on a change, else one more, held at 250."
    ∷ tentative_at 248 600
    ∷ tentative_at 249 600
    ∷ tentative_at 250 600
    -- the minimum and S_max of a level; W-208: "Rates stay held at S_max", a step past it and at the top of the range
    ∷ (level_rate (statics_but z_numbers) 0 0 1
    ∷ level_rate (statics_but z_numbers) 4000 0 3
    ∷ level_rate (statics_but z_numbers) 4100 0 1
    ∷ level_rate (statics_but z_numbers) 100000 0 1
    ∷ [])
    -- "r is the greater of |P - P1|/P1 and |P - P2|/P2": P2 decides, P1 decides, and P2 where P is below both
    ∷ (move_of 1020000 1010000 1000000 ∷ move_of 1020000 1000000 1010000 ∷ move_of 990000 1000000 1010000 ∷ [])
    ∷ []

pub rates_are : rates
    ≡ (1000 ∷ 1000 ∷ 0 ∷ 500 ∷ [])
    ∷ (334 ∷ 100 ∷ 334 ∷ 331 ∷ [])
    ∷ (1 ∷ 0 ∷ [])
    ∷ (100 ∷ 200 ∷ 3900 ∷ 4000 ∷ 4100 ∷ 100000 ∷ [])
    ∷ (700 ∷ 0 ∷ [])
    ∷ (600 ∷ 1 ∷ [])
    ∷ (1200 ∷ 0 ∷ [])
    ∷ (500 ∷ 0 ∷ [])
    ∷ (600 ∷ 6 ∷ [])
    ∷ (600 ∷ 5 ∷ [])
    ∷ (500 ∷ 0 ∷ [])
    ∷ (600 ∷ 249 ∷ [])
    ∷ (600 ∷ 250 ∷ [])
    ∷ (600 ∷ 250 ∷ [])
    ∷ (500 ∷ 4000 ∷ 4000 ∷ 4000 ∷ [])
    -- 20,000/1,010,000 is 19,801.98 millionths
    ∷ (20000 ∷ 20000 ∷ 19802 ∷ [])
    ∷ []
unfolding rates
rates_are = refl

-- ---- records

-- "The three rates start at their minima; age, limits, counts, terms and the last quote second at 0, with no near
-- seconds."
pub admitted_starts : admitted (admission_from z_numbers)
    ≡ record_from (z_numbers ++ (pos 0 ∷ pos 0 ∷ pos 500 ∷ pos 700 ∷ pos 900 ∷ []))
unfolding numbers admission_from record_from z_numbers
admitted_starts = refl

-- the record that an evaluation of day 4 at a price leaves
evaluated_at : (numbersOfZ : List ℤ) → (price : ℕ) → Record
unfolding numbers record_from day_from closed_at z_record
evaluated_at numbersOfZ price =
    get_or (run (evaluate 7 (day_from (pos 4 ∷ [])) (closed_at price) ∷ []) (record_from numbersOfZ ∷ [])) 0 blank

-- s, the tentative rate, its age, the three rates
rates_of : Record → List ℕ
rates_of r = r.s ∷ r.tentative.bp ∷ r.tentative.age ∷ map (λ (x : Rate). x.bp) r.rates

-- delta for S_1 100 bp and a lot: with Z's shift 25 and x_pr 200 it is P/400 before it is rounded
delta_at : (lot p : ℕ) → ℕ
unfolding numbers statics_but z_numbers
delta_at lot p = delta_of (statics_but (z_numbers but (lot_at, pos lot))) 100 p

-- the lower and the upper limit that lie 1 bp from P, with Monitoring no, for a lot
farthest_at : (lot p : ℕ) → List ℕ
unfolding numbers statics_but z_numbers
farthest_at lot p =
    let near : List ℤ = z_numbers but (monitoring_at, pos 0) but (pchmax_at, pos 1) but (pclmax_at, pos 1) in
    map (λ (side : Side). band_limit (statics_but (near but (lot_at, pos lot))) p 0 0 (pos 0) 0 side)
    (Lower ∷ Upper ∷ [])

band_of0 : Record → List ℕ
band_of0 r = (get_or r.bands 0 no_limits).lower ∷ (get_or r.bands 0 no_limits).upper ∷ []

pub evaluated_records : List (List ℕ)
unfolding evaluated_at rates_of band_of0 delta_at farthest_at statics_but
evaluated_records =
    -- "With isEWMA no, the three rates are the minima and s, tentative and age stay.": s 20,000, tentative 600, age 3
    rates_of (evaluated_at (z_record but (ewma_at, pos 0) but (age_at, pos 3)) 1030000)
    -- "Monitoring no: P·(1 + PcH_max) and P·(1 - PcL_max).": 20 and 10 per cent
    ∷ band_of0 (evaluated_at (z_record but (ewma_at, pos 0) but (monitoring_at, pos 0) but (pclmax_at, pos 1000)) 1000000)
    -- "Monitoring yes: the upper is the lesser of that ..; the lower the greater": S_1 within the maxima, and past them
    ∷ band_of0 (evaluated_at (z_record but (ewma_at, pos 0)) 1000000)
    ∷ band_of0 (evaluated_at (z_record but (ewma_at, pos 0) but (pchmax_at, pos 100) but (pclmax_at, pos 200)) 1000000)
    -- "P·max(0, 1 - e·S_1/x_pr)": with c 50 nothing is left but P·(1 - PcL_max); with PcL_max 10,000 bp, 0
    ∷ (band_limit (statics_but z_numbers) 1000000 800 0 (pos 0) 50 Lower
    ∷ band_limit (statics_but (z_numbers but (pclmax_at, pos 10000))) 1000000 800 0 (pos 0) 50 Lower
    ∷ [])
    -- "Range of level L: P·(1 ± S_L).", S_L 10,000 bp; half up to the grid
    ∷ (range_limit (statics_but z_numbers) 1000000 10000 Lower
    ∷ range_limit (statics_but z_numbers) 1000000 10000 Upper
    ∷ range_limit (statics_but z_numbers) 1050 100 Upper
    ∷ range_limit (statics_but z_numbers) 1050 100 Lower
    -- W-209 "ranges .. keep half up": 1,515 and 1,584
    ∷ range_limit (statics_but z_numbers) 1500 100 Upper
    ∷ range_limit (statics_but z_numbers) 1600 100 Lower
    -- to the grid of the lot: 1,518.03 and 1,487.97 on the grid 1, 1,515 and 1,485 on the grid 100
    ∷ range_limit (statics_but (z_numbers but (lot_at, pos 100))) 1503 100 Upper
    ∷ range_limit (statics_but (z_numbers but (lot_at, pos 100))) 1503 100 Lower
    ∷ range_limit (statics_but (z_numbers but (lot_at, pos 1))) 1500 100 Upper
    ∷ range_limit (statics_but (z_numbers but (lot_at, pos 1))) 1500 100 Lower
    ∷ [])
    -- r by P2: P1 is 1,000,010, P2 1,000,000, s 0 and S_1 500
    ∷ rates_of (evaluated_at (z_record but (p1_at, pos 1000010) but (s_at, pos 0) but (rates_at, pos 500)) 1000020)
    -- (g) "delta, .. half up to the grid": just below half a step and at it, on the grids 10, 100 and 1
    ∷ (delta_at 10 1990 ∷ delta_at 10 2000 ∷ delta_at 10 5990 ∷ delta_at 10 6000 ∷ [])
    ∷ (delta_at 1 19900 ∷ delta_at 1 20000 ∷ delta_at 11 199 ∷ delta_at 11 200 ∷ [])
    -- W-209 "Round the upper limit down and the lower limit up": 1 bp from P on the grids 1, 10 and 100, on multiples
    -- of it and a ten-thousandth of a step above and below them
    ∷ (farthest_at 11 100000 ++ farthest_at 11 100001 ++ farthest_at 11 99999)
    ∷ (farthest_at 10 1000000 ++ farthest_at 10 1000010 ++ farthest_at 10 999990)
    ∷ (farthest_at 1 10000000 ++ farthest_at 1 10000100 ++ farthest_at 1 9999900)
    ∷ []

pub evaluated_records_are : evaluated_records
    ≡ (20000 ∷ 600 ∷ 3 ∷ 500 ∷ 700 ∷ 900 ∷ [])
    ∷ (900000 ∷ 1200000 ∷ [])
    ∷ (975000 ∷ 1025000 ∷ [])
    ∷ (980000 ∷ 1010000 ∷ [])
    ∷ (800000 ∷ 0 ∷ [])
    ∷ (0 ∷ 2000000 ∷ 1060 ∷ 1040 ∷ 1520 ∷ 1580 ∷ 1518 ∷ 1488 ∷ 1500 ∷ 1500 ∷ [])
    -- r is 20: 0.1·20² is 40, and 7² covers it (by P1 r would be 10, and s 4)
    ∷ (7 ∷ 600 ∷ 1 ∷ 700 ∷ 1100 ∷ 1300 ∷ [])
    -- 4.975, 5, 14.975, 15; 49.75, 50; 0.4975, 0.5
    ∷ (0 ∷ 10 ∷ 10 ∷ 20 ∷ [])
    ∷ (0 ∷ 100 ∷ 0 ∷ 1 ∷ [])
    -- 99,990 and 100,010; 99,990.9999 and 100,011.0001; 99,989.0001 and 100,008.9999
    ∷ (99990 ∷ 100010 ∷ 99991 ∷ 100011 ∷ 99990 ∷ 100008 ∷ [])
    ∷ (999900 ∷ 1000100 ∷ 999910 ∷ 1000110 ∷ 999900 ∷ 1000080 ∷ [])
    ∷ (9999000 ∷ 10001000 ∷ 9999100 ∷ 10001100 ∷ 9999000 ∷ 10000800 ∷ [])
    ∷ []
unfolding evaluated_records
evaluated_records_are = refl
