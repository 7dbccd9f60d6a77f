-- Document 01, "Both sides of each line": the starred cases, computed from the definitions, a line to a case.
use Rattle.std.specs.Prelude.{◌≡◌, refl, Bool, true, false, List, [], ◌∷◌, map, ℕ, ◌*◌, ℤ, pos, negsuc}
use Rattle.paper.specs.declared.Statics.{Statics}
use Rattle.paper.specs.declared.Side.TheVariants.{Upper}
use Rattle.paper.specs.declared.Term.{Term}
use Rattle.paper.specs.declared.Record.{Record}
use Rattle.paper.specs.declared.Day.{Day}
use Rattle.paper.specs.Lists.{three, every, some, those}
use Rattle.paper.specs.Numbers.{millionths_in_bp}
use Rattle.paper.specs.Roundings.{down, up, half_up, to_grid, lesser_of, greater_of, grown, apart}
use Rattle.paper.specs.Least.{first, least, least_root, least_times, least_multiple}
use Rattle.paper.specs.Ranges.{is_price, is_rate, is_grid_price, valid_statics, tentative_top, valid_tentative, valid_row}
use Rattle.paper.specs.Ranges.{whole_rows, valid_rows, valid_term, valid_day, last_day, is_limit, valid_limits, valid_near}
use Rattle.paper.specs.Ranges.{valid_near_seconds, valid_session, valid_external, sound, valid_slots, grid_of, statics_of}
use Rattle.paper.specs.Ranges.{row_at, parts_from, rows_of, row_of, unsigned, no_term, rate_at, range_at, band_at, no_external}
use Rattle.paper_desk.specs.Evaluation.{row_price, row_weight, roubles_of, traded, weights, worth, mean, close_of, best_bid}
use Rattle.paper_desk.specs.Evaluation.{lesser_ask, best_ask, used_pair, bid_of, ask_of, median, between, evaluation_of}
use Rattle.paper_desk.specs.Evaluation.{day_rows, is_crossed_row, has_crossed_row, row_fits, evaluation_fits}
use Rattle.paper_desk.specs.Rates.{model_of, move_from, move_of, weight_of, weighted, replacement, replaces, volatility_of}
use Rattle.paper_desk.specs.Rates.{least_step, tentative_rate, tentative_rate_by_move, tentative_rate_of, tentative_after}
use Rattle.paper_desk.specs.Rates.{meets_requirement, days_of, minimum_of, covers, level_rate, modelled, unmodelled}
use Rattle.paper_desk.specs.Rates.{figures_of, move_too_large}
use Rattle.paper_desk.specs.Limits.{limit_of, shifted, range_limit, range_of, farthest, spread, monitored, narrower}
use Rattle.paper_desk.specs.Limits.{band_limit, band_of, crossed, delta_of, one_more, range_moved_by, band_moved}
use Rattle.paper_desk.specs.Alerts.{distance, is_near, near_cleared}
use Rattle.paper.specs.Verdicts.{number_of, is_done, first_of}
use Rattle.paper_desk.specs.Desk.{saying, showing, admitted, used_by, price_on, move_on, figures_on, evaluated, moved}
use Rattle.paper_desk.specs.Desk.{place, stands, found, known, evaluate, checks_of, judged, accepted_of, step}
use Rattle.paper.specs.PinnedValues.{given_with, admission_z}

unfoldable pub Z : Statics
unfolding given_with statics_of
Z = statics_of (given_with 10)

-- a row in roubles today, before other rows
pub roubles_row : (close bid ask volume : ℕ) → (rest : List ℤ) → List ℤ
roubles_row close bid ask volume rest = pos 0 ∷ pos 10000 ∷ pos 0 ∷ pos close ∷ pos bid ∷ pos ask ∷ pos volume ∷ rest

-- "repo bands 0; b, m 0", but for the m and the terms given
pub day_with : (m : ℕ) → Term → Day
day_with m x = record { day = 4; b = 0; m = m; terms = three (λ k. x) }

-- cases 1 to 6: the record after an evaluation at 1,030,000
unfoldable pub after : (m : ℕ) → Term → Record
unfolding admission_z given_with roubles_row day_with statics_of admitted minimum_of evaluated figures_on figures_of modelled
    unmodelled used_by move_on price_on move_of move_from up apart volatility_of weight_of weighted replaces replacement
    least_step tentative_top tentative_rate tentative_rate_by_move tentative_rate_of tentative_after level_rate covers
    meets_requirement days_of least first least_root least_times least_multiple evaluation_of day_rows rows_of parts_from row_at
    row_of unsigned roubles_of row_price row_weight down half_up to_grid grown close_of mean traded those weights worth
    best_bid best_ask lesser_ask used_pair bid_of ask_of between median grid_of range_of range_limit limit_of shifted band_of
    band_limit farthest narrower lesser_of greater_of monitored spread
after m x = evaluated (admitted admission_z) (day_with m x) (roubles_row 1030000 0 0 5 [])

upper_at : Record → (i : ℕ) → ℕ
upper_at r i = (range_at r i).upper

lower_at : Record → (i : ℕ) → ℕ
lower_at r i = (range_at r i).lower

yes_no : Bool → ℕ
yes_no true = 1
yes_no false = 0

-- case 10's rows: "roubles, close 1,000,000 volume 300, and a currency at 12.5000 with close 81,000 volume 8"
rows10 : List ℤ
rows10 = roubles_row 1000000 0 0 300 (pos 0 ∷ pos 125000 ∷ pos 0 ∷ pos 81000 ∷ pos 0 ∷ pos 0 ∷ pos 8 ∷ [])

-- case 11's rows. W-205: "Case 11 then uses two rows", one with the close and the bid, and one with the ask
rows11 : (close : ℕ) → List ℤ
rows11 close = roubles_row close 1010000 0 1 (roubles_row 0 0 1000000 0 [])

-- the number that an evaluation of rows gets, once Z is admitted
day_answer : (rows : List ℤ) → ℕ
unfolding after step judged first_of is_done checks_of accepted_of saying showing known found stands place
    valid_slots sound valid_statics is_grid_price is_price is_rate valid_tentative is_limit valid_limits valid_near
    valid_near_seconds valid_session valid_external last_day valid_day valid_term valid_rows whole_rows valid_row every some
    is_crossed_row has_crossed_row evaluation_fits row_fits move_too_large crossed
day_answer rows = number_of (step (evaluate 7 (day_with 0 no_term) rows) (admitted admission_z ∷ [])).answer.verdict

-- what the definitions give
pub results : List (List ℕ)
unfolding after Z upper_at lower_at yes_no rows10 rows11 day_answer moved one_more delta_of range_moved_by band_moved
    near_cleared is_near distance
results =
    -- 1: r, s, tentative, the three rates
    (move_on (admitted admission_z) (roubles_row 1030000 0 0 5 [])
    ∷ (after 0 no_term).s
    ∷ (after 0 no_term).tentative.bp
    ∷ rate_at (after 0 no_term).rates 0
    ∷ rate_at (after 0 no_term).rates 1
    ∷ rate_at (after 0 no_term).rates 2
    ∷ [])
    -- 2: level 1 with m 6 and with m 1
    ∷ (rate_at (after 6 no_term).rates 0 ∷ rate_at (after 1 no_term).rates 0 ∷ [])
    -- 3: the ranges, upper and lower
    ∷ (upper_at (after 0 no_term) 0
    ∷ upper_at (after 0 no_term) 1
    ∷ upper_at (after 0 no_term) 2
    ∷ lower_at (after 0 no_term) 0
    ∷ lower_at (after 0 no_term) 1
    ∷ lower_at (after 0 no_term) 2
    ∷ [])
    -- 4: the band, and the band with k 2, RRcL -730, RRcH 1,460
    ∷ ((band_at (after 0 no_term) 0).lower
    ∷ (band_at (after 0 no_term) 0).upper
    ∷ (band_at (after 0 (record { k = 2; low = negsuc 729; high = pos 1460 })) 1).lower
    ∷ (band_at (after 0 (record { k = 2; low = negsuc 729; high = pos 1460 })) 1).upper
    ∷ [])
    -- 5: one upper move: the band's top and the range tops
    ∷ ((band_at (moved (after 0 no_term) Upper) 0).upper
    ∷ upper_at (moved (after 0 no_term) Upper) 0
    ∷ upper_at (moved (after 0 no_term) Upper) 1
    ∷ upper_at (moved (after 0 no_term) Upper) 2
    ∷ [])
    -- 6: whether the bids are near the top
    ∷ (yes_no (is_near Upper Z.w (band_at (after 0 no_term) 0) 1062960)
    ∷ yes_no (is_near Upper Z.w (band_at (after 0 no_term) 0) 1062970)
    ∷ [])
    -- 7: r, and the weight
    ∷ (move_of 306000100 300000000 300000000 ∷ weight_of (model_of Z) 0 (move_of 306000100 300000000 300000000) 20000 ∷ [])
    -- 8: s after r 200,000 with S_1 700, and with b 2; of the first, t by W-202, which is the tentative rate then
    ∷ (volatility_of (model_of Z) 0 200000 (millionths_in_bp * 700) 20000
    ∷ volatility_of (model_of Z) 2 200000 (millionths_in_bp * 700) 20000
    ∷ (modelled Z 0 0 700 200000 20000 (record { bp = 600; age = 0 })).tentative.bp
    ∷ [])
    -- 9: t, and the tentative rate at age 3 and at age 4
    ∷ (tentative_rate Z 3333
    ∷ (tentative_after Z.h Z.wait (tentative_rate Z 3333) (record { bp = 700; age = 3 })).bp
    ∷ (tentative_after Z.h Z.wait (tentative_rate Z 3333) (record { bp = 700; age = 4 })).bp
    ∷ [])
    -- 10: the close and the evaluation
    ∷ (close_of 1000000 (map roubles_of (day_rows rows10))
    ∷ evaluation_of (grid_of Z.lot) 1000000 no_external (day_rows rows10)
    ∷ [])
    -- 11: BID 1,010,000, ASK 1,000,000, with the close 1,005,000 and with 990,000; by W-205 the numbers that the first
    -- gets of two rows and of one
    ∷ (evaluation_of (grid_of Z.lot) 1000000 no_external (day_rows (rows11 1005000))
    ∷ evaluation_of (grid_of Z.lot) 1000000 no_external (day_rows (rows11 990000))
    ∷ day_answer (rows11 1005000)
    ∷ day_answer (roubles_row 1005000 1010000 1000000 1 [])
    ∷ [])
    ∷ []

-- what document 01 says, W-202 of case 8's t, W-205 of case 11's rows, and W-209 of case 4's second band
pub starred : results
    ≡ (30000 ∷ 21214 ∷ 700 ∷ 800 ∷ 1200 ∷ 1500 ∷ [])
    ∷ (1500 ∷ 1000 ∷ [])
    ∷ (1112400 ∷ 1153600 ∷ 1184500 ∷ 947600 ∷ 906400 ∷ 875500 ∷ [])
    -- W-209: "Case 4's second top becomes 1,072,050 and its bottom 988,410."
    ∷ (988800 ∷ 1071200 ∷ 988410 ∷ 1072050 ∷ [])
    ∷ (1091800 ∷ 1133000 ∷ 1174200 ∷ 1205100 ∷ [])
    ∷ (0 ∷ 1 ∷ [])
    ∷ (20001 ∷ 1000 ∷ [])
    -- W-202: "Case 8's t becomes 2,000."
    ∷ (66667 ∷ 20000 ∷ 2000 ∷ [])
    ∷ (100 ∷ 700 ∷ 600 ∷ [])
    ∷ (1003125 ∷ 1003130 ∷ [])
    -- W-205: "Case 11 then uses two rows."
    ∷ (1005000 ∷ 1000000 ∷ 0 ∷ 16 ∷ [])
    ∷ []
unfolding results
starred = refl
