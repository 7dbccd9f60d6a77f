-- What the calls of a list answer, from a table on; and one list of calls that is answered every number 0 to 13, 16
-- (W-205), 18 and 19 (W-210), and 20 (W-211). So the definitions are not empty.
-- It may use every definition of document 01, and the values of PinnedValues.
use Rattle.std.specs.Prelude.{◌≡◌, refl, true, List, [], ◌∷◌, ◌++◌, map, ℕ, zero, suc, ℤ, pos, replicate}
use Rattle.std.specs.Float.{binary64}
use Rattle.std.specs.Float.Ieee.{is_nan, to_bits, of_bits}
use Rattle.paper.specs.declared.Notice.TheVariants.{Bid}
use Rattle.paper.specs.declared.Record.{Record}
use Rattle.paper.specs.declared.Answer.{Answer}
use Rattle.paper.specs.Lists.{every, some, those}
use Rattle.paper.specs.Roundings.{down, up, half_up, to_grid, lesser_of, greater_of, grown, apart}
use Rattle.paper.specs.Least.{first, least, least_root, least_times, least_multiple}
use Rattle.paper.specs.Ranges.{unsigned, is_price, price_made, is_rate, grid_of, is_grid_price, valid_statics, statics_of}
use Rattle.paper.specs.Ranges.{valid_given, tentative_top, valid_tentative, valid_admission, parts_from, row_at, rows_of}
use Rattle.paper.specs.Ranges.{whole_rows, valid_row, valid_rows, row_of, valid_term, valid_day, valid_quote, valid_side}
use Rattle.paper.specs.Ranges.{side_of, is_live, last_day, is_limit, valid_limits, valid_near, valid_near_seconds, valid_session}
use Rattle.paper.specs.Ranges.{valid_external, sound, valid_slots}
use Rattle.paper.specs.Floats.{significand, exact_value, is_above_zero, units_of, price_of_bits, price_of}
use Rattle.paper_desk.specs.Evaluation.{row_price, row_weight, roubles_of, traded, weights, worth, mean, close_of}
use Rattle.paper_desk.specs.Evaluation.{best_bid, lesser_ask, best_ask, used_pair, bid_of, ask_of, median, between}
use Rattle.paper_desk.specs.Evaluation.{evaluation_of, day_rows, is_crossed_row, has_crossed_row, row_fits}
use Rattle.paper_desk.specs.Evaluation.{evaluation_fits}
use Rattle.paper_desk.specs.Rates.{move_from, move_of, weight_of, weighted, replacement, replaces, volatility_of}
use Rattle.paper_desk.specs.Rates.{least_step, tentative_rate, tentative_rate_by_move, tentative_rate_of, tentative_after}
use Rattle.paper_desk.specs.Rates.{meets_requirement, days_of, minimum_of, covers, level_rate, modelled, unmodelled}
use Rattle.paper_desk.specs.Rates.{figures_of, move_too_large}
use Rattle.paper_desk.specs.Limits.{limit_of, shifted, range_limit, range_of, farthest, spread, monitored, narrower}
use Rattle.paper_desk.specs.Limits.{band_limit, band_of, crossed, delta_of, one_more, range_moved_by, band_moved}
use Rattle.paper_desk.specs.Alerts.{distance, is_near, kept_since, near_after, alert, near_cleared}
use Rattle.paper.specs.Verdicts.{number_of, is_done, first_of}
use Rattle.paper_desk.specs.External.{notice, has_none, is_bad, units_made, kept_after}
use Rattle.paper_desk.specs.Evening.{is_evening, alert_seconds, move_allowed, session_moved}
use Rattle.paper_desk.specs.Desk.{blank, saying, showing, alerting, admitted, used_by, price_on, move_on, figures_on}
use Rattle.paper_desk.specs.Desk.{evaluated, near_on, quoted, alerts_on, moved, evening_opened, received, place}
use Rattle.paper_desk.specs.Desk.{stands, found, known, Call, admit, evaluate, quote, move, read, open_evening}
use Rattle.paper_desk.specs.Desk.{receive, admit_checks, checks_of, Outcome, judged, accepted_of, step, run}
use Rattle.paper_desk.specs.Desk.{fresh}
use Rattle.paper.specs.PinnedValues.{◌but◌, row_bid_at, row_ask_at, pchmax_at, monitoring_at, ewma_at, id_at, s_at, aup_at}
use Rattle.paper.specs.PinnedValues.{adown_at, admission_from, day_from, quote_from, closed_at, z_numbers, record_from}

-- what the calls of a list answer, each on the table that those before it leave. It opens every definition that a call
-- computes with, so that a table opens this one alone
unfoldable pub answers : List Call → List Record → List Answer
unfolding unsigned is_price price_made is_rate grid_of is_grid_price valid_statics statics_of valid_given valid_tentative
    valid_admission parts_from row_at rows_of whole_rows valid_row valid_rows row_of valid_term valid_day valid_quote valid_side
    side_of is_live last_day is_limit valid_limits valid_near valid_near_seconds valid_session valid_external sound valid_slots
    row_price row_weight roubles_of traded weights worth mean close_of best_bid lesser_ask best_ask used_pair bid_of ask_of
    median between evaluation_of day_rows is_crossed_row has_crossed_row row_fits evaluation_fits move_from move_of weight_of
    weighted replacement replaces volatility_of least_step tentative_top tentative_rate tentative_rate_by_move
    tentative_rate_of tentative_after meets_requirement days_of minimum_of covers level_rate modelled unmodelled figures_of
    move_too_large limit_of shifted range_limit range_of farthest spread monitored narrower band_limit band_of crossed
    delta_of one_more range_moved_by band_moved distance is_near kept_since near_after alert near_cleared is_done first_of blank
    saying showing alerting admitted used_by price_on move_on figures_on evaluated near_on quoted is_nan to_bits significand
    exact_value is_above_zero units_of price_of_bits price_of has_none is_bad units_made kept_after is_evening alert_seconds
    move_allowed session_moved alerts_on moved evening_opened received place stands found known admit_checks
    checks_of judged accepted_of step run
    every some those up down half_up to_grid lesser_of greater_of grown apart first least least_root least_times
    least_multiple
answers [] t = []
answers (c ∷ cs) t =
    let o : Outcome = step c t in
    o.answer ∷ answers cs o.table

-- the numbers that they answer
unfoldable pub numbers : List Call → List Record → List ℕ
unfolding answers
numbers cs t = map (λ (a : Answer). number_of a.verdict) (answers cs t)

-- a fresh table of so many slots
unfoldable pub slots : (count : ℕ) → List Record
slots count = replicate count blank

-- "all figures 0 (flags no, nothing near, admitted only)": no number at all
pub blank_is_zero : blank ≡ record_from []
unfolding blank record_from
blank_is_zero = refl

pub slots_fresh : (count : ℕ) → fresh (slots count) ≡ true
unfolding fresh every slots blank
slots_fresh zero = refl
slots_fresh (suc count) = slots_fresh count

-- ---- calls, spelled by their numbers

-- the evaluation of a day on which the security closes at a price
unfoldable pub day_at : (id day close : ℕ) → Call
unfolding day_from unsigned closed_at
day_at id day close = evaluate id (day_from (pos day ∷ [])) (closed_at close)

-- a quote of a bid alone in term 0
unfoldable pub bid_at : (id second bid : ℕ) → Call
unfolding quote_from unsigned
bid_at id second bid = quote id (quote_from (pos second ∷ pos 0 ∷ pos bid ∷ []))

-- ---- "Numbers a member may see": every number, from a fresh table of three slots on

-- the admission of a security with isEWMA no and PcH_max 0
unfoldable pub quiet : (id : ℕ) → Call
unfolding admission_from z_numbers
quiet id = admit (admission_from (z_numbers but (ewma_at, pos 0) but (pchmax_at, pos 0) but (id_at, pos id)))

-- of one with Monitoring no, s and the weights 0
unfoldable pub still : (id : ℕ) → Call
unfolding admission_from z_numbers
still id =
    admit
    (admission_from
    (z_numbers but (monitoring_at, pos 0) but (s_at, pos 0) but (aup_at, pos 0) but (adown_at, pos 0) but (id_at, pos id)))

-- terms of 30 days with the repo band at its end: with PcH_max 0 their lower band limit is above the upper one
unfoldable pub crossing : List ℤ
crossing = pos 30 ∷ pos 9999 ∷ pos 9999 ∷ []

unfoldable pub numbered : List Call
unfolding quiet still crossing day_at bid_at day_from closed_at of_bits
numbered =
    -- 1 no such id; 4 id 0; 0 done; 2 already admitted; 20 an outside bid of zero; 10 not live
    read 7
    ∷ quiet 0
    ∷ quiet 7
    ∷ quiet 7
    ∷ receive 7 (notice (Bid (of_bits binary64 0)))
    ∷ bid_at 7 100 990000
    -- 5 the last day; 6 volume without a close; 16 a row whose bid is above its ask; 7 an evaluation of 0; 9 bands that
    -- cross; 0 done
    ∷ day_at 7 3 1000000
    ∷ day_at 7 4 0
    ∷ evaluate 7 (day_from (pos 4 ∷ [])) (closed_at 1000000 but (row_bid_at, pos 2) but (row_ask_at, pos 1))
    ∷ day_at 7 4 1
    ∷ evaluate 7 (day_from (pos 4 ∷ pos 0 ∷ pos 0 ∷ crossing)) []
    ∷ day_at 7 4 1000000
    -- 0 done; 13 a second earlier; fifty moves, and 12
    ∷ bid_at 7 100 990000
    ∷ bid_at 7 99 990000
    ∷ (replicate 50 (move 7 0)
    ++ (move 7 0
    -- 0 the evening is opened; 19 opened twice; the two evening moves of its maximum, and 18
    ∷ open_evening 7
    ∷ open_evening 7
    ∷ move 7 1
    ∷ move 7 1
    ∷ move 7 1
    -- 0 done; 8 r of 1,000,010; 0 done; 11 Monitoring no
    ∷ still 8
    ∷ day_at 8 4 2000010
    ∷ day_at 8 4 1000000
    ∷ bid_at 8 100 990000
    -- 0 the third slot; 3 no empty slot
    ∷ quiet 9
    ∷ quiet 10
    ∷ []))

pub every_number : numbers numbered (slots 3)
    ≡ 1 ∷ 4 ∷ 0 ∷ 2 ∷ 20 ∷ 10 ∷ 5 ∷ 6 ∷ 16 ∷ 7 ∷ 9 ∷ 0 ∷ 0 ∷ 13
    ∷ (replicate 50 0 ++ (12 ∷ 0 ∷ 19 ∷ 0 ∷ 0 ∷ 18 ∷ 0 ∷ 8 ∷ 0 ∷ 11 ∷ 0 ∷ 3 ∷ []))
unfolding numbers numbered slots
every_number = refl
