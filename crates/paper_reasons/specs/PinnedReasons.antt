-- W-207 on days that a line spells out: what is named where two reasons hold at once, on both sides of each line, and
-- what is at fault in a refusal. Cases 7 and 9 of document 01 are among them.
-- It may use every definition of document 01, and the values of PinnedValues.
use Rattle.std.specs.Prelude.{◌≡◌, refl, List, [], ◌∷◌, ◌++◌, ℕ, ◌+◌, ℤ, pos}
use Rattle.paper.specs.Lists.{every, some, those}
use Rattle.paper.specs.Roundings.{down, up, half_up, to_grid, lesser_of, greater_of, grown, apart}
use Rattle.paper.specs.Least.{first, least, least_root, least_times, least_multiple}
use Rattle.paper.specs.Ranges.{given_of}
use Rattle.paper.specs.Ranges.{unsigned, is_price, is_rate, grid_of, is_grid_price, valid_statics, statics_of, tentative_top}
use Rattle.paper.specs.Ranges.{valid_tentative, parts_from, row_at, rows_of, whole_rows, valid_row, valid_rows, row_of}
use Rattle.paper.specs.Ranges.{valid_term, valid_day, last_day, is_limit, valid_limits, valid_near, valid_near_seconds}
use Rattle.paper.specs.Ranges.{valid_session, valid_external, sound, valid_slots}
use Rattle.paper_desk.specs.Evaluation.{row_price, row_weight, roubles_of, traded, weights, worth, mean, close_of, best_bid}
use Rattle.paper_desk.specs.Evaluation.{lesser_ask, best_ask, used_pair, bid_of, ask_of, median, between, evaluation_of}
use Rattle.paper_desk.specs.Evaluation.{day_rows, is_crossed_row, has_crossed_row, row_fits, evaluation_fits}
use Rattle.paper_desk.specs.Rates.{move_from, move_of, weight_of, weighted, replacement, replaces, volatility_of, least_step}
use Rattle.paper_desk.specs.Rates.{tentative_rate, tentative_rate_by_move, tentative_rate_of, tentative_after}
use Rattle.paper_desk.specs.Rates.{meets_requirement, days_of, minimum_of, covers, level_rate, modelled, unmodelled}
use Rattle.paper_desk.specs.Rates.{figures_of, move_too_large}
use Rattle.paper_desk.specs.Limits.{limit_of, shifted, range_limit, range_of, farthest, spread, monitored, narrower}
use Rattle.paper_desk.specs.Limits.{band_limit, band_of, crossed}
use Rattle.paper.specs.Verdicts.{number_of, is_done, first_of}
use Rattle.paper_desk.specs.Desk.{blank, used_by, price_on, move_on, figures_on, evaluated, place, stands, found, known}
use Rattle.paper_desk.specs.Desk.{evaluate_checks}
use Rattle.paper.specs.PinnedValues.{◌but◌, minima_at, aup_at, adown_at, liq_at, pchmax_at, ewma_at, useexternal_at, p1_at, s_at}
use Rattle.paper.specs.PinnedValues.{tentative_at, age_at, rates_at, external_at, central_at, row_bid_at, row_ask_at, volume_at}
use Rattle.paper.specs.PinnedValues.{standing_from, near_from, session_from, limits_from, term_from, record_from}
use Rattle.paper.specs.PinnedValues.{day_from, closed_at, z_numbers, z_record}
use Rattle.paper_reasons.specs.declared.Why.{Why}
use Rattle.paper_reasons.specs.Reasons.{is_traded, price_set_by, price_reason, weight_given, weight_reason, replacement_was}
use Rattle.paper_reasons.specs.Reasons.{replacement_reason, tentative_did, tentative_reason, requirement_step}
use Rattle.paper_reasons.specs.Reasons.{level_set_by, level_reason}
use Rattle.paper_reasons.specs.Faults.{rows_at_fault, out_of_range, is_same, faults_of, fault_of}
use Rattle.paper_reasons.specs.Why.{replaced_on, step_on, level_on, reasons_of, why_of, why_on}
use Rattle.paper_reasons.specs.Words.{price_number, weight_number, replacement_number, tentative_number, level_number}
use Rattle.paper_reasons.specs.Words.{fault_numbers}

-- why a day is answered as it is, on a table of one record, in the numbers of Words: the price, the weight, the
-- replacement, the tentative rate and the three levels of a day that is accepted; the number and the fault of one that
-- is refused. It opens every definition that it computes with, so that a table opens this one alone
unfoldable pub said : (admitted day rows : List ℤ) → List ℕ
unfolding unsigned is_price is_rate grid_of is_grid_price valid_statics statics_of tentative_top valid_tentative parts_from
    row_at rows_of whole_rows valid_row valid_rows row_of valid_term valid_day last_day is_limit valid_limits valid_near
    valid_near_seconds valid_session valid_external sound valid_slots row_price row_weight roubles_of traded weights worth
    mean close_of best_bid lesser_ask best_ask used_pair bid_of ask_of median between evaluation_of day_rows is_crossed_row
    has_crossed_row row_fits evaluation_fits move_from move_of weight_of weighted replacement replaces volatility_of least_step
    tentative_rate tentative_rate_by_move tentative_rate_of tentative_after meets_requirement days_of minimum_of covers
    level_rate modelled unmodelled figures_of move_too_large limit_of shifted range_limit range_of farthest spread monitored
    narrower band_limit band_of crossed is_done first_of blank used_by price_on move_on figures_on evaluated place stands
    found known evaluate_checks every some those down up half_up to_grid lesser_of greater_of grown apart first least
    least_root least_times least_multiple given_of standing_from near_from session_from limits_from term_from record_from
    day_from is_traded price_set_by price_reason weight_given weight_reason replacement_was replacement_reason tentative_did
    tentative_reason requirement_step level_set_by level_reason rows_at_fault out_of_range is_same faults_of fault_of replaced_on
    step_on level_on reasons_of why_of why_on price_number weight_number replacement_number tentative_number level_number
    fault_numbers
said admitted day rows =
    let y : Why = why_on (record_from admitted ∷ []) 7 (day_from day) rows in
    number_of y.verdict
    ∷ (fault_numbers y.fault ++ price_number y.reasons.price ∷ weight_number y.reasons.weight
    ∷ replacement_number y.reasons.replacement ∷ tentative_number y.reasons.tentative
    ∷ level_number y.reasons.level1 ∷ level_number y.reasons.level2 ∷ level_number y.reasons.level3 ∷ [])

-- Z with a volatility and a tentative rate of 0, and neither weights nor liq: no requirement, and nothing to search for
calm : List ℤ
unfolding z_record z_numbers
calm =
    z_record but (aup_at, pos 0) but (adown_at, pos 0) but (liq_at, pos 0) but (s_at, pos 0) but (tentative_at, pos 0)
    but (rates_at, pos 4000)

-- day 4, without holidays
unfoldable pub today : List ℤ
today = pos 4 ∷ []

-- that security with UseEXTERNAL no (0) or yes (1), and an outside bid and ask that it keeps (W-211)
outside : (useexternal bid ask : ℕ) → List ℤ
unfolding calm
outside useexternal bid ask =
    calm but (useexternal_at, pos useexternal) but (external_at, pos bid) but (external_at + 1, pos ask)

-- a row with no trade
quoted : (bid ask : ℕ) → List ℤ
unfolding closed_at
quoted bid ask = closed_at 0 but (row_bid_at, pos bid) but (row_ask_at, pos ask) but (volume_at, pos 0)

-- ---- the price

pub prices : List (List ℕ)
unfolding said calm today outside quoted closed_at z_record z_numbers
prices =
    -- the close alone; the close and BID; the close and ASK; the close is yesterday's price
    said calm today (closed_at 1010000)
    ∷ said calm today (closed_at 1010000 ++ quoted 1010000 0)
    ∷ said calm today (closed_at 1010000 ++ quoted 0 1010000)
    ∷ said calm today (closed_at 1000000)
    -- BID alone; BID and ASK are equal, above the close; ASK alone
    ∷ said calm today (closed_at 1010000 ++ quoted 1020000 0)
    ∷ said calm today (closed_at 1010000 ++ quoted 1020000 1020000)
    ∷ said calm today (closed_at 1010000 ++ quoted 0 990000)
    -- no row has a weight: yesterday alone; BID is yesterday's price; ASK is; BID is above it
    ∷ said calm today []
    ∷ said calm today (quoted 1000000 0)
    ∷ said calm today (quoted 0 1000000)
    ∷ said calm today (quoted 1010000 0)
    -- the outside bid is above the close, with UseEXTERNAL yes and no; it is the close; the ask is below it, yes and no
    ∷ said (outside 1 1020000 0) today (closed_at 1010000)
    ∷ said (outside 0 1020000 0) today (closed_at 1010000)
    ∷ said (outside 1 1010000 0) today (closed_at 1010000)
    ∷ said (outside 1 0 990000) today (closed_at 1010000)
    ∷ said (outside 0 0 990000) today (closed_at 1010000)
    -- no row: the outside bid is yesterday's price, with UseEXTERNAL yes and no; the outside ask is
    ∷ said (outside 1 1000000 0) today []
    ∷ said (outside 0 1000000 0) today []
    ∷ said (outside 1 0 1000000) today []
    ∷ []

pub prices_are : prices
    ≡ (0 ∷ 0 ∷ 1 ∷ 2 ∷ 2 ∷ 4 ∷ 2 ∷ 2 ∷ 2 ∷ [])
    ∷ (0 ∷ 0 ∷ 1 ∷ 2 ∷ 2 ∷ 4 ∷ 2 ∷ 2 ∷ 2 ∷ [])
    ∷ (0 ∷ 0 ∷ 1 ∷ 2 ∷ 2 ∷ 4 ∷ 2 ∷ 2 ∷ 2 ∷ [])
    ∷ (0 ∷ 0 ∷ 1 ∷ 3 ∷ 2 ∷ 4 ∷ 2 ∷ 2 ∷ 2 ∷ [])
    ∷ (0 ∷ 0 ∷ 2 ∷ 2 ∷ 2 ∷ 4 ∷ 2 ∷ 2 ∷ 2 ∷ [])
    ∷ (0 ∷ 0 ∷ 2 ∷ 2 ∷ 2 ∷ 4 ∷ 2 ∷ 2 ∷ 2 ∷ [])
    ∷ (0 ∷ 0 ∷ 3 ∷ 2 ∷ 2 ∷ 4 ∷ 2 ∷ 2 ∷ 2 ∷ [])
    ∷ (0 ∷ 0 ∷ 4 ∷ 3 ∷ 2 ∷ 4 ∷ 2 ∷ 2 ∷ 2 ∷ [])
    ∷ (0 ∷ 0 ∷ 2 ∷ 3 ∷ 2 ∷ 4 ∷ 2 ∷ 2 ∷ 2 ∷ [])
    ∷ (0 ∷ 0 ∷ 3 ∷ 3 ∷ 2 ∷ 4 ∷ 2 ∷ 2 ∷ 2 ∷ [])
    ∷ (0 ∷ 0 ∷ 2 ∷ 2 ∷ 2 ∷ 4 ∷ 2 ∷ 2 ∷ 2 ∷ [])
    ∷ (0 ∷ 0 ∷ 2 ∷ 2 ∷ 2 ∷ 4 ∷ 2 ∷ 2 ∷ 2 ∷ [])
    ∷ (0 ∷ 0 ∷ 1 ∷ 2 ∷ 2 ∷ 4 ∷ 2 ∷ 2 ∷ 2 ∷ [])
    ∷ (0 ∷ 0 ∷ 1 ∷ 2 ∷ 2 ∷ 4 ∷ 2 ∷ 2 ∷ 2 ∷ [])
    ∷ (0 ∷ 0 ∷ 3 ∷ 2 ∷ 2 ∷ 4 ∷ 2 ∷ 2 ∷ 2 ∷ [])
    ∷ (0 ∷ 0 ∷ 1 ∷ 2 ∷ 2 ∷ 4 ∷ 2 ∷ 2 ∷ 2 ∷ [])
    ∷ (0 ∷ 0 ∷ 2 ∷ 3 ∷ 2 ∷ 4 ∷ 2 ∷ 2 ∷ 2 ∷ [])
    ∷ (0 ∷ 0 ∷ 4 ∷ 3 ∷ 2 ∷ 4 ∷ 2 ∷ 2 ∷ 2 ∷ [])
    ∷ (0 ∷ 0 ∷ 3 ∷ 3 ∷ 2 ∷ 4 ∷ 2 ∷ 2 ∷ 2 ∷ [])
    ∷ []
unfolding prices
prices_are = refl

-- ---- the weight, the replacement and the tentative rate

-- day 4 after two holidays: the weight is 0, and the volatility stays
unfoldable pub rested : List ℤ
rested = pos 4 ∷ pos 2 ∷ []

-- case 7's security: "Earlier prices 300,000,000", its last rates at their minima
unfoldable pub seventh : List ℤ
unfolding z_record z_numbers
seventh = z_record but (p1_at, pos 300000000) but (p1_at + 1, pos 300000000) but (rates_at, pos 500)

-- Z with a volatility and a tentative rate, after a last rate S_1
unfoldable pub restless : (s s1 tentative : ℕ) → List ℤ
unfolding z_record z_numbers
restless s s1 tentative = z_record but (s_at, pos s) but (rates_at, pos s1) but (tentative_at, pos tentative)

-- Z with a tentative rate of an age and a volatility
unfoldable pub aged : (tentative age s : ℕ) → List ℤ
unfolding z_record z_numbers
aged tentative age s = z_record but (tentative_at, pos tentative) but (age_at, pos age) but (s_at, pos s)

pub changes : List (List ℕ)
unfolding said today rested seventh restless aged closed_at z_record z_numbers
changes =
    -- case 7: r is 20,001, a third of a millionth over s; a price of 306,000,000 is not; two holidays come first
    said seventh today (closed_at 306000100)
    ∷ said seventh today (closed_at 306000000)
    ∷ said seventh rested (closed_at 306000100)
    -- "on a tie x is the one chosen": r is 10,000, y 3,334, and x is 3,333, then 3,334; then r is not above 100·S_1
    ∷ said (restless 1109 99 0) today (closed_at 1010000)
    ∷ said (restless 1110 99 0) today (closed_at 1010000)
    ∷ said (restless 1109 100 0) today (closed_at 1010000)
    -- case 9: t is 100; age 3 waits, and age 4 falls, where both hold
    ∷ said (aged 700 3 3333) rested (closed_at 1000000)
    ∷ said (aged 700 4 3333) rested (closed_at 1000000)
    -- t is a step below 200, at it, at it, and a step above
    ∷ said (aged 200 3 3333) rested (closed_at 1000000)
    ∷ said (aged 200 3 3334) rested (closed_at 1000000)
    ∷ said (aged 200 3 6666) rested (closed_at 1000000)
    ∷ said (aged 200 3 6667) rested (closed_at 1000000)
    -- W-202: y is chosen, and t is 100, of the move, where the t of y, 300·3,334, is 200; x is chosen, and t is 200
    ∷ said (restless 1109 99 100) today (closed_at 1010000)
    ∷ said (restless 1110 99 100) today (closed_at 1010000)
    ∷ []

pub changes_are : changes
    ≡ (0 ∷ 0 ∷ 1 ∷ 2 ∷ 2 ∷ 1 ∷ 1 ∷ 1 ∷ 1 ∷ [])
    ∷ (0 ∷ 0 ∷ 1 ∷ 3 ∷ 2 ∷ 4 ∷ 1 ∷ 1 ∷ 1 ∷ [])
    ∷ (0 ∷ 0 ∷ 1 ∷ 1 ∷ 2 ∷ 4 ∷ 1 ∷ 1 ∷ 1 ∷ [])
    ∷ (0 ∷ 0 ∷ 1 ∷ 2 ∷ 1 ∷ 1 ∷ 2 ∷ 2 ∷ 2 ∷ [])
    ∷ (0 ∷ 0 ∷ 1 ∷ 2 ∷ 2 ∷ 1 ∷ 2 ∷ 2 ∷ 2 ∷ [])
    ∷ (0 ∷ 0 ∷ 1 ∷ 2 ∷ 2 ∷ 1 ∷ 2 ∷ 2 ∷ 2 ∷ [])
    ∷ (0 ∷ 0 ∷ 1 ∷ 1 ∷ 2 ∷ 3 ∷ 1 ∷ 1 ∷ 1 ∷ [])
    ∷ (0 ∷ 0 ∷ 1 ∷ 1 ∷ 2 ∷ 2 ∷ 1 ∷ 1 ∷ 1 ∷ [])
    ∷ (0 ∷ 0 ∷ 1 ∷ 1 ∷ 2 ∷ 3 ∷ 2 ∷ 2 ∷ 2 ∷ [])
    ∷ (0 ∷ 0 ∷ 1 ∷ 1 ∷ 2 ∷ 4 ∷ 2 ∷ 2 ∷ 2 ∷ [])
    ∷ (0 ∷ 0 ∷ 1 ∷ 1 ∷ 2 ∷ 4 ∷ 2 ∷ 2 ∷ 2 ∷ [])
    ∷ (0 ∷ 0 ∷ 1 ∷ 1 ∷ 2 ∷ 1 ∷ 2 ∷ 2 ∷ 2 ∷ [])
    ∷ (0 ∷ 0 ∷ 1 ∷ 2 ∷ 1 ∷ 4 ∷ 2 ∷ 2 ∷ 2 ∷ [])
    ∷ (0 ∷ 0 ∷ 1 ∷ 2 ∷ 2 ∷ 1 ∷ 2 ∷ 2 ∷ 2 ∷ [])
    ∷ []
unfolding changes
changes_are = refl

-- ---- the rate of a level

-- Z without liq, at a tentative rate: it waits, and the requirements of the levels are it, sqrt(5/2) times it and twice
-- it. Its minima are 500, a second and a third, its maximum is a fourth number
levelled : (second third most tentative : ℕ) → List ℤ
unfolding calm
levelled second third most tentative =
    calm but (minima_at + 1, pos second) but (minima_at + 2, pos third) but (minima_at + 3, pos most)
    but (tentative_at, pos tentative)

pub levels : List (List ℕ)
unfolding said calm rested levelled closed_at z_record z_numbers
levels =
    -- 500, 790.6, 1,000: the first is its minimum, and the requirement is named
    said (levelled 700 900 4000 500) rested (closed_at 1000000)
    -- 400, 632.5, 800: the minimum is higher, then the least multiple is the minimum, then it is lower
    ∷ said (levelled 700 900 4000 400) rested (closed_at 1000000)
    -- 2,000, 3,162.3, 4,000: the last is the maximum; then 4,200 exceeds it
    ∷ said (levelled 700 900 4000 2000) rested (closed_at 1000000)
    ∷ said (levelled 700 900 4000 2100) rested (closed_at 1000000)
    -- 400, 632.5, 800 under a maximum of 700, which two minima are: all three are equal, then 800 exceeds it
    ∷ said (levelled 700 700 700 400) rested (closed_at 1000000)
    -- isEWMA no: the minimum, though the requirement is equal
    ∷ said (levelled 700 900 4000 500 but (ewma_at, pos 0)) rested (closed_at 1000000)
    ∷ []

pub levels_are : levels
    ≡ (0 ∷ 0 ∷ 1 ∷ 1 ∷ 2 ∷ 3 ∷ 1 ∷ 1 ∷ 1 ∷ [])
    ∷ (0 ∷ 0 ∷ 1 ∷ 1 ∷ 2 ∷ 3 ∷ 2 ∷ 1 ∷ 2 ∷ [])
    ∷ (0 ∷ 0 ∷ 1 ∷ 1 ∷ 2 ∷ 3 ∷ 1 ∷ 1 ∷ 1 ∷ [])
    ∷ (0 ∷ 0 ∷ 1 ∷ 1 ∷ 2 ∷ 3 ∷ 1 ∷ 1 ∷ 3 ∷ [])
    ∷ (0 ∷ 0 ∷ 1 ∷ 1 ∷ 2 ∷ 3 ∷ 2 ∷ 1 ∷ 2 ∷ [])
    ∷ (0 ∷ 0 ∷ 1 ∷ 0 ∷ 0 ∷ 0 ∷ 2 ∷ 2 ∷ 2 ∷ [])
    ∷ []
unfolding levels
levels_are = refl

-- ---- what is at fault

-- a row without a central rate; a row whose price in roubles is 2·10^10
bare : List ℤ
unfolding closed_at
bare = closed_at 1000000 but (central_at, pos 0)

high : List ℤ
unfolding closed_at
high = closed_at 10000000000 but (central_at, pos 20000)

-- day 4 with three terms of so many days each, whose repo bands are 99.99 per cent
termed : (first second third : ℕ) → List ℤ
termed first second third =
    pos 4 ∷ pos 2 ∷ pos 0 ∷ pos first ∷ pos 9999 ∷ pos 9999 ∷ pos second ∷ pos 9999 ∷ pos 9999 ∷ pos third ∷ pos 9999
    ∷ pos 9999 ∷ []

pub refusals : List (List ℕ)
unfolding said calm today quoted bare high termed closed_at z_record z_numbers
refusals =
    -- 6: the third row; a row before a term; numbers that are no whole rows leave the second term, or none; a day
    said calm today (closed_at 1000000 ++ closed_at 1000000 ++ bare)
    ∷ said calm (termed 31 31 31) (bare ++ bare)
    ∷ said calm (termed 30 31 31) (pos 0 ∷ bare)
    ∷ said calm (termed 30 30 30) (pos 0 ∷ bare)
    ∷ said calm (pos 1000001 ∷ []) (closed_at 1000000)
    -- 16: the second row; 7: the second row; 7 of the evaluation itself, which is 0 on the grid
    ∷ said calm today (closed_at 1000000 ++ quoted 1000001 1000000)
    ∷ said calm today (closed_at 1000000 ++ high)
    ∷ said calm today (closed_at 4)
    -- 9: the second term, also where the third is crossed too; 8, 5 and 1 have none at fault
    ∷ said (calm but (pchmax_at, pos 0)) (termed 0 30 30) (closed_at 1000000)
    ∷ said calm today (closed_at 3000000)
    ∷ said calm (pos 3 ∷ []) (closed_at 1000000)
    ∷ said (calm but (age_at, pos 251)) today (closed_at 1000000)
    ∷ []

-- no figure has a reason
abbrev refused : (numbers : List ℕ) → List ℕ
refused numbers = numbers ++ 0 ∷ 0 ∷ 0 ∷ 0 ∷ 0 ∷ 0 ∷ 0 ∷ []

pub refusals_are : refusals
    ≡ refused (6 ∷ 1 ∷ 3 ∷ [])
    ∷ refused (6 ∷ 1 ∷ 1 ∷ [])
    ∷ refused (6 ∷ 2 ∷ 1 ∷ [])
    ∷ refused (6 ∷ 0 ∷ [])
    ∷ refused (6 ∷ 0 ∷ [])
    ∷ refused (16 ∷ 1 ∷ 2 ∷ [])
    ∷ refused (7 ∷ 1 ∷ 2 ∷ [])
    ∷ refused (7 ∷ 0 ∷ [])
    ∷ refused (9 ∷ 2 ∷ 1 ∷ [])
    ∷ refused (8 ∷ 0 ∷ [])
    ∷ refused (5 ∷ 0 ∷ [])
    ∷ refused (1 ∷ 0 ∷ [])
    ∷ []
unfolding refusals
refusals_are = refl
