-- W-213: what the lines of `InOrder` lean on. Each case takes away one condition, and the line that leans on it fails:
-- the order of the statics and their steps (rates and ranges), the grid (ranges, and the evaluation within a band), the
-- refusal 9 (bands), repo limits on either side of 0 (the evaluation within a band), the fifty moves of 12 (the
-- greatest limit).
-- It may use the calls of the desk, Order, and the values of PinnedValues.
use Rattle.std.specs.Prelude.{◌≡◌, refl, true, false, List, [], ◌∷◌, map, ℕ, ◌+◌, ◌%◌, ℤ, pos, negsuc, leb}
use Rattle.paper.specs.declared.Admission.{Admission}
use Rattle.paper.specs.declared.Day.{Day}
use Rattle.paper.specs.declared.Rate.{Rate}
use Rattle.paper.specs.declared.Record.{Record}
use Rattle.paper.specs.declared.Statics.{Statics}
use Rattle.paper.specs.declared.Limits.{Limits}
use Rattle.paper.specs.Numbers.{price_most, limit_most, rate_most}
use Rattle.paper.specs.Ranges.{given_of, statics_of, valid_statics, no_term, is_live, band_at}
use Rattle.paper_desk.specs.Rates.{figures_of}
use Rattle.paper_desk.specs.Limits.{range_of, band_of}
use Rattle.paper_desk.specs.Desk.{admit, evaluate, move, read, open_evening, no_moves, admitted, evaluated, run}
use Rattle.paper_desk.specs.Sequences.{range_after}
use Rattle.paper.specs.PinnedValues.{◌but◌, lot_at, minima_at, pchmax_at, pclmax_at, monitoring_at, ewma_at}
use Rattle.paper.specs.PinnedValues.{admission_from, day_from, z_numbers}
use Rattle.paper_desk.specs.PinnedSequence.{answers, numbers, slots}
use Rattle.demands.specs.Order.{never_falls, ranges_around, slot_at}

-- the statics that a row of numbers spells; the places of rh_1 to rh_3, x_pr and shift in it
statics_from : (xs : List ℤ) → Statics
unfolding answers given_of
statics_from xs = statics_of (given_of xs)

abbrev rh_at : ℕ
rh_at = 6

abbrev xpr_at : ℕ
xpr_at = 14

abbrev shift_at : ℕ
shift_at = 15

-- ---- a live record

-- Z with isEWMA no and a PcH_max, admitted; a day without rows, so that its evaluation is the last one, 1,000,000, with
-- a term of 30 days at two repo limits
pub security : (pchmax : ℕ) → Admission
unfolding z_numbers admission_from
security pchmax = admission_from (z_numbers but (ewma_at, pos 0) but (pchmax_at, pos pchmax))

pub day_with : (low high : ℤ) → Day
unfolding day_from
day_with low high = day_from (pos 4 ∷ pos 0 ∷ pos 0 ∷ pos 30 ∷ low ∷ high ∷ [])

-- after that admission and evaluation, one upper move and two lower ones, the opening of the evening and a read
pub moving : List Record
unfolding security day_with answers slots
moving =
    run
    (admit (security 2000) ∷ evaluate 7 (day_with (negsuc 729) (pos 1460)) [] ∷ move 7 0 ∷ move 7 1 ∷ move 7 1
    ∷ open_evening 7 ∷ read 7 ∷ [])
    (slots 1)

-- its slot holds a live record, so that the theorem speaks of something. The rates are the minima 500, 700 and 900, and
-- delta is 12,500. 0 lies between the repo limits of its term: 0.95·0.994 and 1.0375·1.012 times the evaluation
pub moving_is : (is_live (slot_at moving 0).standing ≡ true)
    × (ranges_around (slot_at moving 0)
    ≡ 885000 ∷ 905000 ∷ 925000 ∷ 1000000 ∷ 1062500 ∷ 1082500 ∷ 1102500 ∷ [])
    × (band_at (slot_at moving 0) 0 ≡ record { lower = 944300; upper = 1049950 })
unfolding moving
moving_is = (refl, refl, refl)

-- ---- the rates, and so the ranges, ascend by the order of the statics

-- Z with minima of 100 and other rh_1 to rh_3; Z with isEWMA no and other minima; Z with another S_max
pub with_days : (rh1 rh2 rh3 : ℕ) → Statics
unfolding z_numbers statics_from
with_days rh1 rh2 rh3 =
    statics_from
    (z_numbers but (minima_at, pos 100) but (minima_at + 1, pos 100) but (minima_at + 2, pos 100)
    but (rh_at, pos rh1) but (rh_at + 1, pos rh2) but (rh_at + 2, pos rh3))

pub with_minima : (min1 min2 min3 : ℕ) → Statics
unfolding z_numbers statics_from
with_minima min1 min2 min3 =
    statics_from
    (z_numbers but (ewma_at, pos 0) but (minima_at, pos min1) but (minima_at + 1, pos min2) but (minima_at + 2, pos min3))

pub with_maximum : (smax : ℕ) → Statics
unfolding z_numbers statics_from
with_maximum smax = statics_from (z_numbers but (minima_at + 3, pos smax))

-- the rates of the three levels after a day without a move, from a tentative rate of 600
pub rates_with : Statics → List ℕ
unfolding answers
rates_with st = map (λ (x : Rate). x.bp) (figures_of st 0 0 0 0 0 (record { bp = 600; age = 0 })).rates

-- the upper range limits of a price of 1,000,000 at those rates
pub upper_ranges_with : Statics → List ℕ
unfolding answers rates_with
upper_ranges_with st = map (λ (rate : ℕ). (range_of st 1000000 rate).upper) (rates_with st)

-- rh_3 of 4 days below the 5 of rh_2: 650·sqrt(2/2) is 650, 650·sqrt(5/2) 1,027.8 and 650·sqrt(4/2) 919.3
pub days_order_needed : (valid_statics (with_days 2 5 4) ≡ false)
    × (rates_with (with_days 2 5 4) ≡ 700 ∷ 1100 ∷ 1000 ∷ []) × (never_falls (rates_with (with_days 2 5 4)) ≡ false)
    × (upper_ranges_with (with_days 2 5 4) ≡ 1070000 ∷ 1110000 ∷ 1100000 ∷ [])
unfolding with_days rates_with upper_ranges_with never_falls
days_order_needed = (refl, refl, refl, refl)

-- rh_1 of 5 days above the 4 of rh_2: 650·sqrt(5/5) is 650, 650·sqrt(4/5) 581.4 and 650·sqrt(8/5) 822.2
pub first_days_needed : (valid_statics (with_days 5 4 8) ≡ false)
    × (rates_with (with_days 5 4 8) ≡ 700 ∷ 600 ∷ 900 ∷ []) × (never_falls (rates_with (with_days 5 4 8)) ≡ false)
    × (upper_ranges_with (with_days 5 4 8) ≡ 1070000 ∷ 1060000 ∷ 1090000 ∷ [])
unfolding with_days rates_with upper_ranges_with never_falls
first_days_needed = (refl, refl, refl, refl)

-- at 5 days each the statics are in range, so that nothing else was wrong with them
pub days_in_order : (valid_statics (with_days 2 5 5) ≡ true) × (rates_with (with_days 2 5 5) ≡ 700 ∷ 1100 ∷ 1100 ∷ [])
    × (valid_statics (with_days 5 5 8) ≡ true) × (rates_with (with_days 5 5 8) ≡ 700 ∷ 700 ∷ 900 ∷ [])
unfolding with_days rates_with
days_in_order = (refl, refl, refl, refl)

-- S_3_min of 600 below the 700 of S_2_min, and both again in order
pub minima_order_needed : (valid_statics (with_minima 500 700 600) ≡ false)
    × (rates_with (with_minima 500 700 600) ≡ 500 ∷ 700 ∷ 600 ∷ [])
    × (never_falls (rates_with (with_minima 500 700 600)) ≡ false)
unfolding with_minima rates_with never_falls
minima_order_needed = (refl, refl, refl)

pub minima_in_order : (valid_statics (with_minima 500 700 700) ≡ true)
    × (rates_with (with_minima 500 700 700) ≡ 500 ∷ 700 ∷ 700 ∷ [])
unfolding with_minima rates_with
minima_in_order = (refl, refl)

-- S_1_min of 550, in order and no multiple of h: with isEWMA no it is the rate of level 1, which is then none either
pub minimum_step_needed : (valid_statics (with_minima 550 700 900) ≡ false)
    × (rates_with (with_minima 550 700 900) ≡ 550 ∷ 700 ∷ 900 ∷ []) × (550 % (with_minima 550 700 900).h ≡ 50)
unfolding with_minima rates_with
minimum_step_needed = (refl, refl, refl)

-- 600 is one
pub minimum_on_its_step : (valid_statics (with_minima 600 700 900) ≡ true)
    × (rates_with (with_minima 600 700 900) ≡ 600 ∷ 700 ∷ 900 ∷ [])
unfolding with_minima rates_with
minimum_on_its_step = (refl, refl)

-- S_max of 800 below the 900 of S_3_min: the rate of level 3 is below its minimum. S_max of 1,250, no multiple of h:
-- the requirement 650·sqrt(8/2) is 1,300, and the rate of level 3 is no multiple of h either
pub maximum_needed : (valid_statics (with_maximum 800) ≡ false) × (rates_with (with_maximum 800) ≡ 700 ∷ 800 ∷ 800 ∷ [])
    × (valid_statics (with_maximum 1250) ≡ false) × (rates_with (with_maximum 1250) ≡ 700 ∷ 1100 ∷ 1250 ∷ [])
unfolding with_maximum rates_with
maximum_needed = (refl, refl, refl, refl)

-- S_max of 900 is in order and whole steps
pub maximum_in_order : (valid_statics (with_maximum 900) ≡ true) × (rates_with (with_maximum 900) ≡ 700 ∷ 900 ∷ 900 ∷ [])
unfolding with_maximum rates_with
maximum_in_order = (refl, refl)

-- ---- the ranges and the bands hold the evaluation by the grid

-- Z with lot 1, so that the grid is 100 units, Monitoring no or yes, a PcH_max and PcL_max 0
pub coarse : (monitoring pchmax : ℕ) → Statics
unfolding z_numbers statics_from
coarse monitoring pchmax =
    statics_from
    (z_numbers but (lot_at, pos 1) but (monitoring_at, pos monitoring) but (pchmax_at, pos pchmax) but (pclmax_at, pos 0))

-- the lower limit, the price and the upper limit of the range at a rate of 0, and of the band of a term of no days,
-- whose repo limits are 0
pub range_around : (p : ℕ) → List ℕ
unfolding coarse answers
range_around p = let x : Limits = range_of (coarse 1 0) p 0 in x.lower ∷ p ∷ x.upper ∷ []

pub band_around : (monitoring pchmax p : ℕ) → List ℕ
unfolding coarse answers
band_around monitoring pchmax p =
    let x : Limits = band_of (coarse monitoring pchmax) p 0 no_moves no_term in x.lower ∷ p ∷ x.upper ∷ []

-- a range limit passes 149 and 150, which are no multiples of 100. With Monitoring no and PcH_max 5,000 the band goes
-- from 150 up, to 200, to 225 down, to 200: it is not crossed, so that 9 would not refuse it, and leaves 150 out
pub grid_needed : (range_around 149 ≡ 100 ∷ 149 ∷ 100 ∷ []) × (range_around 150 ≡ 200 ∷ 150 ∷ 200 ∷ [])
    × (band_around 0 5000 150 ≡ 200 ∷ 150 ∷ 200 ∷ [])
unfolding range_around band_around
grid_needed = (refl, refl, refl)

-- with PcH_max 0 the band of 150 is crossed: without the grid a term with 0 between its repo limits would need 9 too
pub grid_needed_for_bands : band_around 1 0 150 ≡ 200 ∷ 150 ∷ 100 ∷ []
unfolding band_around
grid_needed_for_bands = refl

-- the statics are in range, and no limit passes 200, which is on the grid
pub on_the_grid : (valid_statics (coarse 1 0) ≡ true) × (valid_statics (coarse 0 5000) ≡ true)
    × (range_around 200 ≡ 200 ∷ 200 ∷ 200 ∷ []) × (band_around 1 0 200 ≡ 200 ∷ 200 ∷ 200 ∷ [])
    × (band_around 0 5000 200 ≡ 200 ∷ 200 ∷ 300 ∷ [])
unfolding coarse range_around band_around
on_the_grid = (refl, refl, refl, refl, refl)

-- ---- the bands are in order by the refusal 9, and hold the evaluation where 0 lies between their repo limits

-- the numbers that an admission and that evaluation answer
pub numbers_answered : (pchmax : ℕ) → (low high : ℤ) → List ℕ
unfolding security day_with numbers slots
numbers_answered pchmax low high = numbers (admit (security pchmax) ∷ evaluate 7 (day_with low high) [] ∷ []) (slots 1)

-- the lower limit of the term's band, the evaluation and the upper limit, in the record that the evaluation would write
pub written : (pchmax : ℕ) → (low high : ℤ) → List ℕ
unfolding security day_with answers
written pchmax low high =
    let r : Record = evaluated (admitted (security pchmax)) (day_with low high) [] in
    (band_at r 0).lower ∷ r.p1.units ∷ (band_at r 0).upper ∷ []

-- PcH_max 0 and repo limits of 99.99 per cent: the upper limit is the evaluation, the lower one 1.0551 times it.
-- The day is answered 9; without 9 its band would be written so, the lower limit above the upper one
pub nine_needed : (numbers_answered 0 (pos 9999) (pos 9999) ≡ 0 ∷ 9 ∷ [])
    × (written 0 (pos 9999) (pos 9999) ≡ 1055130 ∷ 1000000 ∷ 1000000 ∷ [])
unfolding numbers_answered written
nine_needed = (refl, refl)

-- both repo limits above 0: the day is accepted, and its evaluation lies below the band
pub above_zero_outside : (numbers_answered 2000 (pos 9999) (pos 9999) ≡ 0 ∷ 0 ∷ [])
    × (written 2000 (pos 9999) (pos 9999) ≡ 1055130 ∷ 1000000 ∷ 1109230 ∷ [])
unfolding numbers_answered written
above_zero_outside = (refl, refl)

-- both below 0: the evaluation lies above the band
pub below_zero_outside : (numbers_answered 2000 (negsuc 9998) (negsuc 9998) ≡ 0 ∷ 0 ∷ [])
    × (written 2000 (negsuc 9998) (negsuc 9998) ≡ 894880 ∷ 1000000 ∷ 940760 ∷ [])
unfolding numbers_answered written
below_zero_outside = (refl, refl)

-- ---- no limit exceeds the greatest by the fifty moves of 12

-- x_pr 0.5 and shift 1, the ends of their ranges, at which a move shifts by 4·P
pub steepest : Statics
unfolding z_numbers statics_from
steepest = statics_from (z_numbers but (xpr_at, pos 50) but (shift_at, pos 100))

-- the upper range limit of the greatest price at the greatest rate after upper moves
pub upper_after : (moves : ℕ) → ℕ
unfolding steepest answers range_after
upper_after moves = (range_after steepest price_most rate_most rate_most (record { upper = moves; lower = 0 })).upper

-- fifty moves reach the greatest limit to the unit, so that a fifty-first would pass it
pub fifty_moves_needed : (upper_after 50 ≡ limit_most) × (leb (upper_after 51) limit_most ≡ false)
unfolding upper_after
fifty_moves_needed = (refl, refl)
