-- Document 01, "Numbers a member may see": the order of refusal of each call, and each number on both sides of its
-- condition, on tables that a line spells out. Each answer is the first of all the numbers that apply. Before them, which
-- ask each thing is that the code is asked.
-- It may use every definition of document 01, and the values of PinnedValues.
use Rattle.std.specs.Prelude.{◌≡◌, refl, List, [], ◌∷◌, ◌++◌, map, ℕ, zero, suc, ℤ, pos}
use Rattle.std.specs.Float.{binary64}
use Rattle.std.specs.Float.Ieee.{of_bits}
use Rattle.paper.specs.declared.Notice.{Notice}
use Rattle.paper.specs.declared.Notice.TheVariants.{Ask}
use Rattle.paper.specs.declared.Outside.{Outside}
use Rattle.paper.specs.declared.Quote.{Quote}
use Rattle.paper.specs.declared.AskedDay.{AskedDay}
use Rattle.paper.specs.declared.AskedAbout.TheVariants as asked
use Rattle.paper.specs.declared.Record.{Record}
use Rattle.paper.specs.declared.Limits.{Limits}
use Rattle.paper.specs.Lists.{those}
use Rattle.paper.specs.Terms.{day_of}
use Rattle.paper_desk.specs.Limits.{crossed}
use Rattle.paper.specs.Verdicts.{number_of, Check}
use Rattle.paper_desk.specs.External.{together, notice}
use Rattle.paper_desk.specs.Desk.{blank, Call, admit, evaluate, quote, move, read, open_evening, receive, checks_of}
use Rattle.paper_desk.specs.Desk.{run, evaluating, quoting, moving, reading, opening, receiving, ask_of}
use Rattle.paper.specs.PinnedValues.{◌but◌, minima_at, p1_at, central_at, row_bid_at, row_ask_at, volume_at, aup_at, adown_at}
use Rattle.paper.specs.PinnedValues.{liq_at, pchmax_at, monitoring_at, ewma_at, id_at, day_at, s_at, tentative_at, live_at}
use Rattle.paper.specs.PinnedValues.{age_at, upper_moves_at, lower_moves_at, second_at, session_at, autochange_at}
use Rattle.paper.specs.PinnedValues.{admission_from, record_from, day_from, quote_from, closed_at, z_numbers, z_record, yes_no}
use Rattle.paper_desk.specs.PinnedSequence.{numbers}

-- ---- what the code is asked (`AskedAbout`)

-- each is the ask of its name, and an evaluation alone takes the rows
pub asks_are : (d : AskedDay) (q : Quote) (side : ℕ) (sent : Outside) (n : Notice) (rows : List ℤ)
    → (ask_of (asked.Evaluate d) rows ≡ evaluating (day_of d) rows)
    × (ask_of (asked.Quote q) rows ≡ quoting q)
    × (ask_of (asked.Move side) rows ≡ moving side)
    × (ask_of asked.Read rows ≡ reading)
    × (ask_of asked.Open rows ≡ opening)
    × (ask_of (asked.Receive sent) rows ≡ receiving (together sent))
    × (ask_of (asked.Notify n) rows ≡ receiving (notice n))
unfolding ask_of
asks_are d q side sent n rows = (refl, refl, refl, refl, refl, refl, refl)

-- ---- "First that applies"

-- the numbers of all the checks of a call that apply, in the order in which they are made
applying : Call → List Record → List ℕ
unfolding numbers
applying c t = map (λ (x : Check). number_of x.verdict) (those (λ (x : Check). x.applies) (checks_of c t))

-- the number that the call answers, and then those that apply
judgement : Call → List Record → List ℕ
unfolding applying
judgement c t = numbers (c ∷ []) t ++ applying c t

-- Z with PcH_max 0, weights and volatility 0, and neither liq nor a tentative rate: no move changes its figures
calm : List ℤ
unfolding z_record
calm =
    z_record but (pchmax_at, pos 0) but (aup_at, pos 0) but (adown_at, pos 0) but (liq_at, pos 0) but (s_at, pos 0)
    but (tentative_at, pos 0) but (live_at, pos 1)

-- Z admitted only, Monitoring no, with a last quote second and all the moves of the lower side used up, in the evening
-- with both moves of its maximum made
idle : List ℤ
unfolding z_record
idle =
    z_record but (monitoring_at, pos 0) but (second_at, pos 100) but (lower_moves_at, pos 50) but (session_at, pos 3)

-- a damaged record: its age is past every age
damaged : (row : List ℤ) → List ℤ
damaged row = row but (age_at, pos 251)

holding : (row : List ℤ) → List Record
unfolding record_from
holding row = record_from row ∷ []

-- a day's numbers: the day, b 2, m, and a term of 30 days whose repo band makes the bands of `calm` cross
crossing_day : (day m : ℕ) → List ℤ
crossing_day day m = pos day ∷ pos 2 ∷ pos m ∷ pos 30 ∷ pos 9999 ∷ pos 9999 ∷ []

-- a row whose price in roubles is 2·10^10
row_too_high : List ℤ
unfolding closed_at
row_too_high = closed_at 10000000000 but (central_at, pos 20000)

-- the row with a bid and an ask
with_prices : (bid ask : ℕ) → (row : List ℤ) → List ℤ
with_prices bid ask row = row but (row_bid_at, pos bid) but (row_ask_at, pos ask)

-- the row whose price is too high, with a bid one above its ask
crossed_too_high : List ℤ
unfolding with_prices row_too_high
crossed_too_high = with_prices 10000000000 9999999999 row_too_high

-- a quote of neither bid nor ask at a second, in a term
quote_at : (second term : ℕ) → Call
unfolding quote_from
quote_at second term = quote 7 (quote_from (pos second ∷ pos term ∷ []))

-- a notice of the outside ask with these bits
ask_of_bits : (bits : ℕ) → Call
unfolding of_bits
ask_of_bits bits = receive 7 (notice (Ask (of_bits binary64 bits)))

-- in each call a line takes away the first number that applies in the line before it
pub orders : List (List ℕ)
unfolding judgement calm idle damaged holding crossing_day crossed_too_high day_from quote_at admission_from ask_of_bits
orders =
    -- "evaluate 1, 6, 5, 7, 8, 9"; W-205: "16, after 6 and before 5"
    judgement (evaluate 7 (day_from (crossing_day 3 11)) crossed_too_high) (holding (damaged calm))
    ∷ judgement (evaluate 7 (day_from (crossing_day 3 11)) crossed_too_high) (holding calm)
    ∷ judgement (evaluate 7 (day_from (crossing_day 3 10)) crossed_too_high) (holding calm)
    ∷ judgement (evaluate 7 (day_from (crossing_day 3 10)) row_too_high) (holding calm)
    ∷ judgement (evaluate 7 (day_from (crossing_day 4 10)) row_too_high) (holding calm)
    ∷ judgement (evaluate 7 (day_from (crossing_day 4 10)) (closed_at 2000010)) (holding calm)
    ∷ judgement (evaluate 7 (day_from (crossing_day 4 10)) (closed_at 2000000)) (holding calm)
    ∷ judgement (evaluate 7 (day_from (pos 4 ∷ pos 2 ∷ [])) (closed_at 2000000)) (holding calm)
    -- "quote 1, 6, 10, 11, 13"
    ∷ judgement (quote_at 99 3) (holding (damaged idle))
    ∷ judgement (quote_at 99 3) (holding idle)
    ∷ judgement (quote_at 99 2) (holding idle)
    ∷ judgement (quote_at 99 2) (holding (idle but (live_at, pos 1)))
    ∷ judgement (quote_at 99 2) (holding (idle but (live_at, pos 1) but (monitoring_at, pos 1)))
    ∷ judgement (quote_at 100 2) (holding (idle but (live_at, pos 1) but (monitoring_at, pos 1)))
    -- "move 1, 6, 10, 11, 12"; W-210: "18 .. after 11 and before 12"
    ∷ judgement (move 7 2) (holding (damaged idle))
    ∷ judgement (move 7 2) (holding idle)
    ∷ judgement (move 7 1) (holding idle)
    ∷ judgement (move 7 1) (holding (idle but (live_at, pos 1)))
    ∷ judgement (move 7 1) (holding (idle but (live_at, pos 1) but (monitoring_at, pos 1)))
    ∷ judgement (move 7 1) (holding (idle but (live_at, pos 1) but (monitoring_at, pos 1) but (session_at, pos 2)))
    ∷ judgement (move 7 1)
    (holding (idle but (live_at, pos 1) but (monitoring_at, pos 1) but (session_at, pos 2) but (lower_moves_at, pos 49)))
    -- "admit 4, 2, 3"
    ∷ judgement (admit (admission_from (z_numbers but (day_at, pos 1000001)))) (holding idle)
    ∷ judgement (admit (admission_from z_numbers)) (holding idle)
    ∷ judgement (admit (admission_from (z_numbers but (id_at, pos 8)))) (holding idle)
    ∷ judgement (admit (admission_from (z_numbers but (id_at, pos 8)))) (holding idle ++ (blank ∷ []))
    -- "read 1"
    ∷ judgement (read 7) (holding (damaged idle))
    ∷ judgement (read 7) (holding idle)
    -- W-210, the opening: 1, 10, and "19 .. after 10"
    ∷ judgement (open_evening 7) (holding (damaged idle))
    ∷ judgement (open_evening 7) (holding idle)
    ∷ judgement (open_evening 7) (holding (idle but (live_at, pos 1)))
    ∷ judgement (open_evening 7) (holding (idle but (live_at, pos 1) but (session_at, pos 0)))
    -- W-211: "20 .. on receipt, after 1": the float of zero, and that of 1/32
    ∷ judgement (ask_of_bits 0x0000_0000_0000_0000) (holding (damaged idle))
    ∷ judgement (ask_of_bits 0x0000_0000_0000_0000) (holding idle)
    ∷ judgement (ask_of_bits 0x3fa0_0000_0000_0000) (holding idle)
    ∷ []

pub orders_are : orders
    ≡ (1 ∷ 1 ∷ 6 ∷ 16 ∷ 5 ∷ 7 ∷ 8 ∷ 9 ∷ [])
    ∷ (6 ∷ 6 ∷ 16 ∷ 5 ∷ 7 ∷ 8 ∷ 9 ∷ [])
    ∷ (16 ∷ 16 ∷ 5 ∷ 7 ∷ 8 ∷ 9 ∷ [])
    ∷ (5 ∷ 5 ∷ 7 ∷ 8 ∷ 9 ∷ [])
    ∷ (7 ∷ 7 ∷ 8 ∷ 9 ∷ [])
    ∷ (8 ∷ 8 ∷ 9 ∷ [])
    ∷ (9 ∷ 9 ∷ [])
    ∷ (0 ∷ [])
    ∷ (1 ∷ 1 ∷ 6 ∷ 10 ∷ 11 ∷ 13 ∷ [])
    ∷ (6 ∷ 6 ∷ 10 ∷ 11 ∷ 13 ∷ [])
    ∷ (10 ∷ 10 ∷ 11 ∷ 13 ∷ [])
    ∷ (11 ∷ 11 ∷ 13 ∷ [])
    ∷ (13 ∷ 13 ∷ [])
    ∷ (0 ∷ [])
    ∷ (1 ∷ 1 ∷ 6 ∷ 10 ∷ 11 ∷ 18 ∷ 12 ∷ [])
    ∷ (6 ∷ 6 ∷ 10 ∷ 11 ∷ 18 ∷ 12 ∷ [])
    ∷ (10 ∷ 10 ∷ 11 ∷ 18 ∷ 12 ∷ [])
    ∷ (11 ∷ 11 ∷ 18 ∷ 12 ∷ [])
    ∷ (18 ∷ 18 ∷ 12 ∷ [])
    ∷ (12 ∷ 12 ∷ [])
    ∷ (0 ∷ [])
    ∷ (4 ∷ 4 ∷ 2 ∷ 3 ∷ [])
    ∷ (2 ∷ 2 ∷ 3 ∷ [])
    ∷ (3 ∷ 3 ∷ [])
    ∷ (0 ∷ [])
    ∷ (1 ∷ 1 ∷ [])
    ∷ (0 ∷ [])
    ∷ (1 ∷ 1 ∷ 10 ∷ 19 ∷ [])
    ∷ (10 ∷ 10 ∷ 19 ∷ [])
    ∷ (19 ∷ 19 ∷ [])
    ∷ (0 ∷ [])
    ∷ (1 ∷ 1 ∷ 20 ∷ [])
    ∷ (20 ∷ 20 ∷ [])
    ∷ (0 ∷ [])
    ∷ []
unfolding orders
orders_are = refl

-- ---- each number on both sides of its condition

-- Z live with isEWMA no: an evaluation sets no rate but the minima
plain_z : List ℤ
unfolding z_record
plain_z = z_record but (ewma_at, pos 0) but (live_at, pos 1)

-- the number that an evaluation of day 4 answers to a row, with terms of 0
row_answer : (row numbersOfRow : List ℤ) → List ℕ
unfolding numbers holding day_from
row_answer row numbersOfRow = numbers (evaluate 7 (day_from (pos 4 ∷ pos 2 ∷ [])) numbersOfRow ∷ []) (holding row)

-- the number that an evaluation of day 4 answers to terms of so many days, with RRcL and RRcH alike
term_answer : (row : List ℤ) → (k repo : ℕ) → List ℕ
unfolding numbers holding day_from
term_answer row k repo =
    numbers (evaluate 7 (day_from (pos 4 ∷ pos 0 ∷ pos 0 ∷ pos k ∷ pos repo ∷ pos repo ∷ [])) [] ∷ []) (holding row)

pub conditions : List (List ℕ)
unfolding row_answer term_answer quote_at plain_z calm holding damaged closed_at admission_from yes_no
conditions =
    -- 5 "day not after the last": live since day 3, days 2, 3 and 4; admitted only on day 3, days 3 and 4
    (numbers (evaluate 7 (day_from (pos 2 ∷ [])) [] ∷ []) (holding plain_z)
    ++ numbers (evaluate 7 (day_from (pos 3 ∷ [])) [] ∷ []) (holding plain_z)
    ++ numbers (evaluate 7 (day_from (pos 4 ∷ [])) [] ∷ []) (holding plain_z)
    ++ numbers (evaluate 7 (day_from (pos 3 ∷ [])) [] ∷ []) (holding (plain_z but (live_at, pos 0)))
    ++ numbers (evaluate 7 (day_from (pos 4 ∷ [])) [] ∷ []) (holding (plain_z but (live_at, pos 0))))
    -- and after an evaluation the day is the last: day 4, again 4, then 5
    ∷ numbers
    (evaluate 7 (day_from (pos 4 ∷ [])) []
    ∷ evaluate 7 (day_from (pos 4 ∷ [])) []
    ∷ evaluate 7 (day_from (pos 5 ∷ [])) []
    ∷ [])
    (holding plain_z)
    -- 7 "a rounded row price .. is 0 or above 10^10": a close in roubles of 10^10 and of 1.0001·10^10; a bid of 0.49
    -- and of 0.5 units; an ask of 0.49
    ∷ (row_answer plain_z (closed_at 10000000000 but (central_at, pos 10000))
    ++ row_answer plain_z (closed_at 10000000000 but (central_at, pos 10001))
    ++ row_answer plain_z (pos 0 ∷ pos 4900 ∷ pos 0 ∷ pos 0 ∷ pos 1 ∷ pos 0 ∷ pos 0 ∷ [])
    ++ row_answer plain_z (pos 0 ∷ pos 5000 ∷ pos 0 ∷ pos 0 ∷ pos 1 ∷ pos 0 ∷ pos 0 ∷ [])
    ++ row_answer plain_z (pos 0 ∷ pos 4900 ∷ pos 0 ∷ pos 0 ∷ pos 0 ∷ pos 1 ∷ pos 0 ∷ []))
    -- 7 "or the evaluation, is 0": a close of 4 and of 5 with the grid 10
    ∷ (row_answer plain_z (closed_at 4)
    ++ row_answer plain_z (closed_at 5))
    -- 7 "a rounded row volume is above 10^8": 10^8 roubles, and 10^8 of a currency at 1.0001
    ∷ (row_answer plain_z (closed_at 1000000 but (volume_at, pos 100000000))
    ++ row_answer plain_z (closed_at 990000 but (volume_at, pos 100000000) but (central_at, pos 10001)))
    -- 8 "isEWMA yes and r above 1,000,000": r 1,000,000 and r 1,000,010; isEWMA no and r 1,000,010
    ∷ (row_answer calm (closed_at 2000000)
    ++ row_answer calm (closed_at 2000010)
    ++ row_answer (calm but (ewma_at, pos 0)) (closed_at 2000010))
    -- 9 "a rounded lower band limit above its upper one": one below, bands that touch, one above
    ∷ map (λ (x : Limits). yes_no (crossed x))
    (record { lower = 9; upper = 10 } ∷ record { lower = 10; upper = 10 } ∷ record { lower = 11; upper = 10 } ∷ [])
    -- of an evaluation with S_1 0: with PcH_max 0 the limits touch, and cross
    ∷ (term_answer (plain_z but (minima_at, pos 0) but (pchmax_at, pos 0)) 0 0
    ++ term_answer (plain_z but (minima_at, pos 0) but (pchmax_at, pos 0)) 1 18
    -- W-209 "A band narrower than a grid step may now cross and answers 9.": both limits 1,000,100; both 1,000,004.9;
    -- of P 10, which is a step, 9.75 to 10.25, and with k 30 and a repo rate of 3,650 bp 10.04 to 10.56
    ++ term_answer (plain_z but (minima_at, pos 0)) 1 365
    ++ term_answer (plain_z but (minima_at, pos 0)) 1 18
    ++ term_answer (plain_z but (p1_at, pos 10)) 0 0
    ++ term_answer (plain_z but (p1_at, pos 10)) 30 3650)
    -- 12 "c is 50": of the side that moves, 49 and 50; 50 of the other side
    ∷ (numbers (move 7 0 ∷ move 7 0 ∷ []) (holding (plain_z but (upper_moves_at, pos 49) but (lower_moves_at, pos 50)))
    ++ numbers (move 7 1 ∷ move 7 1 ∷ []) (holding (plain_z but (lower_moves_at, pos 49) but (upper_moves_at, pos 50))))
    -- 13 "second earlier than the security's last accepted quote, in any term": term 0 at 100; terms 1 and 0 at 99;
    -- terms 2 and 0 at 100; term 1 at 101; term 2 at 100
    ∷ numbers
    (quote_at 100 0
    ∷ quote_at 99 1
    ∷ quote_at 99 0
    ∷ quote_at 100 2
    ∷ quote_at 100 0
    ∷ quote_at 101 1
    ∷ quote_at 100 2
    ∷ [])
    (holding plain_z)
    -- 1 "no such id (0 included)": another id, and 0 where a slot is empty
    ∷ numbers (read 8 ∷ read 0 ∷ open_evening 8 ∷ open_evening 0 ∷ []) (holding plain_z ++ (blank ∷ []))
    -- 18 "evening moves not allowed or used up": of two moves the second and a third; Autochange no, in the evening and
    -- in main
    ∷ (numbers (move 7 0 ∷ move 7 0 ∷ []) (holding (plain_z but (session_at, pos 2)))
    ++ numbers (move 7 0 ∷ []) (holding (plain_z but (autochange_at, pos 0) but (session_at, pos 1)))
    ++ numbers (move 7 0 ∷ []) (holding (plain_z but (autochange_at, pos 0))))
    -- 19 "evening opened twice"; 10 "not live": admitted only
    ∷ (numbers (open_evening 7 ∷ open_evening 7 ∷ []) (holding plain_z)
    ++ numbers (open_evening 7 ∷ []) (holding (plain_z but (live_at, pos 0))))
    ∷ []

pub conditions_are : conditions
    ≡ (5 ∷ 5 ∷ 0 ∷ 5 ∷ 0 ∷ [])
    ∷ (0 ∷ 5 ∷ 0 ∷ [])
    ∷ (0 ∷ 7 ∷ 7 ∷ 0 ∷ 7 ∷ [])
    ∷ (7 ∷ 0 ∷ [])
    ∷ (0 ∷ 7 ∷ [])
    ∷ (0 ∷ 8 ∷ 0 ∷ [])
    ∷ (0 ∷ 0 ∷ 1 ∷ [])
    ∷ (0 ∷ 9 ∷ 0 ∷ 9 ∷ 0 ∷ 9 ∷ [])
    ∷ (0 ∷ 12 ∷ 0 ∷ 12 ∷ [])
    ∷ (0 ∷ 13 ∷ 13 ∷ 0 ∷ 0 ∷ 0 ∷ 13 ∷ [])
    ∷ (1 ∷ 1 ∷ 1 ∷ 1 ∷ [])
    ∷ (0 ∷ 18 ∷ 18 ∷ 0 ∷ [])
    ∷ (0 ∷ 19 ∷ 10 ∷ [])
    ∷ []
unfolding conditions
conditions_are = refl

-- ---- 16: document 02, W-205, "A crossed row is a typing error."

-- a row of a board in roubles today, with no trade
board : (bid ask : ℕ) → List ℤ
unfolding with_prices closed_at
board bid ask = with_prices bid ask (closed_at 0 but (volume_at, pos 0))

-- so many boards, none of them crossed
boards : ℕ → List ℤ
unfolding board
boards zero = []
boards (suc count) = board 1000000 1000001 ++ boards count

pub crossed_rows : List (List ℕ)
unfolding row_answer boards plain_z
crossed_rows =
    -- "the bid is above the ask": the bid one below the ask, equal, one above
    (row_answer plain_z (board 999999 1000000)
    ++ row_answer plain_z (board 1000000 1000000)
    ++ row_answer plain_z (board 1000001 1000000))
    -- "both present": the ask missing, the bid missing, both missing
    ∷ (row_answer plain_z (board 1000001 0) ++ row_answer plain_z (board 0 1000000) ++ row_answer plain_z (board 0 0))
    -- "Across boards a bid may stand above an ask": a bid and an ask alone, in either order; two rows with both
    ∷ (row_answer plain_z (board 1000001 0 ++ board 0 1000000)
    ++ row_answer plain_z (board 0 1000000 ++ board 1000001 0)
    ++ row_answer plain_z (board 1000002 1000003 ++ board 1000000 1000001))
    -- of sixteen rows the first, the ninth and the last is crossed; none is
    ∷ (row_answer plain_z (board 2 1 ++ boards 15)
    ++ row_answer plain_z (boards 8 ++ board 2 1 ++ boards 7)
    ++ row_answer plain_z (boards 15 ++ board 2 1)
    ++ row_answer plain_z (boards 16))
    -- the numbers as given: of a currency at 0.4000 both prices are 400,000 roubles; at 0.4900 the ask rounds to 0
    ∷ (row_answer plain_z (board 1000001 1000000 but (central_at, pos 4000))
    ++ row_answer plain_z (board 2 1 but (central_at, pos 4900)))
    ∷ []

pub crossed_rows_are : crossed_rows
    ≡ (0 ∷ 0 ∷ 16 ∷ [])
    ∷ (0 ∷ 0 ∷ 0 ∷ [])
    ∷ (0 ∷ 0 ∷ 0 ∷ [])
    ∷ (16 ∷ 16 ∷ 16 ∷ 0 ∷ [])
    ∷ (16 ∷ 16 ∷ [])
    ∷ []
unfolding crossed_rows
crossed_rows_are = refl

-- "after 6 and before 5": a crossed row beside each other number
pub crossed_beside : List (List ℕ)
unfolding judgement calm plain_z damaged holding crossing_day crossed_too_high board day_from closed_at
crossed_beside =
    -- 1 a damaged record; 6 an m of 11, and another row with volume and no close; 5 the last day
    judgement (evaluate 7 (day_from (pos 4 ∷ pos 2 ∷ [])) (board 1000001 1000000)) (holding (damaged plain_z))
    ∷ judgement (evaluate 7 (day_from (pos 4 ∷ pos 2 ∷ pos 11 ∷ [])) (board 1000001 1000000)) (holding plain_z)
    ∷ judgement (evaluate 7 (day_from (pos 4 ∷ pos 2 ∷ [])) (board 1000001 1000000 ++ closed_at 0)) (holding plain_z)
    ∷ judgement (evaluate 7 (day_from (pos 3 ∷ pos 2 ∷ [])) (board 1000001 1000000)) (holding plain_z)
    -- 7 a price above 10^10; 8 r of 1,000,010; 9 bands that cross
    ∷ judgement (evaluate 7 (day_from (pos 4 ∷ pos 2 ∷ [])) crossed_too_high) (holding plain_z)
    ∷ judgement (evaluate 7 (day_from (pos 4 ∷ pos 2 ∷ [])) (with_prices 2000011 2000010 (closed_at 2000010)))
    (holding calm)
    ∷ judgement (evaluate 7 (day_from (crossing_day 4 10)) (with_prices 2000001 2000000 (closed_at 2000000))) (holding calm)
    ∷ []

pub crossed_beside_are : crossed_beside
    ≡ (1 ∷ 1 ∷ 16 ∷ [])
    ∷ (6 ∷ 6 ∷ 16 ∷ [])
    ∷ (6 ∷ 6 ∷ 16 ∷ [])
    ∷ (16 ∷ 16 ∷ 5 ∷ [])
    ∷ (16 ∷ 16 ∷ 7 ∷ [])
    ∷ (16 ∷ 16 ∷ 8 ∷ [])
    ∷ (16 ∷ 16 ∷ 9 ∷ [])
    ∷ []
unfolding crossed_beside
crossed_beside_are = refl

-- ---- "Where an id stands in several slots the first alone counts, even if it is damaged."

pub duplicates : List (List ℕ)
unfolding plain_z damaged numbers record_from day_from quote_at admission_from
duplicates =
    -- a damaged record before a sound one: evaluate, quote, move and read answer 1
    numbers (evaluate 7 (day_from (pos 4 ∷ [])) [] ∷ quote_at 100 0 ∷ move 7 0 ∷ read 7 ∷ [])
    (record_from (damaged plain_z) ∷ record_from plain_z ∷ [])
    -- a sound one before a damaged one: they answer 0
    ∷ numbers (evaluate 7 (day_from (pos 4 ∷ [])) [] ∷ quote_at 100 0 ∷ move 7 0 ∷ read 7 ∷ [])
    (record_from plain_z ∷ record_from (damaged plain_z) ∷ [])
    -- "but for admit's 2, which looks at ids alone": a damaged record, and an empty slot
    ∷ numbers (admit (admission_from z_numbers) ∷ []) (record_from (damaged plain_z) ∷ blank ∷ [])
    -- of two sound ones a move is counted in the first alone
    ∷ map (λ (r : Record). r.moves.upper) (run (move 7 0 ∷ []) (record_from plain_z ∷ record_from plain_z ∷ []))
    -- "Admission takes the first empty slot."
    ∷ map (λ (r : Record). r.id)
    (run (admit (admission_from z_numbers) ∷ []) (record_from (plain_z but (id_at, pos 8)) ∷ blank ∷ blank ∷ []))
    ∷ []

pub duplicates_are : duplicates
    ≡ (1 ∷ 1 ∷ 1 ∷ 1 ∷ []) ∷ (0 ∷ 0 ∷ 0 ∷ 0 ∷ []) ∷ (2 ∷ []) ∷ (1 ∷ 0 ∷ []) ∷ (8 ∷ 7 ∷ 0 ∷ []) ∷ []
unfolding duplicates
duplicates_are = refl
