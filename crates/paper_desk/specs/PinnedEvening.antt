-- Document 02, W-210, "The evening session": alerts and moves in main and in the evening on both sides of their lines,
-- what an opening leaves, and which session a record is in, on case 1's security. The general sentences are laws
-- (proofs/PinnedLaws).
-- It may use every definition of document 01, and the values of PinnedValues and PinnedSession.
use Rattle.std.specs.Prelude.{◌≡◌, refl, List, [], ◌∷◌, ◌++◌, map, ℕ, suc, ℤ, pos, replicate}
use Rattle.paper.specs.declared.Session.{Session}
use Rattle.paper.specs.declared.Session.TheVariants.{Main, Evening}
use Rattle.paper_desk.specs.Desk.{Call, evaluate, move, read, open_evening}
use Rattle.paper.specs.PinnedValues.{◌but◌, u_at, monitoring_at, uevening_at, autochange_at, eveningmax_at, live_at}
use Rattle.paper.specs.PinnedValues.{upper_moves_at, lower_moves_at, session_at, record_from, day_from}
use Rattle.paper_desk.specs.PinnedSequence.{numbers}
use Rattle.paper_desk.specs.PinnedSession.{live_z, quote_at, tops_of, bottoms_of, limits_of, left, counted}

-- case 1's security with u and u_evening of so many seconds
waiting : (u uevening : ℕ) → List ℤ
unfolding live_z
waiting u uevening = live_z but (u_at, pos u) but (uevening_at, pos uevening)

-- it in the evening, before any evening move
in_evening : (row : List ℤ) → List ℤ
in_evening row = row but (session_at, pos 1)

-- ---- "its own seconds u (17.5)"

-- a bid at these seconds, in term 0
bids : (bid : ℕ) (seconds : List ℕ) → List Call
unfolding quote_at
bids bid seconds = map (λ (second : ℕ). quote_at second 0 bid 0) seconds

-- an ask likewise
asks : (ask : ℕ) (seconds : List ℕ) → List Call
unfolding quote_at
asks ask seconds = map (λ (second : ℕ). quote_at second 0 0 ask) seconds

pub evening_alerts : List (List ℕ)
unfolding waiting in_evening bids asks tops_of bottoms_of day_from
evening_alerts =
    -- u 60 and u_evening 120, near since 100: in main at 159 and 160; in the evening at 160, 219 and 220
    tops_of (waiting 60 120) (bids 1062970 (100 ∷ 159 ∷ 160 ∷ []))
    ∷ tops_of (in_evening (waiting 60 120)) (bids 1062970 (100 ∷ 160 ∷ 219 ∷ 220 ∷ []))
    ∷ bottoms_of (in_evening (waiting 60 120)) (asks 997030 (100 ∷ 160 ∷ 219 ∷ 220 ∷ []))
    -- u 60 and u_evening 30: in main at 130, 159 and 160; in the evening at 129 and 130
    ∷ tops_of (waiting 60 30) (bids 1062970 (100 ∷ 130 ∷ 159 ∷ 160 ∷ []))
    ∷ tops_of (in_evening (waiting 60 30)) (bids 1062970 (100 ∷ 129 ∷ 130 ∷ []))
    -- "Opening the evening clears the near seconds": near since 100, opened, near since 230; at 349 and 350
    ∷ tops_of (waiting 60 120) (bids 1062970 (100 ∷ []) ++ (open_evening 7 ∷ bids 1062970 (230 ∷ 349 ∷ 350 ∷ [])))
    -- "An evaluation puts the record back in main.": opened, evaluated, near since 100; at 159 and 160
    ∷ tops_of (waiting 60 120)
    (open_evening 7 ∷ evaluate 7 (day_from (pos 4 ∷ [])) [] ∷ bids 1055750 (100 ∷ 159 ∷ 160 ∷ []))
    ∷ []

pub evening_alerts_are : evening_alerts
    ≡ (0 ∷ 0 ∷ 1 ∷ [])
    ∷ (0 ∷ 0 ∷ 0 ∷ 1 ∷ [])
    ∷ (0 ∷ 0 ∷ 0 ∷ 1 ∷ [])
    ∷ (0 ∷ 0 ∷ 0 ∷ 1 ∷ [])
    ∷ (0 ∷ 0 ∷ 1 ∷ [])
    ∷ (0 ∷ 0 ∷ 0 ∷ 0 ∷ 1 ∷ [])
    ∷ (0 ∷ 0 ∷ 0 ∷ 0 ∷ 1 ∷ [])
    ∷ []
unfolding evening_alerts
evening_alerts_are = refl

-- ---- "Moves then are allowed only with Autochange yes and only until the security's evening maximum .. is reached"

-- case 1's security with Autochange yes and a maximum
at_most : ℕ → List ℤ
unfolding live_z
at_most most = live_z but (eveningmax_at, pos most)

-- the numbers that calls answer, from a record on
told : (row : List ℤ) → List Call → List ℕ
unfolding numbers record_from
told row calls = numbers calls (record_from row ∷ [])

-- the evening is opened, and then these sides move
evening_moves : (sides : List ℕ) → List Call
evening_moves sides = open_evening 7 ∷ map (λ (side : ℕ). move 7 side) sides

pub evening_numbers : List (List ℕ)
unfolding at_most in_evening told evening_moves day_from
evening_numbers =
    -- a maximum of 0, of 1 and of 10, moved above, below and on both sides: "the evening moves made" are of either side
    told (at_most 0) (evening_moves (0 ∷ 1 ∷ []))
    ∷ told (at_most 1) (evening_moves (0 ∷ 0 ∷ []))
    ∷ told (at_most 1) (evening_moves (1 ∷ 1 ∷ []))
    ∷ told (at_most 1) (evening_moves (0 ∷ 1 ∷ []))
    ∷ told (at_most 10) (evening_moves (replicate 5 0 ++ (replicate 5 1 ++ (0 ∷ 1 ∷ []))))
    -- a refused move is not counted, and moves in main are not: two in main, two in the evening, and a third
    ∷ told (at_most 2) (move 7 0 ∷ move 7 0 ∷ evening_moves (2 ∷ 0 ∷ 0 ∷ 0 ∷ []))
    -- Autochange no: in main both sides move, in the evening neither
    ∷ told (at_most 10 but (autochange_at, pos 0)) (move 7 0 ∷ move 7 1 ∷ evening_moves (0 ∷ 1 ∷ []))
    -- a maximum of 0 holds back no move in main
    ∷ told (at_most 0) (move 7 0 ∷ move 7 1 ∷ [])
    -- "the limit of 50 counts both sessions": from 48 above, the 49th in main, the 50th in the evening, and one more;
    -- below there is room
    ∷ told (at_most 10 but (upper_moves_at, pos 48)) (move 7 0 ∷ evening_moves (0 ∷ 0 ∷ 1 ∷ []))
    ∷ told (at_most 10 but (lower_moves_at, pos 49)) (evening_moves (1 ∷ 1 ∷ 0 ∷ []))
    -- "18 .. before 12": 50 used up, and the maximum too; 50 alone; 50 and Autochange no
    ∷ told (in_evening (at_most 0) but (upper_moves_at, pos 50)) (move 7 0 ∷ [])
    ∷ told (in_evening (at_most 1) but (upper_moves_at, pos 50)) (move 7 0 ∷ [])
    ∷ told (in_evening (at_most 1) but (upper_moves_at, pos 50) but (autochange_at, pos 0)) (move 7 0 ∷ [])
    -- "19, evening opened twice, after 10": opened, after a move, after an evaluation; before the first evaluation
    ∷ told (at_most 1) (open_evening 7 ∷ open_evening 7 ∷ move 7 0 ∷ open_evening 7 ∷ [])
    ∷ told (at_most 1)
    (evening_moves (0 ∷ 0 ∷ []) ++ (evaluate 7 (day_from (pos 4 ∷ [])) [] ∷ evening_moves (0 ∷ 0 ∷ [])))
    ∷ told (at_most 1 but (live_at, pos 0)) (open_evening 7 ∷ [])
    -- an opening asks for no Monitoring
    ∷ told (at_most 1 but (monitoring_at, pos 0)) (open_evening 7 ∷ [])
    -- a lent record with more evening moves made than its maximum is sound, and moves no further
    ∷ told (at_most 1 but (session_at, pos 11)) (read 7 ∷ move 7 0 ∷ [])
    ∷ []

pub evening_numbers_are : evening_numbers
    ≡ (0 ∷ 18 ∷ 18 ∷ [])
    ∷ (0 ∷ 0 ∷ 18 ∷ [])
    ∷ (0 ∷ 0 ∷ 18 ∷ [])
    ∷ (0 ∷ 0 ∷ 18 ∷ [])
    ∷ (0 ∷ (replicate 10 0 ++ (18 ∷ 18 ∷ [])))
    ∷ (0 ∷ 0 ∷ 0 ∷ 6 ∷ 0 ∷ 0 ∷ 18 ∷ [])
    ∷ (0 ∷ 0 ∷ 0 ∷ 18 ∷ 18 ∷ [])
    ∷ (0 ∷ 0 ∷ [])
    ∷ (0 ∷ 0 ∷ 0 ∷ 12 ∷ 0 ∷ [])
    ∷ (0 ∷ 0 ∷ 12 ∷ 0 ∷ [])
    ∷ (18 ∷ [])
    ∷ (12 ∷ [])
    ∷ (18 ∷ [])
    ∷ (0 ∷ 19 ∷ 0 ∷ 19 ∷ [])
    ∷ (0 ∷ 0 ∷ 18 ∷ 0 ∷ 0 ∷ 0 ∷ 18 ∷ [])
    ∷ (10 ∷ [])
    ∷ (0 ∷ [])
    ∷ (0 ∷ 18 ∷ [])
    ∷ []
unfolding evening_numbers
evening_numbers_are = refl

-- ---- "A record carries its session: main, or evening with the evening moves made."

-- 0 main, one more than the evening moves made otherwise
session_number : Session → ℕ
session_number Main = 0
session_number (Evening made) = suc made

-- the session after some calls
session_after : List Call → ℕ
unfolding session_number left counted
session_after calls = session_number (left calls counted).session

pub sessions : List ℕ
unfolding session_after evening_moves quote_at day_from
sessions =
    -- main, where a move leaves it
    session_after []
    ∷ session_after (move 7 0 ∷ [])
    -- the evening, with no move made; with one, above and below; with two
    ∷ session_after (evening_moves [])
    ∷ session_after (evening_moves (0 ∷ []))
    ∷ session_after (evening_moves (1 ∷ []))
    ∷ session_after (evening_moves (0 ∷ 1 ∷ []))
    -- a quote, a read and what is refused leave it
    ∷ session_after (evening_moves (0 ∷ 1 ∷ 1 ∷ []) ++ (quote_at 500 0 1062970 0 ∷ read 7 ∷ open_evening 7 ∷ []))
    -- "An evaluation puts the record back in main."
    ∷ session_after (evening_moves (0 ∷ []) ++ (evaluate 7 (day_from (pos 4 ∷ [])) [] ∷ []))
    ∷ []

pub sessions_are : sessions ≡ 0 ∷ 0 ∷ 1 ∷ 2 ∷ 2 ∷ 3 ∷ 3 ∷ 0 ∷ []
unfolding sessions
sessions_are = refl

-- ---- "The evening keeps the main session's limits (11.3)"; "clears the near seconds and keeps c"

pub openings : List (List (List ℕ))
unfolding limits_of left counted evening_moves
openings = limits_of (left (evening_moves []) counted) ∷ limits_of (left (evening_moves (0 ∷ [])) counted) ∷ []

pub openings_are : openings
    -- the limits, the moves and the last quote second are those of `counted`
    ≡ ((1071200 ∷ 1071200 ∷ 1071200 ∷ [])
    ∷ (988800 ∷ 988800 ∷ 988800 ∷ [])
    ∷ (1112400 ∷ 1153600 ∷ 1184500 ∷ [])
    ∷ (947600 ∷ 906400 ∷ 875500 ∷ [])
    ∷ (1 ∷ 2 ∷ [])
    ∷ (0 ∷ 0 ∷ 0 ∷ [])
    ∷ (0 ∷ 0 ∷ 0 ∷ [])
    ∷ (400 ∷ [])
    ∷ [])
    -- and an upper move of the evening is the second of c: 1,030,000·1.08 as in main, delta 20,600
    ∷ ((1112400 ∷ 1112400 ∷ 1112400 ∷ [])
    ∷ (988800 ∷ 988800 ∷ 988800 ∷ [])
    ∷ (1133000 ∷ 1174200 ∷ 1205100 ∷ [])
    ∷ (947600 ∷ 906400 ∷ 875500 ∷ [])
    ∷ (2 ∷ 2 ∷ [])
    ∷ (0 ∷ 0 ∷ 0 ∷ [])
    ∷ (0 ∷ 0 ∷ 0 ∷ [])
    ∷ (400 ∷ [])
    ∷ [])
    ∷ []
unfolding openings
openings_are = refl
