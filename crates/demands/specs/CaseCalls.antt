-- Document 01 from a fresh table on: its cases 1, 5 and 13, a second day and a read as calls, each accepted with the
-- document's figures.
-- It may use every definition of document 01, and the values of PinnedValues.
use Rattle.std.specs.Prelude.{◌≡◌, refl, List, [], ◌∷◌, map, ℕ, pos, get_or}
use Rattle.paper.specs.declared.Rate.{Rate}
use Rattle.paper.specs.declared.Limits.{Limits}
use Rattle.paper.specs.declared.Answer.{Answer}
use Rattle.paper.specs.declared.Verdict.TheVariants.{NoSuchId}
use Rattle.paper.specs.Ranges.{no_limits}
use Rattle.paper_desk.specs.Desk.{saying, Call, admit, move, read}
use Rattle.paper.specs.PinnedValues.{◌but◌, s_at, admission_from, z_numbers, yes_no}
use Rattle.paper_desk.specs.PinnedSequence.{answers, numbers, slots, day_at, bid_at}

-- cases 1 and 5, and a second day, back at 1,000,000
cases : List Call
unfolding day_at admission_from z_numbers
cases = admit (admission_from z_numbers) ∷ day_at 7 4 1030000 ∷ move 7 0 ∷ day_at 7 5 1000000 ∷ []

-- case 13, on a security whose s is 0, and a read
waits : List Call
unfolding day_at bid_at admission_from z_numbers
waits =
    admit (admission_from (z_numbers but (s_at, pos 0)))
    ∷ day_at 7 4 1000000
    ∷ bid_at 7 1000 1030000
    ∷ bid_at 7 1059 1030000
    ∷ bid_at 7 1060 1030000
    ∷ read 7
    ∷ []

-- the answer to a call of a list, by its place
answer_to : List Call → (call : ℕ) → Answer
unfolding answers slots
answer_to cs call = get_or (answers cs (slots 4)) call (saying NoSuchId)

-- what the definitions answer, from a fresh table on
pub shown : List (List ℕ)
unfolding numbers cases waits answer_to yes_no
shown =
    -- each call's number
    numbers cases (slots 4)
    ∷ numbers waits (slots 4)
    -- 1: s, tentative, the three rates
    ∷ ((answer_to cases 1).rec.s
    ∷ (answer_to cases 1).rec.tentative.bp
    ∷ map (λ (x : Rate). x.bp) (answer_to cases 1).rec.rates)
    -- 5: the band's top and the range tops
    ∷ ((get_or (answer_to cases 2).rec.bands 0 no_limits).upper
    ∷ map (λ (x : Limits). x.upper) (answer_to cases 2).rec.ranges)
    -- the second day: s, tentative and age
    ∷ ((answer_to cases 3).rec.s ∷ (answer_to cases 3).rec.tentative.bp ∷ (answer_to cases 3).rec.tentative.age ∷ [])
    -- 13: the alerts at the top and at the bottom when the bid becomes near, 59 seconds on, and 60 seconds on
    ∷ (yes_no (answer_to waits 2).top ∷ yes_no (answer_to waits 2).bottom ∷ [])
    ∷ (yes_no (answer_to waits 3).top ∷ yes_no (answer_to waits 3).bottom ∷ [])
    ∷ (yes_no (answer_to waits 4).top ∷ yes_no (answer_to waits 4).bottom ∷ [])
    -- the read: the id, the two evaluations, the last quote's second, the rates, the band, the range tops
    ∷ ((answer_to waits 5).rec.id
    ∷ (answer_to waits 5).rec.p1.units
    ∷ (answer_to waits 5).rec.p2.units
    ∷ (answer_to waits 5).rec.second
    ∷ map (λ (x : Rate). x.bp) (answer_to waits 5).rec.rates)
    ∷ ((get_or (answer_to waits 5).rec.bands 0 no_limits).lower
    ∷ (get_or (answer_to waits 5).rec.bands 0 no_limits).upper
    ∷ map (λ (x : Limits). x.upper) (answer_to waits 5).rec.ranges)
    ∷ []

-- what document 01 says
pub shown_are : shown
    ≡ (0 ∷ 0 ∷ 0 ∷ 0 ∷ [])
    ∷ (0 ∷ 0 ∷ 0 ∷ 0 ∷ 0 ∷ 0 ∷ [])
    ∷ (21214 ∷ 700 ∷ 800 ∷ 1200 ∷ 1500 ∷ [])
    ∷ (1091800 ∷ 1133000 ∷ 1174200 ∷ 1205100 ∷ [])
    ∷ (22133 ∷ 700 ∷ 1 ∷ [])
    ∷ (0 ∷ 0 ∷ [])
    ∷ (0 ∷ 0 ∷ [])
    ∷ (1 ∷ 0 ∷ [])
    ∷ (7 ∷ 1000000 ∷ 1000000 ∷ 1060 ∷ 700 ∷ 1100 ∷ 1300 ∷ [])
    ∷ (965000 ∷ 1035000 ∷ 1070000 ∷ 1110000 ∷ 1130000 ∷ [])
    ∷ []
unfolding shown
shown_are = refl
