-- W-208: a worked week as a proved table. A bad day takes the tentative rate above S_max; the rates are S_max, and each
-- leaves it only when the tentative rate has come down by its steps. With the cap that document 01 had, they would have
-- fallen two evenings sooner.
-- It may use the calls of the desk, Rates, and the values of PinnedValues.
use Rattle.std.specs.Prelude.{◌≡◌, refl, List, [], ◌∷◌, map, ℕ, ◌+◌, min, ℤ, pos}
use Rattle.paper.specs.declared.Answer.{Answer}
use Rattle.paper.specs.declared.Rate.{Rate}
use Rattle.paper.specs.declared.Statics.{Statics}
use Rattle.paper.specs.declared.Tentative.{Tentative}
use Rattle.paper.specs.Ranges.{given_of, statics_of}
use Rattle.paper_desk.specs.Rates.{tentative_rate, tentative_after, level_rate}
use Rattle.paper_desk.specs.Desk.{Call, admit}
use Rattle.paper.specs.PinnedValues.{◌but◌, q_at, adown_at, wait_at, liq_at, minima_at, s_at, tentative_at}
use Rattle.paper.specs.PinnedValues.{admission_from, z_numbers}
use Rattle.paper_desk.specs.PinnedSequence.{answers, slots, day_at}

-- Z's numbers, with q 10, a_down 0.9, n 1, liq 0, minima 100, S_max 300, s 1,000 and the tentative rate 100
week_numbers : List ℤ
unfolding z_numbers
week_numbers =
    z_numbers but (q_at, pos 1000) but (adown_at, pos 9000) but (wait_at, pos 1) but (liq_at, pos 0)
    but (minima_at, pos 100) but (minima_at + 1, pos 100) but (minima_at + 2, pos 100) but (minima_at + 3, pos 300)
    but (s_at, pos 1000) but (tentative_at, pos 100)

-- an admission at 1,000,000, a day on which the security closes at 1,010,000, and five days at that price
week_calls : List Call
unfolding week_numbers day_at admission_from
week_calls =
    admit (admission_from week_numbers)
    ∷ map (λ (day : ℕ). day_at 7 day 1010000) (4 ∷ 5 ∷ 6 ∷ 7 ∷ 8 ∷ 9 ∷ [])

-- s, the tentative rate and the three rates after each call; an admission answers its number alone
pub week : List (List ℕ)
unfolding week_calls answers slots
week =
    map (λ (a : Answer). a.rec.s ∷ a.rec.tentative.bp ∷ map (λ (x : Rate). x.bp) a.rec.rates)
    (answers week_calls (slots 1))

pub week_is : week
    ≡ (0 ∷ 0 ∷ 0 ∷ 0 ∷ 0 ∷ [])
    -- 0.9·1,000² + 0.1·10,000² is 10,900,000, whose root is 3,301.5, and t is 400
    ∷ (3302 ∷ 400 ∷ 300 ∷ 300 ∷ 300 ∷ [])
    -- the move from the price of two evenings before is 10,000 still: 0.9·3,302² + 0.1·10,000², and t is 500
    ∷ (4452 ∷ 500 ∷ 300 ∷ 300 ∷ 300 ∷ [])
    -- no move from here on: s² is a tenth of what it was, t is 200 and then 100, and the tentative rate falls a step
    ∷ (1408 ∷ 400 ∷ 300 ∷ 300 ∷ 300 ∷ [])
    ∷ (446 ∷ 300 ∷ 300 ∷ 300 ∷ 300 ∷ [])
    -- 200·sqrt(5/2) is 316.2, and 200·sqrt(8/2) is 400
    ∷ (142 ∷ 200 ∷ 200 ∷ 300 ∷ 300 ∷ [])
    ∷ (45 ∷ 100 ∷ 100 ∷ 200 ∷ 200 ∷ [])
    ∷ []
unfolding week
week_is = refl

-- ---- the same evenings with the cap that W-208 took off

-- the tentative rate and the rate of level 1, where S_max holds t, after evenings with these volatilities
capped_from : Statics → Tentative → List ℕ → List (List ℕ)
unfolding answers
capped_from st old [] = []
capped_from st old (s ∷ rest) =
    let t : Tentative = tentative_after st.h st.wait (min st.smax (tentative_rate st s)) old in
    (t.bp ∷ level_rate st t.bp 0 1 ∷ []) ∷ capped_from st t rest

-- with the week's volatilities, which the cap would not have changed
pub capped_week : List (List ℕ)
unfolding week_numbers capped_from given_of statics_of
capped_week =
    capped_from (statics_of (given_of week_numbers)) (record { bp = 100; age = 0 })
    (3302 ∷ 4452 ∷ 1408 ∷ 446 ∷ 142 ∷ 45 ∷ [])

-- the rate of level 1 would have left S_max on the third evening, and not on the fifth
pub capped_week_is : capped_week
    ≡ (300 ∷ 300 ∷ [])
    ∷ (300 ∷ 300 ∷ [])
    ∷ (200 ∷ 200 ∷ [])
    ∷ (100 ∷ 100 ∷ [])
    ∷ (100 ∷ 100 ∷ [])
    ∷ (100 ∷ 100 ∷ [])
    ∷ []
unfolding capped_week
capped_week_is = refl
