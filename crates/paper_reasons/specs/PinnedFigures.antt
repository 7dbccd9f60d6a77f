-- The figures that decided, on days that a line spells out: R S0 X Y S T, on both sides of each line that y and t have.
-- Cases 7 and 9 of document 01 are among them.
-- It may use what PinnedReasons opens, and its securities.
use Rattle.std.specs.Prelude.{◌≡◌, refl, List, [], ◌∷◌, ℕ, ℤ, pos}
use Rattle.paper.specs.PinnedValues.{◌but◌, ewma_at, record_from, day_from, closed_at, z_numbers, z_record}
use Rattle.paper_reasons.specs.Why.{deciding_on, why_on}
use Rattle.paper_reasons.specs.Figures.{replacement_taken}
use Rattle.paper_reasons.specs.Words.{decided_numbers}
use Rattle.paper_reasons.specs.PinnedReasons.{said, today, rested, seventh, restless, aged}

-- the figures that decided, on a table of one record
decided : (admitted day rows : List ℤ) → List ℕ
unfolding said replacement_taken deciding_on decided_numbers
decided admitted day rows =
    decided_numbers (why_on (record_from admitted ∷ []) 7 (day_from day) rows).reasons.figures

pub figures : List (List ℕ)
unfolding decided today rested seventh restless aged closed_at z_record z_numbers
figures =
    -- case 7: r is 20,001, and x the root of 400,004,000.1; r is not above 100·500, so there is no y
    decided seventh today (closed_at 306000100)
    -- r is 10,000: y is 3,334 where r is above 100·S_1, and 0 where it is 100·S_1; t is of the move where y is the greater
    ∷ decided (restless 1109 99 0) today (closed_at 1010000)
    ∷ decided (restless 1110 99 0) today (closed_at 1010000)
    ∷ decided (restless 1109 100 0) today (closed_at 1010000)
    -- y is taken, and x is the greater
    ∷ decided (restless 5000 99 0) today (closed_at 1010000)
    -- two holidays: the weight is 0, so that x is s, and no y is taken
    ∷ decided (restless 1109 99 0) rested (closed_at 1010000)
    -- case 9: t is 100, though the tentative rate waits at 700, or falls to 600
    ∷ decided (aged 700 3 3333) rested (closed_at 1000000)
    ∷ decided (aged 700 4 3333) rested (closed_at 1000000)
    -- isEWMA no; a day that is refused 5
    ∷ decided (restless 1109 99 0 but (ewma_at, pos 0)) today (closed_at 1010000)
    ∷ decided (restless 1109 99 0) (pos 3 ∷ []) (closed_at 1010000)
    ∷ []

pub figures_are : figures
    ≡ (20001 ∷ 20000 ∷ 20001 ∷ 0 ∷ 20001 ∷ 700 ∷ [])
    ∷ (10000 ∷ 1109 ∷ 3333 ∷ 3334 ∷ 3334 ∷ 100 ∷ [])
    ∷ (10000 ∷ 1110 ∷ 3334 ∷ 3334 ∷ 3334 ∷ 200 ∷ [])
    ∷ (10000 ∷ 1109 ∷ 3333 ∷ 0 ∷ 3333 ∷ 100 ∷ [])
    ∷ (10000 ∷ 5000 ∷ 5701 ∷ 3334 ∷ 5701 ∷ 200 ∷ [])
    ∷ (10000 ∷ 1109 ∷ 1109 ∷ 0 ∷ 1109 ∷ 100 ∷ [])
    ∷ (0 ∷ 3333 ∷ 3333 ∷ 0 ∷ 3333 ∷ 100 ∷ [])
    ∷ (0 ∷ 3333 ∷ 3333 ∷ 0 ∷ 3333 ∷ 100 ∷ [])
    ∷ []
    ∷ []
    ∷ []
unfolding figures
figures_are = refl
