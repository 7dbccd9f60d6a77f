-- Document 01, "What the desk covers": "The C gateway reaches the rate rules and the limit rules with plain numbers ..
-- Each such call gives one figure, or minus the refusal number." Its numbers, the statics in the order of the table
-- among them (`given_of` of `paper`), come from C one by one (`nedrubal`).
use Rattle.std.specs.Prelude.{Bool, not, ◌&&◌, List, [], ◌∷◌, ℕ, leb, ℤ, pos, neg_ℤ}
use Rattle.paper.specs.declared.Statics.{Statics}
use Rattle.paper.specs.declared.GivenStatics.{GivenStatics}
use Rattle.paper.specs.declared.Verdict.{Verdict}
use Rattle.paper.specs.declared.Verdict.TheVariants.{AdmissionOutOfRange, OutOfRange}
use Rattle.paper.specs.Lists.{pick}
use Rattle.paper.specs.Numbers.{level_last, ahead_most, term_days_most, repo_least, repo_most, moves_most}
use Rattle.paper.specs.Ranges.{within, within_z, is_rate, is_grid_price, grid_of, statics_of, valid_given}
use Rattle.paper.specs.Ranges.{valid_tentative, valid_side, side_of}
use Rattle.paper_desk.specs.Rates.{level_rate, minimum_of}
use Rattle.paper_desk.specs.Limits.{range_limit, band_limit}
use Rattle.paper.specs.Verdicts.{number_of, is_done, Check, first_of}

-- "gateway 4 (a static out of range), 6 (another value out of range or off the grid)"
unfoldable pub gateway_checks : GivenStatics → (in_range : Bool) → List Check
gateway_checks g in_range =
    record { verdict = AdmissionOutOfRange; applies = not (valid_given g) }
    ∷ record { verdict = OutOfRange; applies = not in_range }
    ∷ []

-- "one figure, or minus the refusal number"
unfoldable pub gateway_answer : Verdict → (figure : ℕ) → ℤ
gateway_answer v figure = pick (is_done v) (pos figure) (neg_ℤ (pos (number_of v)))

-- "a level's rate from tentative, m and level"; with isEWMA no it is the minimum
unfoldable pub level_in_range : Statics → (tentative m level : ℕ) → Bool
level_in_range st tentative m level = valid_tentative st.h tentative && leb m ahead_most && within 1 level_last level

unfoldable pub level_figure : Statics → (tentative m level : ℕ) → ℕ
level_figure st tentative m level = pick st.ewma (level_rate st tentative m level) (minimum_of st level)

unfoldable pub level_call : GivenStatics → (tentative m level : ℕ) → ℤ
level_call g tentative m level =
    gateway_answer (first_of (gateway_checks g (level_in_range (statics_of g) tentative m level)))
    (level_figure (statics_of g) tentative m level)

-- "a fresh range limit from P, rate and side"
unfoldable pub range_in_range : Statics → (p rate side : ℕ) → Bool
range_in_range st p rate side = is_grid_price (grid_of st.lot) p && is_rate rate && valid_side side

unfoldable pub range_call : GivenStatics → (p rate side : ℕ) → ℤ
range_call g p rate side =
    gateway_answer (first_of (gateway_checks g (range_in_range (statics_of g) p rate side)))
    (range_limit (statics_of g) p rate (side_of side))

-- "a band limit from P, S_1, k, that side's repo rate, c and side"
unfoldable pub band_in_range : Statics → (p s1 k : ℕ) → (repo : ℤ) → (c side : ℕ) → Bool
band_in_range st p s1 k repo c side =
    is_grid_price (grid_of st.lot) p
    && is_rate s1
    && leb k term_days_most
    && within_z repo_least repo_most repo
    && leb c moves_most
    && valid_side side

unfoldable pub band_call : GivenStatics → (p s1 k : ℕ) → (repo : ℤ) → (c side : ℕ) → ℤ
band_call g p s1 k repo c side =
    gateway_answer (first_of (gateway_checks g (band_in_range (statics_of g) p s1 k repo c side)))
    (band_limit (statics_of g) p s1 k repo c (side_of side))
