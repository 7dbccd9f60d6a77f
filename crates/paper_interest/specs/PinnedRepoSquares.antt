-- Demand 3's exact square of the interest side in figures, in square bp (document 02, W-201).
-- It may use InterestExact, the evenings of InterestCases, and `parts_of` of the shares' table.
use Rattle.std.specs.Prelude.{◌≡◌, refl, List, [], ◌∷◌, ℕ}
use Rattle.paper_desk.specs.Exact.{next_square, choice_of}
use Rattle.paper_desk.specs.PinnedExact.{parts_of}
use Rattle.paper_interest.specs.InterestExact.{key_in, repo_choice, exact_change, exact_repo_square}
use Rattle.paper_interest.specs.InterestCases.{one_evening, two_evenings, calm_evenings, first_given}

pub exact_repo_squares : List (List ℕ)
unfolding one_evening two_evenings calm_evenings first_given parts_of key_in repo_choice exact_change next_square
    choice_of exact_repo_square
exact_repo_squares =
    -- the first key maturity: no evening, one, and two by weight, of which b 2 makes the second 0
    parts_of 1 (exact_repo_square first_given [])
    ∷ parts_of 1 (exact_repo_square first_given (one_evening 0))
    ∷ parts_of 1 (exact_repo_square first_given (calm_evenings 1 0))
    ∷ parts_of 1 (exact_repo_square first_given (calm_evenings 2 0))
    -- the second: the replacement; from it by weight; from it by another replacement
    ∷ parts_of 4 (exact_repo_square first_given (one_evening 1))
    ∷ parts_of 40 (exact_repo_square first_given (calm_evenings 0 1))
    ∷ parts_of 1 (exact_repo_square first_given (two_evenings 1))
    ∷ []

pub exact_repo_squares_are : exact_repo_squares
    -- 40²; 0.9·1,600 + 0.1·150²; 0.9·3,690 + 0.1·100² (from the carried 61 it would be 4,348.9)
    ≡ (1600 ∷ 0 ∷ [])
    ∷ (3690 ∷ 0 ∷ [])
    ∷ (4321 ∷ 0 ∷ [])
    ∷ (3690 ∷ 0 ∷ [])
    -- (100·151/200)² = 22,801/4; 0.9·22,801/4 + 0.1·100² = 205,209/40 + 1,000; (100·1,606/200)² = 803²
    ∷ (22801 ∷ 0 ∷ [])
    ∷ (245209 ∷ 0 ∷ [])
    ∷ (644809 ∷ 0 ∷ [])
    ∷ []
unfolding exact_repo_squares
exact_repo_squares_are = refl
