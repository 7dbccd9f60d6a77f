-- Document 02, W-201: evenings worked out from the definitions, on both sides of each line.
use Rattle.std.specs.Prelude.{◌≡◌, refl, List, [], ◌∷◌, ℕ, ◌<◌, ℤ, pos, negsuc, get_or}
use Rattle.std.proofs.Common.{arith}
use Rattle.paper.specs.declared.Interest.{Interest}
use Rattle.paper.specs.declared.MaturityFigures.{MaturityFigures}
use Rattle.paper.specs.declared.InterestAnswer.{InterestAnswer}
use Rattle.paper.specs.Lists.{every}
use Rattle.paper.specs.Roundings.{half_up, half_down, half_up_z}
use Rattle.paper.specs.Least.{first, least, least_root, least_times, least_multiple}
use Rattle.paper.specs.Ranges.{unsigned, parts_from}
use Rattle.paper_desk.specs.Rates.{weight_of, weighted, replacement, replaces, volatility_of, least_step, tentative_after}
use Rattle.paper.specs.Verdicts.{number_of, is_done, first_of}
use Rattle.paper_interest.specs.Interest.{key_at, keys_of, whole_keys, valid_key, valid_keys, maturity_of, maturities_of}
use Rattle.paper_interest.specs.Interest.{valid_interest, apart_z, change_of, repo_volatility, repo_tentative_rate}
use Rattle.paper_interest.specs.Interest.{repo_tentative, estimate, upward, downward, maturity_figures}
use Rattle.paper_interest.specs.Interest.{interpolated, figure_after, figure_at, forward, margin, limit_from}
use Rattle.paper_interest.specs.Interest.{upper_worked, lower_worked, is_held, upper_limit, lower_limit}
use Rattle.paper_interest.specs.Interest.{strictly_ascending_from, strictly_ascending, interest_checks, no_figures}
use Rattle.paper_interest.specs.Interest.{refused_interest, accepted_interest, interest_answer}
use Rattle.paper_interest.specs.InterestExact.{Evening, Carried, key_in, answered_in, carried_after, key_given}
use Rattle.paper_interest.specs.InterestExact.{Follow, start, next}

-- the statics of every case, with b, a pair of terms and the two rollover rates
given_after : (b ym yn : ℕ) → (money secrate : ℤ) → Interest
given_after b ym yn money secrate =
    record {
      b = b;
      ym = ym;
      yn = yn;
      model = record { aup = 1000; adown = 500; q = 200 };
      h = 50;
      wait = 2;
      liq = 20;
      mm = 300;
      sec = 100;
      xir = 200;
      money = money;
      secrate = secrate;
    }

-- with b 0
given : (ym yn : ℕ) → (money secrate : ℤ) → Interest
unfolding given_after
given ym yn money secrate = given_after 0 ym yn money secrate

-- the first evening: of two key maturities one changes by its old tentative rate of 150, and one by 151
first_evening : List ℤ
first_evening =
    pos 1 ∷ pos 800 ∷ pos 650 ∷ pos 700 ∷ pos 810 ∷ pos 40 ∷ pos 150 ∷ pos 1
    ∷ pos 3 ∷ pos 803 ∷ pos 652 ∷ pos 700 ∷ pos 1150 ∷ pos 40 ∷ pos 150 ∷ pos 1 ∷ []

-- the second evening: rates fall below zero; volatility, tentative rate and age are those that the first evening gave
second_evening : List ℤ
second_evening =
    pos 1 ∷ negsuc 799 ∷ pos 800 ∷ pos 650 ∷ negsuc 699 ∷ pos 61 ∷ pos 150 ∷ pos 2
    ∷ pos 3 ∷ negsuc 802 ∷ pos 803 ∷ pos 652 ∷ negsuc 902 ∷ pos 76 ∷ pos 200 ∷ pos 0 ∷ []

-- a quiet evening: t is 50 and the tentative rate 400, with the wait over at the first key maturity alone
quiet_evening : List ℤ
quiet_evening =
    pos 1 ∷ negsuc 799 ∷ negsuc 789 ∷ negsuc 794 ∷ negsuc 699 ∷ pos 20 ∷ pos 400 ∷ pos 1
    ∷ pos 3 ∷ negsuc 802 ∷ negsuc 799 ∷ negsuc 799 ∷ negsuc 902 ∷ pos 20 ∷ pos 400 ∷ pos 0 ∷ []

-- a wild evening: from one end of the rates to the other
wild_evening : List ℤ
wild_evening = pos 1 ∷ pos 9999 ∷ negsuc 9998 ∷ pos 0 ∷ pos 0 ∷ pos 0 ∷ pos 0 ∷ pos 0 ∷ []

-- a calm evening after the first: each rate has its greater distance from the evening before the last (R2), 100 bp
calm_evening : List ℤ
calm_evening =
    pos 1 ∷ pos 750 ∷ pos 800 ∷ pos 650 ∷ pos 750 ∷ pos 61 ∷ pos 150 ∷ pos 2
    ∷ pos 3 ∷ pos 752 ∷ pos 803 ∷ pos 652 ∷ pos 752 ∷ pos 76 ∷ pos 200 ∷ pos 0 ∷ []

-- what the interest side answers. It opens every definition that the call computes with, so that a table opens this one
-- alone
unfoldable pub answered : Interest → (numbers : List ℤ) → InterestAnswer
unfolding half_up half_down half_up_z first least least_root least_times least_multiple unsigned weight_of weighted replacement
    replaces volatility_of least_step tentative_after is_done first_of every key_at parts_from keys_of whole_keys
    valid_key valid_keys maturity_of maturities_of valid_interest apart_z change_of repo_volatility repo_tentative_rate
    repo_tentative estimate upward downward maturity_figures interpolated figure_after figure_at forward margin
    limit_from upper_worked lower_worked is_held upper_limit lower_limit strictly_ascending_from strictly_ascending
    interest_checks refused_interest accepted_interest interest_answer
answered i numbers = interest_answer i numbers

-- the verdict, the two limits, and the six figures of a key maturity
unfoldable pub limits : InterestAnswer → List ℤ
limits a = pos (number_of a.pair.verdict) ∷ a.pair.lower ∷ a.pair.upper ∷ []

unfoldable pub figures : InterestAnswer → (n : ℕ) → List ℕ
figures a n =
    let f : MaturityFigures = get_or a.figures n no_figures in
    f.change ∷ f.volatility ∷ f.tentative.bp ∷ f.tentative.age ∷ f.up ∷ f.down ∷ []

-- what the definitions give for each key maturity
pub worked_figures : List (List ℕ)
unfolding given first_evening second_evening quiet_evening wild_evening calm_evening figures answered
worked_figures =
    figures (answered (given 0 1 (pos 940) (pos 710)) first_evening) 0
    ∷ figures (answered (given 0 1 (pos 940) (pos 710)) first_evening) 1
    ∷ figures (answered (given 0 1 (pos 940) (pos 710)) first_evening) 2
    ∷ figures (answered (given 0 1 (pos 2000) (negsuc 1999)) second_evening) 0
    ∷ figures (answered (given 0 1 (pos 2000) (negsuc 1999)) second_evening) 1
    ∷ figures (answered (given 0 1 (pos 2000) (negsuc 1999)) quiet_evening) 0
    ∷ figures (answered (given 0 1 (pos 2000) (negsuc 1999)) quiet_evening) 1
    ∷ figures (answered (given 0 1 (pos 2000) (negsuc 1999)) wild_evening) 0
    ∷ figures (answered (given 0 1 (pos 940) (pos 710)) calm_evening) 0
    ∷ figures (answered (given 0 1 (pos 940) (pos 710)) calm_evening) 1
    ∷ []

pub worked_figures_lem : worked_figures
    -- a change equal to the old tentative rate is weighed, one above is replaced by 100·151/200, up; zeros past the
    -- last
    ≡ (150 ∷ 61 ∷ 150 ∷ 2 ∷ 300 ∷ 200 ∷ [])
    ∷ (151 ∷ 76 ∷ 200 ∷ 0 ∷ 300 ∷ 450 ∷ [])
    ∷ (0 ∷ 0 ∷ 0 ∷ 0 ∷ 0 ∷ 0 ∷ [])
    ∷ (1600 ∷ 800 ∷ 1600 ∷ 0 ∷ 1650 ∷ 1650 ∷ [])
    ∷ (1606 ∷ 803 ∷ 1650 ∷ 0 ∷ 1700 ∷ 1700 ∷ [])
    -- one step down, where it has waited
    ∷ (10 ∷ 20 ∷ 350 ∷ 0 ∷ 400 ∷ 400 ∷ [])
    ∷ (3 ∷ 20 ∷ 400 ∷ 1 ∷ 450 ∷ 450 ∷ [])
    -- no maximum holds the tentative rate
    ∷ (19998 ∷ 9999 ∷ 20000 ∷ 0 ∷ 20050 ∷ 20050 ∷ [])
    -- R2 decides: 0.9·61² + 0.1·100² is 4,348.9, and 66² = 4,356; 0.9·76² + 0.1·100² is 6,198.4, and 79² = 6,241
    ∷ (100 ∷ 66 ∷ 150 ∷ 3 ∷ 300 ∷ 200 ∷ [])
    ∷ (100 ∷ 79 ∷ 200 ∷ 1 ∷ 300 ∷ 250 ∷ [])
    ∷ []
unfolding worked_figures
worked_figures_lem = refl

-- what the definitions give for each pair of terms
pub worked_limits : List (List ℤ)
unfolding worked_figures limits
worked_limits =
    limits (answered (given 0 1 (pos 940) (pos 710)) first_evening)
    ∷ limits (answered (given 0 1 (pos 950) (pos 700)) first_evening)
    ∷ limits (answered (given 0 1 (pos 951) (pos 699)) first_evening)
    ∷ limits (answered (given 0 2 (pos 940) (pos 710)) first_evening)
    ∷ limits (answered (given 0 1 (pos 2000) (negsuc 1999)) second_evening)
    ∷ limits (answered (given 0 2 (negsuc 899) (negsuc 799)) second_evening)
    ∷ limits (answered (given 1 2 (negsuc 899) (negsuc 799)) quiet_evening)
    ∷ limits (answered (given 2 2 (pos 940) (pos 710)) first_evening)
    ∷ limits (answered (given 0 366 (pos 940) (pos 710)) first_evening)
    ∷ []

pub worked_limits_lem : worked_limits
    -- 0/1 is held at both ends, just reaches them, and is not held
    ≡ (pos 0 ∷ pos 710 ∷ pos 940 ∷ [])
    ∷ (pos 0 ∷ pos 700 ∷ pos 950 ∷ [])
    ∷ (pos 0 ∷ pos 700 ∷ pos 950 ∷ [])
    -- 0/2 is held by nothing: the rate between 800 and 803 is 802, and 802 - 162.5 is 640
    ∷ (pos 0 ∷ pos 640 ∷ pos 952 ∷ [])
    ∷ (pos 0 ∷ negsuc 1624 ∷ pos 25 ∷ [])
    -- the rate between -800 and -803 is -801, and -801 + 837.5 is 37, -801 - 837.5 is -1638
    ∷ (pos 0 ∷ negsuc 1637 ∷ pos 37 ∷ [])
    -- the forward rate -802, and 212.5 either way: -589 and -1014
    ∷ (pos 0 ∷ negsuc 1013 ∷ negsuc 588 ∷ [])
    -- 14 and 6
    ∷ (pos 14 ∷ pos 0 ∷ pos 0 ∷ [])
    ∷ (pos 6 ∷ pos 0 ∷ pos 0 ∷ [])
    ∷ []
unfolding worked_limits
worked_limits_lem = refl

-- an evening after b non-trading days, on which we follow one of its two key maturities
evening : (b place : ℕ) → (money secrate : ℤ) → (numbers : List ℤ) → Evening
evening b place money secrate numbers =
    record { given = given_after b 0 1 money secrate; numbers = numbers; place = place }

-- the first evening, and after it the second or the calm one
unfoldable pub one_evening : (place : ℕ) → List Evening
unfolding worked_figures given_after evening
one_evening place = evening 0 place (pos 940) (pos 710) first_evening ∷ []

unfoldable pub two_evenings : (place : ℕ) → List Evening
unfolding one_evening
two_evenings place = evening 0 place (pos 2000) (negsuc 1999) second_evening ∷ one_evening place

unfoldable pub calm_evenings : (b place : ℕ) → List Evening
unfolding one_evening
calm_evenings b place = evening b place (pos 940) (pos 710) calm_evening ∷ one_evening place

-- what the first evening is given at both key maturities
unfoldable pub first_given : Carried
first_given = record { volatility = 40; tentative = record { bp = 150; age = 1 } }

-- the second evening follows the first, at their second key maturity: demand 3 reads for them
pub second_follows_first : Follow first_given (two_evenings 1)
unfolding two_evenings first_given key_in key_given carried_after answered_in
second_follows_first =
    let there : 1 < 2 = omega arith in
    next (next start refl there refl) refl there refl
