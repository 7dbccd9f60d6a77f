-- Document 02's W-201 on both sides of its lines, where InterestCases has no figure: the ranges, the lengths, 6 before
-- 14, b, and the maturities outside the key ones.
-- It may use Interest, the figures of InterestCases and the tests of PinnedRanges.
use Rattle.std.specs.Prelude.{◌≡◌, refl, Bool, not, List, [], ◌∷◌, ◌++◌, map, ℕ, zero, suc, ◌+◌, ◌-◌, eqb, ℤ, pos, negsuc, replicate}
use Rattle.paper.specs.declared.Interest.{Interest}
use Rattle.paper.specs.declared.InterestAnswer.{InterestAnswer}
use Rattle.paper.specs.Numbers.{step_most, minimum_most, repo_tentative_most}
use Rattle.paper.specs.Verdicts.{number_of}
use Rattle.paper.specs.Ranges.{unsigned}
use Rattle.paper_interest.specs.Interest.{estimate_most}
use Rattle.paper_interest.specs.InterestCases.{limits, figures, answered}
use Rattle.paper.specs.PinnedValues.{◌but◌, signed, plain}
use Rattle.paper.specs.PinnedRanges.{Ranged, range, values_of, straddles, at_the_ends_alone}

-- ---- a call as two rows of numbers

-- b, the pair of terms, a_up, a_down, q, h, n, liq, MMΔ, SECΔ, x_IR, the money rate and the security rollover rate
unfoldable pub interest_from : (xs : List ℤ) → Interest
unfolding unsigned
interest_from xs =
    record {
      b = plain xs 0;
      ym = plain xs 1;
      yn = plain xs 2;
      model = record { aup = plain xs 3; adown = plain xs 4; q = plain xs 5 };
      h = plain xs 6;
      wait = plain xs 7;
      liq = plain xs 8;
      mm = plain xs 9;
      sec = plain xs 10;
      xir = plain xs 11;
      money = signed xs 12;
      secrate = signed xs 13;
    }

answer_to : (call keys : List ℤ) → InterestAnswer
unfolding interest_from answered
answer_to call keys = answered (interest_from call) keys

number_to : (call keys : List ℤ) → ℕ
unfolding answer_to
number_to call keys = number_of (answer_to call keys).pair.verdict

-- ---- "or the answer is 6"

-- "terms .. in 0..365 days", "minima and liquidity in 0..9,999", "the rest as for shares", "Rates given lie in
-- -9,999..9,999 bp"
call_ranges : List Ranged
call_ranges =
    range 0 0 30
    ∷ range 0 0 365
    ∷ range 1 0 365
    ∷ range 1000 0 10000
    ∷ range 500 0 10000
    ∷ range 200 100 1000
    ∷ range 50 1 1000
    ∷ range 2 1 250
    ∷ range 20 0 9999
    ∷ range 300 0 9999
    ∷ range 100 0 9999
    ∷ range 200 50 1000
    ∷ (pos 940, negsuc 9998, pos 9999)
    ∷ (pos 710, negsuc 9998, pos 9999)
    ∷ []

-- "key maturities in 0..365 days", the rates R, R1, R2 and the index, "old volatility in 0..19,998, old tentative rate
-- in 0..200,979", the age as for shares
key_ranges : List Ranged
key_ranges =
    range 5 0 365
    ∷ (pos 800, negsuc 9998, pos 9999)
    ∷ (pos 800, negsuc 9998, pos 9999)
    ∷ (pos 800, negsuc 9998, pos 9999)
    ∷ (pos 1700, negsuc 9998, pos 9999)
    ∷ range 0 0 19998
    ∷ range 400 0 200979
    ∷ range 0 0 250
    ∷ []

call_row : List ℤ
unfolding call_ranges values_of
call_row = values_of call_ranges

key_row : List ℤ
unfolding key_ranges values_of
key_row = values_of key_ranges

-- whether the answer is another than 6
not_six : (call keys : List ℤ) → Bool
unfolding number_to
not_six call keys = not (eqb (number_to call keys) 6)

pub ends : List (List Bool)
unfolding straddles not_six call_row key_row
ends =
    straddles (λ (call : List ℤ). not_six call key_row) call_row 0 call_ranges
    ++ straddles (not_six call_row) key_row 0 key_ranges

pub ends_are : ends ≡ at_the_ends_alone 22
unfolding ends at_the_ends_alone
ends_are = refl

-- a key maturity of so many days, with the other numbers of `key_row`
key_after : (days : ℕ) → List ℤ
unfolding key_row
key_after days = key_row but (0, pos days)

pub refusals : List (List ℕ)
unfolding number_to call_row key_row key_after
refusals =
    -- "one to eight key maturities", each whole: 0, 7, 8, 9, 64, 65, 72 numbers, all of them 1, which is 14 where it is
    -- not 6 and there are several
    map (λ (count : ℕ). number_to call_row (replicate count (pos 1))) (0 ∷ 7 ∷ 8 ∷ 9 ∷ 64 ∷ 65 ∷ 72 ∷ [])
    -- the second key maturity is looked at as the first
    ∷ map (λ (days : ℕ). number_to call_row (key_after 5 ++ key_after days)) (365 ∷ 366 ∷ [])
    -- "14, key maturities not strictly ascending": one more, the same, one less; and at the third
    ∷ map (λ (days : ℕ). number_to call_row (key_after 5 ++ key_after days)) (6 ∷ 5 ∷ 4 ∷ [])
    ∷ map (λ (days : ℕ). number_to call_row (key_after 5 ++ (key_after 7 ++ key_after days))) (8 ∷ 7 ∷ 6 ∷ [])
    -- "or the pair's second term not after its first": the pairs 0/1, 0/0, 2/1
    ∷ map (λ (pair : ℕ × ℕ). number_to (call_row but (1, pos pair.0) but (2, pos pair.1)) key_row)
    ((0, 1) ∷ (0, 0) ∷ (2, 1) ∷ [])
    -- ".. after 6": both apply, by a key maturity and by the call
    ∷ (number_to (call_row but (2, pos 0)) (key_after 366)
    ∷ number_to (call_row but (0, pos 31)) (key_after 5 ++ key_after 5)
    ∷ [])
    ∷ []

pub refusals_are : refusals
    ≡ (6 ∷ 6 ∷ 0 ∷ 6 ∷ 14 ∷ 6 ∷ 6 ∷ [])
    ∷ (0 ∷ 6 ∷ [])
    ∷ (0 ∷ 14 ∷ 14 ∷ [])
    ∷ (0 ∷ 14 ∷ 14 ∷ [])
    ∷ (0 ∷ 14 ∷ 14 ∷ [])
    ∷ (6 ∷ 6 ∷ [])
    ∷ []
unfolding refusals
refusals_are = refl

-- ---- b: "maximum one public holiday" (14.4)

-- the figures of a key maturity with volatility 40 and tentative rate 150, from an evening with so many holidays: R is
-- 800, R1 and R2 are given
figures_with : (b r1 r2 : ℕ) → List ℕ
unfolding answer_to call_row key_row figures
figures_with b r1 r2 =
    figures
    (answer_to (call_row but (0, pos b))
    (key_row but (2, pos r1) but (3, pos r2) but (5, pos 40) but (6, pos 150)))
    0

pub holidays : List (List ℕ)
unfolding figures_with
holidays =
    -- a change of 151, above the old tentative rate, after 0, 1 and 2 holidays
    figures_with 0 649 800
    ∷ figures_with 1 649 800
    ∷ figures_with 2 649 800
    -- a change of 150, by R1 and by R2, below R and above it; after 2 holidays
    ∷ figures_with 1 650 800
    ∷ figures_with 1 800 650
    ∷ figures_with 1 800 950
    ∷ figures_with 2 800 950
    ∷ []

pub holidays_are : holidays
    -- 100·151/200 up, and t is 152 up to 200; with the weight 0 the volatility stays, t is 100, and 150 waits
    ≡ (151 ∷ 76 ∷ 200 ∷ 0 ∷ 300 ∷ 1000 ∷ [])
    ∷ (151 ∷ 76 ∷ 200 ∷ 0 ∷ 300 ∷ 1000 ∷ [])
    ∷ (151 ∷ 40 ∷ 150 ∷ 1 ∷ 300 ∷ 1000 ∷ [])
    -- 0.9·40² + 0.1·150² is 3,690, and 61² = 3,721; t is 122 up to 150
    ∷ (150 ∷ 61 ∷ 150 ∷ 1 ∷ 300 ∷ 1000 ∷ [])
    ∷ (150 ∷ 61 ∷ 150 ∷ 1 ∷ 300 ∷ 1000 ∷ [])
    ∷ (150 ∷ 61 ∷ 150 ∷ 1 ∷ 300 ∷ 1000 ∷ [])
    ∷ (150 ∷ 40 ∷ 150 ∷ 1 ∷ 300 ∷ 1000 ∷ [])
    ∷ []
unfolding holidays
holidays_are = refl

-- ---- the request of a share's t (W-202) is not the interest side's

-- with q 300 and the volatility 0, a change of 200 is above the old tentative rate of 150, and its y wins
pub of_the_volatility : List ℕ
unfolding answer_to call_row key_row figures
of_the_volatility = figures (answer_to (call_row but (5, pos 300)) (key_row but (2, pos 600) but (6, pos 150))) 0

-- 0.1·200² is 4,000, and 64 covers it; 100·200/300 up is 67. 300·67 is 20,100, and t is 201 up to 250 (by the change
-- itself it would be 200)
pub of_the_volatility_lem : of_the_volatility ≡ 200 ∷ 67 ∷ 250 ∷ 0 ∷ 300 ∷ 1000 ∷ []
unfolding of_the_volatility
of_the_volatility_lem = refl

-- ---- between the key maturities, and outside them (14.6)

-- a key maturity whose rate stands: the volatility is 0, and the tentative rate waits
quiet_key : (days rate index tentative : ℕ) → List ℤ
quiet_key days rate index tentative =
    pos days ∷ pos rate ∷ pos rate ∷ pos rate ∷ pos index ∷ pos 0 ∷ pos tentative ∷ pos 0 ∷ []

-- 5, 10 and 20 days: the rates 800, 900, 880; the upward estimates 450, 650, 1,050 (tentative + 20, to a multiple of
-- 50); the downward ones 1,000, 1,200, 1,600 (index - rate + 100)
three_keys : List ℤ
unfolding quiet_key
three_keys = quiet_key 5 800 1700 400 ++ (quiet_key 10 900 2000 600 ++ quiet_key 20 880 2380 1000)

-- the number, the lower and the upper limit of a pair of terms
limits_of : (keys : List ℤ) → (ym yn : ℕ) → List ℤ
unfolding answer_to call_row three_keys limits
limits_of keys ym yn = limits (answer_to (call_row but (1, pos ym) but (2, pos yn)) keys)

pub outside : List (List ℤ)
unfolding limits_of
outside =
    -- before the first: 0/2, 2/4, 2/5
    limits_of three_keys 0 2
    ∷ limits_of three_keys 2 4
    ∷ limits_of three_keys 2 5
    -- from one to the next, and between: 5/10, 5/15, 10/20
    ∷ limits_of three_keys 5 10
    ∷ limits_of three_keys 5 15
    ∷ limits_of three_keys 10 20
    -- after the last: 10/30, 20/30, 30/365
    ∷ limits_of three_keys 10 30
    ∷ limits_of three_keys 20 30
    ∷ limits_of three_keys 30 365
    -- from before the first to after the last; and of one key maturity alone
    ∷ limits_of three_keys 2 22
    ∷ limits_of (quiet_key 10 900 2000 600) 2 30
    ∷ []

-- the limits are the forward rate less half the downward estimate, and more half the upward one, of the second term
pub outside_are : outside
    -- 800 - 500, 800 + 225; (4,000 - 1,600)/3 is 800 too
    ≡ (pos 0 ∷ pos 300 ∷ pos 1025 ∷ [])
    ∷ (pos 0 ∷ pos 300 ∷ pos 1025 ∷ [])
    ∷ (pos 0 ∷ pos 300 ∷ pos 1025 ∷ [])
    -- (9,000 - 4,000)/5 is 1,000: less 600, more 325
    ∷ (pos 0 ∷ pos 400 ∷ pos 1325 ∷ [])
    -- R(15) is 890, (13,350 - 4,000)/10 is 935: less 1,400/2, more 850/2
    ∷ (pos 0 ∷ pos 235 ∷ pos 1360 ∷ [])
    -- (17,600 - 9,000)/10 is 860: less 800, more 525
    ∷ (pos 0 ∷ pos 60 ∷ pos 1385 ∷ [])
    -- (26,400 - 9,000)/20 is 870 (with 860 for R(30) it would be 840); (26,400 - 17,600)/10 is 880
    ∷ (pos 0 ∷ pos 70 ∷ pos 1395 ∷ [])
    ∷ (pos 0 ∷ pos 80 ∷ pos 1405 ∷ [])
    ∷ (pos 0 ∷ pos 80 ∷ pos 1405 ∷ [])
    -- (22·880 - 2·800)/20 is 888; 900 - 600, 900 + 325
    ∷ (pos 0 ∷ pos 88 ∷ pos 1413 ∷ [])
    ∷ (pos 0 ∷ pos 300 ∷ pos 1225 ∷ [])
    ∷ []
unfolding outside
outside_are = refl

-- so many key maturities, of 1, 2, .. days
keys_up_to : ℕ → List ℤ
unfolding key_after
keys_up_to zero = []
keys_up_to (suc days) = keys_up_to days ++ key_after (suc days)

-- how many of 1, 7 and 8 key maturities the answer counts, none where it refuses 9
pub counted : List ℕ
unfolding answer_to call_row keys_up_to
counted = map (λ (keys : ℕ). (answer_to call_row (keys_up_to keys)).count) (1 ∷ 7 ∷ 8 ∷ 9 ∷ [])

pub counted_are : counted ≡ 1 ∷ 7 ∷ 8 ∷ 0 ∷ []
unfolding counted
counted_are = refl

-- the greatest estimate: the greatest tentative rate, the greatest liquidity, and up to the next multiple less than a
-- step
pub greatest_estimate_is : estimate_most ≡ repo_tentative_most + minimum_most + (step_most - 1)
greatest_estimate_is = refl
