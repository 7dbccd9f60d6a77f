-- Document 02, W-206: bonds worked out from the definitions, on both sides of each line. A face value of 10,000 units
-- makes a unit a hundredth of a per cent, so that most figures can be read off.
use Rattle.std.specs.Prelude.{◌≡◌, refl, List, [], ◌∷◌, ◌++◌, map, ℕ, ◌+◌, ◌*◌, ℤ, pos, negsuc, get_or}
use Rattle.paper.specs.declared.AskedTerm.{AskedTerm}
use Rattle.paper.specs.declared.Rate.{Rate}
use Rattle.paper.specs.declared.Side.TheVariants.{Upper}
use Rattle.paper.specs.declared.RepoBand.TheVariants as band
use Rattle.paper.specs.Lists.{every, some}
use Rattle.paper.specs.Numbers.{one_in_per_cent_hundredths}
use Rattle.paper.specs.Roundings.{Quotient, down, half_up, up, to_grid, lesser_of, greater_of, grown}
use Rattle.paper.specs.Least.{first, least, least_multiple}
use Rattle.paper.specs.Ranges.{unsigned, parts_from, is_price, valid_statics, statics_of, valid_given, tentative_top}
use Rattle.paper.specs.Ranges.{valid_tentative, valid_term, no_limits}
use Rattle.paper_desk.specs.Rates.{least_step, tentative_rate, tentative_after, meets_requirement, days_of, minimum_of}
use Rattle.paper_desk.specs.Rates.{covers, level_rate, unmodelled, figures_by_volatility}
use Rattle.paper_desk.specs.Limits.{bond, grown_price, bond_limit_of, shifted, farthest, spread, monitored, narrower}
use Rattle.paper_desk.specs.Limits.{band_before, crossed}
use Rattle.paper.specs.Terms.{worked_repo, repo_of, term_of}
use Rattle.paper.specs.Verdicts.{number_of, is_done, first_of}
use Rattle.paper.specs.PinnedValues.{◌but◌, signed, plain}
use Rattle.paper_bonds.specs.declared.Bond.{Bond}
use Rattle.paper_bonds.specs.declared.BondLimits.{BondLimits}
use Rattle.paper_bonds.specs.declared.BondAnswer.{BondAnswer}
use Rattle.paper_bonds.specs.Bonds.{bond_given, flow_at, lent_flows, whole_flows, valid_flow, valid_flows, flow_of}
use Rattle.paper_bonds.specs.Bonds.{flows_of, valid_numbers, valid_bond, gross_of, carry_term, carry_due, carry_of}
use Rattle.paper_bonds.specs.Bonds.{bond_statics, bond_figures, first_rate, scale_at, limits_from, limits_of}
use Rattle.paper_bonds.specs.Bonds.{is_crossed, bond_checks, refused_bond}
use Rattle.paper_bonds.specs.Bonds.{accepted_bond, bond_answer}

-- ---- a bond as a row of numbers, in the order of the evening's line

abbrev pub m_at : ℕ
m_at = 0

abbrev pub net_at : ℕ
net_at = 1

abbrev pub face_at : ℕ
face_at = 2

abbrev pub accrued_at : ℕ
accrued_at = 3

abbrev pub repo_at : ℕ
repo_at = 4

abbrev pub s_at : ℕ
s_at = 5

abbrev pub tentative_at : ℕ
tentative_at = 6

abbrev pub age_at : ℕ
age_at = 7

-- k, RRcL and RRcH of the three terms
abbrev pub terms_at : ℕ
terms_at = 8

-- the sixteen statics
abbrev pub statics_at : ℕ
statics_at = 17

abbrev pub minima_at : ℕ
minima_at = 24

abbrev pub smax_at : ℕ
smax_at = 27

abbrev pub pchmax_at : ℕ
pchmax_at = 29

abbrev pub pclmax_at : ℕ
pclmax_at = 30

abbrev pub monitoring_at : ℕ
monitoring_at = 31

abbrev pub ewma_at : ℕ
ewma_at = 32

term_from : (xs : List ℤ) → (at : ℕ) → AskedTerm
unfolding unsigned
term_from xs at =
    record { k = plain xs at; band = band.AsGiven (record { low = signed xs (at + 1); high = signed xs (at + 2) }) }

unfoldable pub bond_from : (xs : List ℤ) → Bond
unfolding unsigned term_from
bond_from xs =
    record {
      m = plain xs m_at;
      net = plain xs net_at;
      face = plain xs face_at;
      accrued = plain xs accrued_at;
      s = plain xs s_at;
      tentative = record { bp = plain xs tentative_at; age = plain xs age_at };
      statics =
          record {
            h = plain xs statics_at;
            q = plain xs (statics_at + 1);
            wait = plain xs (statics_at + 2);
            rh1 = plain xs (statics_at + 3);
            rh2 = plain xs (statics_at + 4);
            rh3 = plain xs (statics_at + 5);
            liq = plain xs (statics_at + 6);
            min1 = plain xs minima_at;
            min2 = plain xs (minima_at + 1);
            min3 = plain xs (minima_at + 2);
            smax = plain xs smax_at;
            xpr = plain xs (smax_at + 1);
            pchmax = plain xs pchmax_at;
            pclmax = plain xs pclmax_at;
            monitoring = plain xs monitoring_at;
            ewma = plain xs ewma_at;
          };
      first = term_from xs terms_at;
      second = term_from xs (terms_at + 3);
      third = term_from xs (terms_at + 6);
      repo = signed xs repo_at;
    }

-- document 01's statics Z with S_max 4,000; par, terms of 1, 2 and 30 days, all repo rates 0
unfoldable pub plain_bond : List ℤ
plain_bond =
    pos 0 ∷ pos 10000 ∷ pos 10000 ∷ pos 0 ∷ pos 0 ∷ pos 20000 ∷ pos 600 ∷ pos 0
    ∷ pos 1 ∷ pos 0 ∷ pos 0 ∷ pos 2 ∷ pos 0 ∷ pos 0 ∷ pos 30 ∷ pos 0 ∷ pos 0
    ∷ pos 100 ∷ pos 300 ∷ pos 5 ∷ pos 2 ∷ pos 5 ∷ pos 8 ∷ pos 50
    ∷ pos 500 ∷ pos 700 ∷ pos 900 ∷ pos 4000
    ∷ pos 200 ∷ pos 2000 ∷ pos 2000 ∷ pos 1 ∷ pos 1 ∷ []

-- what the call answers. It opens every definition that the call computes with, so that a table opens this one alone
unfoldable pub answered : Bond → (numbers : List ℤ) → BondAnswer
unfolding down half_up up to_grid lesser_of greater_of grown first least least_multiple unsigned parts_from is_price
    valid_statics statics_of valid_given tentative_top valid_tentative valid_term least_step tentative_rate tentative_after
    meets_requirement days_of minimum_of covers level_rate unmodelled figures_by_volatility bond_limit_of shifted farthest
    spread monitored narrower crossed worked_repo repo_of term_of is_done first_of every some bond_given flow_at lent_flows
    whole_flows valid_flow valid_flows flow_of flows_of valid_numbers valid_bond gross_of carry_term carry_due carry_of bond_figures
    limits_from limits_of is_crossed bond_checks refused_bond accepted_bond bond_answer
answered b numbers = bond_answer b numbers

-- the plain bond with these changes
changed : List (ℕ × ℤ) → List ℤ
unfolding plain_bond
changed [] = plain_bond
changed (c ∷ cs) = changed cs but c

-- what is answered to the plain bond with these changes, and these cash flows
unfoldable pub answer_to : List (ℕ × ℤ) → (flows : List ℤ) → BondAnswer
unfolding changed bond_from answered
answer_to changes flows = answered (bond_from (changed changes)) flows

-- the number, P, the tentative rate, its age and the three rates
unfoldable pub head : BondAnswer → List ℕ
head a =
    number_of a.verdict ∷ a.gross ∷ a.tentative.bp ∷ a.tentative.age ∷ map (λ (r : Rate). r.bp) a.rates

-- the four limits of each term: lower and upper, and the two off the book
four_of : BondLimits → List ℕ
four_of x = x.band.lower ∷ x.band.upper ∷ x.off.lower ∷ x.off.upper ∷ []

unfoldable pub bands : BondAnswer → List (List ℕ)
unfolding four_of
bands a = map four_of a.limits

-- of the first term
unfoldable pub first_band : BondAnswer → List ℕ
unfolding four_of
first_band a = four_of (get_or a.limits 0 (record { band = no_limits; off = no_limits }))

-- ---- the evaluation and the rates

pub worked_heads : List (List ℕ)
unfolding head answer_to
worked_heads =
    head (answer_to [] [])
    ∷ head (answer_to ((net_at, pos 9955) ∷ (face_at, pos 1000) ∷ []) [])
    ∷ head (answer_to ((net_at, pos 9954) ∷ (face_at, pos 1000) ∷ []) [])
    ∷ head (answer_to ((accrued_at, pos 250) ∷ []) [])
    ∷ head (answer_to ((net_at, pos 1) ∷ (face_at, pos 5000) ∷ []) [])
    ∷ head (answer_to ((net_at, pos 1) ∷ (face_at, pos 4999) ∷ []) [])
    ∷ head (answer_to ((net_at, pos 30000) ∷ (face_at, pos 1) ∷ []) [])
    ∷ head (answer_to ((face_at, pos 10000000000) ∷ []) [])
    ∷ head (answer_to ((accrued_at, pos 9999990000) ∷ []) [])
    ∷ head (answer_to ((accrued_at, pos 9999990001) ∷ []) [])
    ∷ head (answer_to ((s_at, pos 1000000) ∷ []) [])
    ∷ head (answer_to ((s_at, pos 3333) ∷ (tentative_at, pos 700) ∷ (age_at, pos 4) ∷ []) [])
    ∷ head (answer_to ((s_at, pos 3333) ∷ (tentative_at, pos 700) ∷ (age_at, pos 3) ∷ []) [])
    ∷ head (answer_to ((m_at, pos 6) ∷ (tentative_at, pos 700) ∷ []) [])
    ∷ head (answer_to ((ewma_at, pos 0) ∷ []) [])
    ∷ []

pub worked_heads_lem : worked_heads
    ≡ (0 ∷ 10000 ∷ 600 ∷ 1 ∷ 700 ∷ 1100 ∷ 1300 ∷ [])
    -- the gross evaluation, half up to a unit: 995.5 and 995.4
    ∷ (0 ∷ 996 ∷ 600 ∷ 1 ∷ 700 ∷ 1100 ∷ 1300 ∷ [])
    ∷ (0 ∷ 995 ∷ 600 ∷ 1 ∷ 700 ∷ 1100 ∷ 1300 ∷ [])
    -- the accrued interest is in P
    ∷ (0 ∷ 10250 ∷ 600 ∷ 1 ∷ 700 ∷ 1100 ∷ 1300 ∷ [])
    -- P is 1; 0.4999 is 0, which is no price (7); face values 1 and 10^10
    ∷ (0 ∷ 1 ∷ 600 ∷ 1 ∷ 700 ∷ 1100 ∷ 1300 ∷ [])
    ∷ (7 ∷ 0 ∷ 0 ∷ 0 ∷ 0 ∷ 0 ∷ 0 ∷ [])
    ∷ (0 ∷ 3 ∷ 600 ∷ 1 ∷ 700 ∷ 1100 ∷ 1300 ∷ [])
    ∷ (0 ∷ 10000000000 ∷ 600 ∷ 1 ∷ 700 ∷ 1100 ∷ 1300 ∷ [])
    -- P is 10^10, and one more
    ∷ (0 ∷ 10000000000 ∷ 600 ∷ 1 ∷ 700 ∷ 1100 ∷ 1300 ∷ [])
    ∷ (7 ∷ 0 ∷ 0 ∷ 0 ∷ 0 ∷ 0 ∷ 0 ∷ [])
    -- t is 30,000, which nothing holds (W-208): the bond maximum holds each rate
    ∷ (0 ∷ 10000 ∷ 30000 ∷ 0 ∷ 4000 ∷ 4000 ∷ 4000 ∷ [])
    -- one step down where it has waited, as in cases 9 and 1 of document 01; case 2 with m 6
    ∷ (0 ∷ 10000 ∷ 600 ∷ 0 ∷ 700 ∷ 1100 ∷ 1300 ∷ [])
    ∷ (0 ∷ 10000 ∷ 700 ∷ 4 ∷ 800 ∷ 1200 ∷ 1500 ∷ [])
    ∷ (0 ∷ 10000 ∷ 700 ∷ 1 ∷ 1500 ∷ 2300 ∷ 2900 ∷ [])
    -- isEWMA no: the minima, and nothing moves
    ∷ (0 ∷ 10000 ∷ 600 ∷ 0 ∷ 500 ∷ 700 ∷ 900 ∷ [])
    ∷ []
unfolding worked_heads
worked_heads_lem = refl

-- ---- the limits

pub worked_bands : List (List (List ℕ))
unfolding bands answer_to
worked_bands =
    bands (answer_to [] [])
    ∷ bands (answer_to [] (pos 30 ∷ pos 400 ∷ pos 1 ∷ pos 100 ∷ pos 2 ∷ pos 200 ∷ []))
    ∷ bands (answer_to ((repo_at, pos 3650) ∷ (monitoring_at, pos 0) ∷ []) [])
    ∷ bands (answer_to ((repo_at, pos 3650) ∷ (monitoring_at, pos 0) ∷ []) (pos 1 ∷ pos 500 ∷ pos 1 ∷ pos 500 ∷ []))
    ∷ bands (answer_to ((repo_at, negsuc 9998) ∷ (monitoring_at, pos 0) ∷ []) [])
    ∷ bands
    (answer_to ((terms_at, pos 2) ∷ (terms_at + 1, negsuc 729) ∷ (terms_at + 2, pos 1460) ∷ (repo_at, pos 3650) ∷ []) [])
    ∷ []

pub worked_bands_lem : worked_bands
    -- S_1/x_pr is 3.5 per cent
    ≡ ((9650 ∷ 10350 ∷ 9650 ∷ 10350 ∷ [])
    ∷ (9650 ∷ 10350 ∷ 9650 ∷ 10350 ∷ [])
    ∷ (9650 ∷ 10350 ∷ 9650 ∷ 10350 ∷ [])
    ∷ [])
    -- carry: the term of 1 day has the cash flow of day 1 and not that of day 2; that of 2 days has both; that of 30
    -- has all three, in any order
    ∷ ((9550 ∷ 10250 ∷ 9550 ∷ 10250 ∷ [])
    ∷ (9350 ∷ 10050 ∷ 9350 ∷ 10050 ∷ [])
    ∷ (8950 ∷ 9650 ∷ 8950 ∷ 9650 ∷ [])
    ∷ [])
    -- Monitoring no: a thousandth a day on 20 per cent either way
    ∷ ((8008 ∷ 12012 ∷ 8008 ∷ 12012 ∷ [])
    ∷ (8016 ∷ 12024 ∷ 8016 ∷ 12024 ∷ [])
    ∷ (8240 ∷ 12360 ∷ 8240 ∷ 12360 ∷ [])
    ∷ [])
    -- each carry term half up: at 2 days twice 500.5 is 1,002, and at 30 days twice 514.5 is 1,030
    ∷ ((7008 ∷ 11012 ∷ 7008 ∷ 11012 ∷ [])
    ∷ (7014 ∷ 11022 ∷ 7014 ∷ 11022 ∷ [])
    ∷ (7210 ∷ 11330 ∷ 7210 ∷ 11330 ∷ [])
    ∷ [])
    -- a REPORate below zero
    ∷ ((7978 ∷ 11967 ∷ 7978 ∷ 11967 ∷ [])
    ∷ (7956 ∷ 11934 ∷ 7956 ∷ 11934 ∷ [])
    ∷ (7343 ∷ 11014 ∷ 7343 ∷ 11014 ∷ [])
    ∷ [])
    -- the monitored limits grow with the term's own repo band, 9,646.14 and 10,358.28, and not with REPORate
    ∷ ((9646 ∷ 10358 ∷ 9646 ∷ 10358 ∷ [])
    ∷ (9650 ∷ 10350 ∷ 9650 ∷ 10350 ∷ [])
    ∷ (9650 ∷ 10350 ∷ 9650 ∷ 10350 ∷ [])
    ∷ [])
    ∷ []
unfolding worked_bands
worked_bands_lem = refl

-- Monitoring no, and both maxima so many basis points
around_par : (maximum : ℕ) → List (ℕ × ℤ)
around_par maximum = (monitoring_at, pos 0) ∷ (pchmax_at, pos maximum) ∷ (pclmax_at, pos maximum) ∷ []

pub worked_first : List (List ℕ)
unfolding around_par first_band answer_to
worked_first =
    first_band (answer_to ((accrued_at, pos 250) ∷ []) [])
    ∷ first_band (answer_to ((face_at, pos 1000) ∷ (monitoring_at, pos 0) ∷ (pchmax_at, pos 5) ∷ (pclmax_at, pos 5) ∷ []) [])
    ∷ first_band (answer_to ((face_at, pos 20000) ∷ around_par 1) (pos 1 ∷ pos 1 ∷ []))
    ∷ first_band (answer_to ((face_at, pos 20000) ∷ around_par 0) (pos 1 ∷ pos 2 ∷ []))
    ∷ first_band (answer_to [] (pos 1 ∷ pos 10000 ∷ []))
    ∷ first_band (answer_to [] (pos 1 ∷ pos 20000 ∷ []))
    ∷ first_band (answer_to ((monitoring_at, pos 0) ∷ (pchmax_at, pos 3000) ∷ (pclmax_at, pos 3000) ∷ []) [])
    ∷ first_band (answer_to ((net_at, pos 30000) ∷ (face_at, pos 1) ∷ []) [])
    ∷ first_band (answer_to ((face_at, pos 10000000000) ∷ []) [])
    ∷ first_band (answer_to ((net_at, pos 1) ∷ (face_at, pos 5000) ∷ []) [])
    ∷ first_band (answer_to ((accrued_at, pos 9999990000) ∷ []) [])
    ∷ []

pub worked_first_lem : worked_first
    -- the accrued interest is taken off again: 9,891.25 and 10,608.75, less 250
    ≡ (9641 ∷ 10359 ∷ 9641 ∷ 10359 ∷ [])
    -- the grown price half up to a unit, before it is taken per cent: 999.5 and 1,000.5 of a face value of 1,000
    ∷ (10000 ∷ 10010 ∷ 10000 ∷ 10010 ∷ [])
    -- W-209: the limit inward: 19,997 of 20,000 is 9,998.5 and 20,001 is 10,000.5; 19,998 is 9,999
    ∷ (9999 ∷ 10000 ∷ 9999 ∷ 10000 ∷ [])
    ∷ (9999 ∷ 9999 ∷ 9999 ∷ 9999 ∷ [])
    -- negative limits are zero: -350, and then both
    ∷ (0 ∷ 350 ∷ 0 ∷ 350 ∷ [])
    ∷ (0 ∷ 0 ∷ 0 ∷ 0 ∷ [])
    -- off the book the 20 per cent are the narrower
    ∷ (7000 ∷ 13000 ∷ 8000 ∷ 12000 ∷ [])
    -- face values 1 and 10^10, P at 1 and at 10^10
    ∷ (30000 ∷ 30000 ∷ 30000 ∷ 30000 ∷ [])
    ∷ (9650 ∷ 10350 ∷ 9650 ∷ 10350 ∷ [])
    ∷ (2 ∷ 2 ∷ 2 ∷ 2 ∷ [])
    ∷ (0 ∷ 350010000 ∷ 0 ∷ 350010000 ∷ [])
    ∷ []
unfolding worked_first
worked_first_lem = refl

-- ---- what a limit is inside of (W-209): the quotient of the grown price that W-206 has rounded half up to a unit

-- a net evaluation of 93.66 per cent of 10,000,000 units, REPORate 7.33 per cent, a first term of 7 days, Monitoring no
-- and PcH_max 20 per cent
passing_bond : Bond
unfolding changed bond_from
passing_bond =
    bond_from
    (changed
    ((net_at, pos 9366) ∷ (face_at, pos 10000000) ∷ (repo_at, pos 733) ∷ (terms_at, pos 7) ∷ (monitoring_at, pos 0) ∷ []))

-- its grown price above, before it is rounded
grown_upper : Quotient
unfolding passing_bond answered
grown_upper =
    band_before (bond (scale_at passing_bond [] 7)) (bond_statics passing_bond) (gross_of passing_bond) (first_rate passing_bond)
    7 (pos 0) 0 Upper

-- a price in hundred-thousandths of a hundredth of a per cent of the face value, rounded down
hundred_thousandths : Quotient → ℕ
unfolding passing_bond answered
hundred_thousandths x = down (one_in_per_cent_hundredths * 100000 * x.num) (x.den * passing_bond.face)

-- the limits of the first term; then the upper one by the exact grown price, and by the rounded one
pub passing : List ℕ
unfolding passing_bond grown_upper hundred_thousandths answered first_band
passing =
    first_band (answered passing_bond [])
    ++ (hundred_thousandths grown_upper ∷ hundred_thousandths (record { num = grown_price grown_upper; den = 1 }) ∷ [])

-- 9,366,000·1.2·(1 + 7.33·7/36,500) is 11,254,999.54 units, and half up 11,255,000: the limit that is published is
-- inside the quotient of the rounded price, on which it stands, and passes that of the exact price
pub half_up_passes : passing ≡ 7504 ∷ 11255 ∷ 7504 ∷ 11255 ∷ 1125499954 ∷ 1125500000 ∷ []
unfolding passing
half_up_passes = refl

-- ---- 9, on the book and off it (W-209)

-- P of 100 units, of which a hundred make a hundredth of a per cent; half of it flows before the first term ends
small_flows : List ℤ
small_flows = pos 1 ∷ pos 50 ∷ []

small_bond : (maximum : ℕ) → Bond
unfolding around_par changed bond_from
small_bond maximum = bond_from (changed ((net_at, pos 1) ∷ (face_at, pos 1000000) ∷ around_par maximum))

-- the number, and the limits of the first term, which 9 is judged of
pub judged_first : (maximum : ℕ) → List ℕ
unfolding small_bond small_flows answered four_of
judged_first maximum =
    number_of (answered (small_bond maximum) small_flows).verdict
    ∷ four_of (limits_of (small_bond maximum) (flows_of small_flows) (term_of (small_bond maximum).first))

-- "A band narrower than a grid step may now cross and answers 9.", bonds' too; off the book one may cross where the
-- band does not
pub crossings_are : map judged_first (2000 ∷ 5000 ∷ [])
    -- 0.3 and 0.7 of a hundredth: both cross
    ≡ (9 ∷ 1 ∷ 0 ∷ 1 ∷ 0 ∷ [])
    -- on the book 0 and 1, exactly; off it 0.3 and 0.7
    ∷ (9 ∷ 0 ∷ 1 ∷ 1 ∷ 0 ∷ [])
    ∷ []
unfolding judged_first
crossings_are = refl
