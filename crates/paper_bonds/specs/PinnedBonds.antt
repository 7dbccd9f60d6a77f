-- Document 02's W-206 on both sides of its lines, where BondCases has no figure: the ranges, the number of cash flows,
-- the order 6, 17, 7, 9, each term's band, and a repo band that was worked out. It may use Bonds, the rows of BondCases
-- and the tests of PinnedRanges.
use Rattle.std.specs.Prelude.{◌≡◌, refl, Bool, true, false, ◌&&◌, List, [], ◌∷◌, ◌++◌, map, ℕ, ◌+◌, ℤ, pos, negsuc, replicate}
use Rattle.paper.specs.declared.AskedTerm.{AskedTerm}
use Rattle.paper.specs.declared.RepoBand.TheVariants as band
use Rattle.paper.specs.declared.Verdict.{Verdict}
use Rattle.paper.specs.declared.Verdict.TheVariants.{Done, NotAscending}
use Rattle.paper.specs.Verdicts.{number_of}
use Rattle.paper.specs.PinnedRanges.{Ranged, range, values_of, straddles, at_the_ends_alone}
use Rattle.paper_bonds.specs.declared.Bond.{Bond}
use Rattle.paper_bonds.specs.Bonds.{valid_bond, valid_flows}
use Rattle.paper_bonds.specs.BondCases.{net_at, face_at, accrued_at, terms_at, minima_at, pchmax_at}
use Rattle.paper_bonds.specs.BondCases.{ewma_at, bond_from, plain_bond, answered, answer_to, first_band}

-- ---- "or the answer is 6": the ranges, in the order of the row; h is 1, and where two are ordered the other is an end

rate_range : Ranged
rate_range = (pos 0, negsuc 9998, pos 9999)

-- "three terms, each with days k 0..30 and repo band RRcL ≤ RRcH, -9,999..9,999 bp"
term_ranges : List Ranged
term_ranges = range 2 0 30 ∷ (pos 0, negsuc 9998, pos 1) ∷ (pos 1, pos 0, pos 9999) ∷ []

bond_ranges : List Ranged
unfolding rate_range term_ranges
bond_ranges =
    -- m; "Net evaluation (1 to 30,000 hundredths of a per cent), face value and accrued interest (0 to 10^10 units)"
    range 0 0 10
    ∷ range 10000 1 30000
    ∷ range 10000 0 10000000000
    ∷ range 0 0 10000000000
    -- REPORate; s; the tentative rate, to the top of its range (W-208); its age
    ∷ rate_range
    ∷ range 20000 0 1000000
    ∷ range 0 0 100000
    ∷ range 0 0 250
    ∷ (term_ranges
    ++ (term_ranges
    ++ (term_ranges
    -- h, q, n, rh_1 to rh_3, liq
    ++ (range 1 1 1000
    ∷ range 300 100 1000
    ∷ range 5 1 250
    ∷ range 2 1 5
    ∷ range 10 2 20
    ∷ range 20 10 30
    ∷ range 50 0 500
    -- the minima, S_max, x_pr, PcH_max, PcL_max, Monitoring, isEWMA
    ∷ range 2000 0 4000
    ∷ range 4000 2000 6000
    ∷ range 6000 4000 8000
    ∷ range 8000 6000 10000
    ∷ range 200 50 1000
    ∷ range 2000 0 10000
    ∷ range 2000 0 10000
    ∷ range 1 0 1
    ∷ range 1 0 1
    ∷ []))))

-- "at most four cash flows (0 to 10^10 units, days 1..30)": the second of two is looked at as the first
flow_ranges : List Ranged
flow_ranges = range 5 1 30 ∷ range 100 0 10000000000 ∷ range 30 1 30 ∷ range 100 0 10000000000 ∷ []

bond_row : List ℤ
unfolding bond_ranges values_of
bond_row = values_of bond_ranges

flow_row : List ℤ
unfolding flow_ranges values_of
flow_row = values_of flow_ranges

-- whether the answer is another than 6
in_range : (row flows : List ℤ) → Bool
unfolding bond_from answered
in_range row flows = valid_bond (bond_from row) && valid_flows flows

pub ends : List (List Bool)
unfolding straddles in_range bond_row flow_row
ends =
    straddles (λ (row : List ℤ). in_range row flow_row) bond_row 0 bond_ranges
    ++ straddles (in_range bond_row) flow_row 0 flow_ranges

pub ends_are : ends ≡ at_the_ends_alone 37
unfolding ends at_the_ends_alone
ends_are = refl

-- so many numbers: "at most four cash flows", each whole
pub lengths : List Bool
unfolding in_range bond_row
lengths = map (λ (count : ℕ). in_range bond_row (replicate count (pos 1))) (0 ∷ 1 ∷ 2 ∷ 7 ∷ 8 ∷ 9 ∷ 10 ∷ [])

pub lengths_are : lengths ≡ true ∷ false ∷ true ∷ false ∷ true ∷ false ∷ false ∷ []
unfolding lengths
lengths_are = refl

-- ---- 6, 17, 7, 9

number_to : List (ℕ × ℤ) → (flows : List ℤ) → ℕ
unfolding answer_to
number_to changes flows = number_of (answer_to changes flows).verdict

-- isEWMA no with a first minimum of 0 and PcH_max 0: the upper limit is P, and the lower one P grown with RRcL
touching : (term : ℕ) (low : ℕ) → List (ℕ × ℤ)
touching term low =
    (ewma_at, pos 0) ∷ (minima_at, pos 0) ∷ (pchmax_at, pos 0)
    ∷ (terms_at + term, pos 30) ∷ (terms_at + term + 1, pos low) ∷ (terms_at + term + 2, pos 9999) ∷ []

pub refusals : List (List ℕ)
unfolding number_to touching
refusals =
    -- 6 before 17: a net evaluation of 0, a cash flow of day 31; 17 alone
    (number_to ((net_at, pos 0) ∷ (face_at, pos 0) ∷ []) []
    ∷ number_to ((face_at, pos 0) ∷ []) (pos 31 ∷ pos 1 ∷ [])
    ∷ number_to ((face_at, pos 0) ∷ (accrued_at, pos 1) ∷ []) []
    ∷ [])
    -- 17 before 7: without a face value P is the accrued interest, here 0
    ∷ (number_to ((face_at, pos 0) ∷ []) [] ∷ number_to ((face_at, pos 1) ∷ (net_at, pos 4999) ∷ []) [] ∷ [])
    -- 7 before 9: P above 10^10, with a crossed band and without
    ∷ (number_to ((accrued_at, pos 10000000000) ∷ touching 0 9999) []
    ∷ number_to ((accrued_at, pos 9999990000) ∷ touching 0 9999) []
    ∷ [])
    -- 9: "a rounded lower band limit above its upper one"; 10,000.49 is rounded to 10,000, 10,000.58 to 10,001. Any of
    -- the three terms
    ∷ map (λ (low : ℕ). number_to (touching 0 low) []) (0 ∷ 6 ∷ 7 ∷ [])
    ∷ map (λ (term : ℕ). number_to (touching term 7) []) (0 ∷ 3 ∷ 6 ∷ [])
    ∷ []

pub refusals_are : refusals
    ≡ (6 ∷ 6 ∷ 17 ∷ [])
    ∷ (17 ∷ 7 ∷ [])
    ∷ (7 ∷ 9 ∷ [])
    ∷ (0 ∷ 0 ∷ 9 ∷ [])
    ∷ (9 ∷ 9 ∷ 9 ∷ [])
    ∷ []
unfolding refusals
refusals_are = refl

-- ---- a repo band that was worked out (W-201)

-- the plain bond, its first term of 2 days with the band of a pair
worked_bond : Verdict → (low high : ℤ) → Bond
unfolding bond_from plain_bond
worked_bond v low high =
    let b : Bond = bond_from plain_bond in
    let term : AskedTerm =
    record { k = 2; band = band.WorkedOut (record { verdict = v; lower = low; upper = high }) } in
    record {
      m = b.m;
      net = b.net;
      face = b.face;
      accrued = b.accrued;
      s = b.s;
      tentative = b.tentative;
      statics = b.statics;
      first = term;
      second = b.second;
      third = b.third;
      repo = b.repo;
    }

-- it counts as a given one; a pair that was refused has none, and one out of range is 6 too
pub worked_terms : List (List ℕ)
unfolding worked_bond answered first_band
worked_terms =
    first_band (answered (worked_bond Done (negsuc 729) (pos 1460)) [])
    ∷ (number_of (answered (worked_bond NotAscending (pos 0) (pos 0)) []).verdict
    ∷ number_of (answered (worked_bond Done (pos 0) (pos 10000)) []).verdict
    ∷ [])
    ∷ []

pub worked_terms_lem : worked_terms ≡ (9646 ∷ 10358 ∷ 9646 ∷ 10358 ∷ []) ∷ (6 ∷ 6 ∷ []) ∷ []
unfolding worked_terms
worked_terms_lem = refl
