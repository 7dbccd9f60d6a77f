-- Document 02, W-206: clauses 8.10 and 11.1 of source document 001. What bonds share with shares is in `paper`, over
-- the kind of security (Limits) and over statics (Rates); here stands what is a bond's own.
use Rattle.std.specs.Prelude.{◌≡◌, Bool, not, ◌&&◌, ◌||◌, List, [], ◌∷◌, map, ℕ, ◌+◌, ◌-◌, ◌*◌, ◌/◌, ◌%◌, ◌≤◌, ◌<◌, leb, eqb, ℤ, pos, length, get_or}
use Rattle.std.proofs.lemmas.List.Edits.{sets}
use Rattle.paper.specs.declared.GivenStatics.{GivenStatics}
use Rattle.paper.specs.declared.Statics.{Statics}
use Rattle.paper.specs.declared.BondScale.{BondScale}
use Rattle.paper.specs.declared.Figures.{Figures}
use Rattle.paper.specs.declared.Side.{Side}
use Rattle.paper.specs.declared.Term.{Term}
use Rattle.paper.specs.declared.Way.{Way}
use Rattle.paper.specs.declared.Verdict.{Verdict}
use Rattle.paper.specs.declared.Verdict.TheVariants.{Done, OutOfRange, PriceOutOfRange, BandCrossed, NoFaceValue}
use Rattle.paper.specs.Lists.{pick, three, for_levels, all_three, every, some}
use Rattle.paper.specs.Numbers.{volatility_most, age_most, ahead_most, repo_least, repo_most, year_in_day_bp}
use Rattle.paper.specs.Numbers.{one_in_per_cent_hundredths}
use Rattle.paper.specs.Roundings.{Quotient, Rounded, half_up, grown}
use Rattle.paper.specs.Ranges.{within, within_z, unsigned, parts_from, is_price, Static, statics_table, given_of, statics_of}
use Rattle.paper.specs.Ranges.{valid_given, valid_tentative, valid_term, term_at, rate_at, no_rate, no_limits}
use Rattle.paper_desk.specs.Rates.{figures_by_volatility}
use Rattle.paper_desk.specs.Limits.{bond, inward, bond_limit_of, shifted, growing, narrower, band_before, band_limit_for}
use Rattle.paper_desk.specs.Limits.{limit_for, band_by, crossed}
use Rattle.paper.specs.Verdicts.{is_done, Check, first_of}
use Rattle.paper_desk.specs.Desk.{no_moves}
use Rattle.paper.specs.Terms.{term_of}
use Rattle.paper_bonds.specs.declared.BondStatics.{BondStatics}
use Rattle.paper_bonds.specs.declared.Bond.{Bond}
use Rattle.paper_bonds.specs.declared.Flow.{Flow}
use Rattle.paper_bonds.specs.declared.BondLimits.{BondLimits}
use Rattle.paper_bonds.specs.declared.BondAnswer.{BondAnswer}
use Rattle.paper_bonds.specs.BondNumbers.{net_most, money_most, flow_numbers, all_flow_numbers_most, flow_day_least}
use Rattle.paper_bonds.specs.BondNumbers.{flow_day_most, off_book}

-- ---- the statics

-- the rows of the table of statics that a bond has, in its order, each run of them from its place: h and q; wait to
-- x_pr; the maxima; Monitoring and isEWMA. No rule of a bond reads the others, which stand at the least of their ranges
abbrev pub bond_numbers : BondStatics → List ℕ
bond_numbers g =
    let ofRates : List ℕ =
    g.wait ∷ g.rh1 ∷ g.rh2 ∷ g.rh3 ∷ g.liq ∷ g.min1 ∷ g.min2 ∷ g.min3 ∷ g.smax ∷ g.xpr ∷ [] in
    sets (sets (sets (sets (map (λ (row : Static). row.least) statics_table)
    1 (g.h ∷ g.q ∷ []))
    5 ofRates)
    16 (g.pchmax ∷ g.pclmax ∷ []))
    20 (g.monitoring ∷ g.ewma ∷ [])

unfoldable pub bond_given : BondStatics → GivenStatics
unfolding given_of
bond_given g = given_of (map pos (bond_numbers g))

abbrev pub bond_statics : Bond → Statics
bond_statics b = statics_of (bond_given b.statics)

-- ---- cash flows

-- a cash flow as it is lent: two signed numbers
pub record LentFlow : Type 0 where
  pub day : ℤ
  pub amount : ℤ

unfoldable pub flow_at : (numbers : List ℤ) → (at : ℕ) → LentFlow
flow_at numbers at = record { day = get_or numbers at (pos 0); amount = get_or numbers (at + 1) (pos 0) }

unfoldable pub lent_flows : (numbers : List ℤ) → List LentFlow
lent_flows numbers = parts_from flow_at flow_numbers numbers 0 (length numbers / flow_numbers)

-- "at most four cash flows", each whole
unfoldable pub whole_flows : (numbers : List ℤ) → Bool
whole_flows numbers = eqb (length numbers % flow_numbers) 0 && leb (length numbers) all_flow_numbers_most

-- "0 to 10^10 units, days 1..30"
unfoldable pub valid_flow : LentFlow → Bool
valid_flow f =
    within_z (pos flow_day_least) (pos flow_day_most) f.day && within_z (pos 0) (pos money_most) f.amount

unfoldable pub valid_flows : (numbers : List ℤ) → Bool
valid_flows numbers = whole_flows numbers && every valid_flow (lent_flows numbers)

-- the cash flow that two numbers in range are
unfoldable pub flow_of : LentFlow → Flow
flow_of f = record { day = unsigned f.day; amount = unsigned f.amount }

unfoldable pub flows_of : (numbers : List ℤ) → List Flow
flows_of numbers = map flow_of (lent_flows numbers)

-- ---- what is refused 6

abbrev pub terms_of : Bond → List Term
terms_of b = term_of b.first ∷ term_of b.second ∷ term_of b.third ∷ []

-- "Net evaluation (1 to 30,000 hundredths of a per cent), face value and accrued interest (0 to 10^10 units) .. other
-- ranges as for shares"
unfoldable pub valid_numbers : Bond → Bool
valid_numbers b =
    leb b.m ahead_most
    && within 1 net_most b.net
    && leb b.face money_most
    && leb b.accrued money_most
    && leb b.s volatility_most
    && valid_tentative (bond_statics b).h b.tentative.bp
    && leb b.tentative.age age_most

-- with the statics, the terms and REPORate
unfoldable pub valid_bond : Bond → Bool
valid_bond b =
    valid_given (bond_given b.statics)
    && valid_numbers b
    && all_three (λ k. valid_term (term_at (terms_of b) k))
    && within_z repo_least repo_most b.repo

-- ---- the gross evaluation (8.10)

-- "P_sttlmnt/100·Facevalue + НКД", "the gross evaluation .. half up to a unit"
unfoldable pub gross_of : Bond → ℕ
gross_of b = half_up (b.net * b.face) one_in_per_cent_hundredths + b.accrued

-- ---- carry (11.1)

-- "CashFlow(t)·(1 + REPOrate·(k - t)/36500)", "each carry term half up to a unit"
unfoldable pub carry_term : (repo : ℤ) (k : ℕ) → Flow → ℕ
carry_term repo k f = half_up (f.amount * grown year_in_day_bp (k - f.day) repo) year_in_day_bp

-- "from DateT0 + 1 to DateT0 + k": only a cash flow up to day k counts
unfoldable pub carry_due : (repo : ℤ) (k : ℕ) → Flow → ℕ
carry_due repo k f = pick (leb f.day k) (carry_term repo k f) 0

-- "the sum over the flows"
unfoldable pub carry_of : (repo : ℤ) (k : ℕ) → List Flow → ℕ
carry_of repo k [] = 0
carry_of repo k (f ∷ fs) = carry_due repo k f + carry_of repo k fs

-- ---- the figures

unfoldable pub bond_figures : Bond → Figures
bond_figures b = figures_by_volatility (bond_statics b) b.m b.s b.tentative

-- S_1
abbrev pub first_rate : Bond → ℕ
first_rate b = rate_at (bond_figures b).rates 0

-- what a term's limits take
abbrev pub scale_at : Bond → List Flow → (k : ℕ) → BondScale
scale_at b flows k =
    record { carry = carry_of b.repo k flows; accrued = b.accrued; face = b.face; repo = b.repo }

-- the 20 per cent, which grow with REPORate, before they are rounded and after
abbrev pub twenty_before : BondScale → Side → (p k : ℕ) → Quotient
twenty_before scale side p k = growing k scale.repo (shifted side p off_book)

abbrev pub twenty_limit : BondScale → Side → (p k : ℕ) → ℕ
twenty_limit scale side p k = bond_limit_of (inward side) scale (twenty_before scale side p k)

-- off the book, rounded inward too (W-209): "the narrower" of the band limit and that of the 20 per cent
abbrev pub off_before : BondScale → Statics → (p s1 k : ℕ) → (repo : ℤ) → (c : ℕ) → Side → Quotient
off_before scale st p s1 k repo c side =
    narrower side (band_before (bond scale) st p s1 k repo c side) (twenty_before scale side p k)

abbrev pub off_limit : BondScale → Statics → (p s1 k : ℕ) → (repo : ℤ) → (c : ℕ) → Side → ℕ
off_limit scale st p s1 k repo c side = limit_for (inward side) (bond scale) st (off_before scale st p s1 k repo c side)

-- what a limit is: x is what is left of the grown price, in hundredths of a per cent of the face value, rounded that
-- way, and 0 where nothing is left
pub record IsPerCent (way : Way) (face grown off x : ℕ) : Type 0 where
  pub rounded : off ≤ grown → Rounded way x (record { num = one_in_per_cent_hundredths * (grown - off); den = face })
  pub negative : grown < off → x ≡ 0

-- the limits of a term, from P and S_1: a bond's do not move
unfoldable pub limits_from : BondScale → Statics → (p s1 : ℕ) → Term → BondLimits
limits_from scale st p s1 x =
    record {
      band = band_by (band_limit_for (bond scale) st p s1) no_moves x;
      off = band_by (off_limit scale st p s1) no_moves x;
    }

unfoldable pub limits_of : Bond → List Flow → Term → BondLimits
limits_of b flows x = limits_from (scale_at b flows x.k) (bond_statics b) (gross_of b) (first_rate b) x

-- off the book the lower limit is not below the band's, nor the upper above it
pub record WithinBand (x : BondLimits) : Type 0 where
  pub lower : x.band.lower ≤ x.off.lower
  pub upper : x.off.upper ≤ x.band.upper

-- "The band is crossed by the same test": on the book or off it, where it may cross alone (W-209)
unfoldable pub is_crossed : BondLimits → Bool
is_crossed x = crossed x.band || crossed x.off

-- ---- the call

abbrev pub all_limits : Bond → List Flow → List BondLimits
all_limits b flows = three (λ k. limits_of b flows (term_at (terms_of b) k))

-- "17, face value 0, after 6"; 7, the gross evaluation is no price; "crossed by the same test and answers 9"
unfoldable pub bond_checks : Bond → (numbers : List ℤ) → List Check
bond_checks b numbers =
    record { verdict = OutOfRange; applies = not (valid_bond b && valid_flows numbers) }
    ∷ record { verdict = NoFaceValue; applies = eqb b.face 0 }
    ∷ record { verdict = PriceOutOfRange; applies = not (is_price (gross_of b)) }
    ∷ record { verdict = BandCrossed; applies = some is_crossed (all_limits b (flows_of numbers)) }
    ∷ []

unfoldable pub refused_bond : Verdict → BondAnswer
refused_bond v =
    record {
      verdict = v;
      gross = 0;
      tentative = record { bp = 0; age = 0 };
      rates = for_levels (λ l. no_rate);
      limits = three (λ k. record { band = no_limits; off = no_limits });
    }

unfoldable pub accepted_bond : Bond → List Flow → BondAnswer
accepted_bond b flows =
    record {
      verdict = Done;
      gross = gross_of b;
      tentative = (bond_figures b).tentative;
      rates = (bond_figures b).rates;
      limits = all_limits b flows;
    }

-- what the call answers, for every input
unfoldable pub bond_answer : Bond → (numbers : List ℤ) → BondAnswer
bond_answer b numbers =
    let v : Verdict = first_of (bond_checks b numbers) in
    pick (is_done v) (accepted_bond b (flows_of numbers)) (refused_bond v)
