-- Laws of a bond's cash flows: those from a place on, what those in range give, and how large Carry can be.
use Rattle.std.specs.Prelude.{◌≡◌, refl, Bool, true, false, ℕ, zero, suc, ◌+◌, ◌-◌, ◌*◌, ◌/◌, ◌%◌, ◌≤◌, leb, ℤ, pos, length}
use Rattle.std.proofs.Math.Path.{ap}
use Rattle.std.proofs.Common.{sym, ◌∙◌, mul-le-mul, leb-true, eqb-true}
use mathlib.Core.List.{List, [], ◌∷◌, map}
use native.Mathlib.Omega.{arith}
use Rattle.std.specs.Int.Signed.{mag}
use Rattle.paper.specs.Lists.{pick, every}
use Rattle.paper.specs.Numbers.{term_days_most, repo_most, year_in_day_bp}
use Rattle.paper.specs.Ranges.{within_z, parts_from}
use Rattle.paper.specs.Roundings.{grown}
use Rattle.paper.proofs.Logic.{and_left, and_right}
use Rattle.paper.proofs.Roundings.{half_le}
use Rattle.exact.specs.SignedLaws.{grown_near_base, unsigned_le}
use Rattle.std.specs.Prelude.{◌<◌, get_or, take, drop}
use Rattle.std.proofs.lemmas.List.{get_or-drop, get_or-take, length-drop}
use Rattle.paper_bonds.specs.declared.Flow.{Flow}
use Rattle.paper_bonds.specs.BondNumbers.{money_most, flow_numbers, all_flow_numbers_most, flow_day_least, flow_day_most}
use Rattle.paper_bonds.specs.Bonds.{LentFlow, flow_at, lent_flows, whole_flows, valid_flow, valid_flows, flow_of, flows_of}
use Rattle.paper_bonds.specs.Bonds.{carry_term, carry_due, carry_of}

-- ---- what Carry is worked out in: the term's days and REPORate

pub record CarryInputs (k : ℕ) (repo : ℤ) : Type 0 where
  pub days : k ≤ term_days_most
  pub rate : mag repo ≤ mag repo_most

-- ---- what numbers that are not refused give

pub valid_whole : (numbers : List ℤ) → valid_flows numbers ≡ true → whole_flows numbers ≡ true
unfolding valid_flows
valid_whole numbers v = and_left (whole_flows numbers) (every valid_flow (lent_flows numbers)) v

pub valid_every : (numbers : List ℤ) → valid_flows numbers ≡ true → every valid_flow (lent_flows numbers) ≡ true
unfolding valid_flows
valid_every numbers v = and_right (whole_flows numbers) (every valid_flow (lent_flows numbers)) v

pub whole_in_twos : (numbers : List ℤ) → whole_flows numbers ≡ true → length numbers % flow_numbers ≡ 0
unfolding whole_flows
whole_in_twos numbers v = eqb-true (length numbers % flow_numbers) 0 (search (v, and_left))

pub whole_short : (numbers : List ℤ) → whole_flows numbers ≡ true → length numbers ≤ all_flow_numbers_most
unfolding whole_flows
whole_short numbers v = leb-true (length numbers) all_flow_numbers_most (search (v, and_right))

-- a cash flow in range has an amount in range
pub amount_high : (f : LentFlow) → valid_flow f ≡ true → (flow_of f).amount ≤ money_most
unfolding valid_flow flow_of
amount_high f v =
    unsigned_le 0 money_most f.amount (omega arith)
    (and_right (within_z (pos flow_day_least) (pos flow_day_most) f.day) (within_z (pos 0) (pos money_most) f.amount) v)

-- ---- the first and the others

number_behind : (numbers : List ℤ) (i k : ℕ) → flow_numbers + i ≡ k
    → get_or (drop flow_numbers numbers) i (pos 0) ≡ get_or numbers k (pos 0)
number_behind numbers i k e =
    get_or-drop flow_numbers numbers i (pos 0) ∙ ap (λ (n : ℕ). get_or numbers n (pos 0)) e

flow_behind : (numbers : List ℤ) (at from : ℕ) → flow_numbers + at ≡ from
    → flow_at (drop flow_numbers numbers) at ≡ flow_at numbers from
unfolding flow_at
flow_behind numbers at from e =
    λ j. record {
      day = number_behind numbers at from e j;
      amount = number_behind numbers (at + 1) (from + 1) (omega arith) j;
    }

flows_behind : (numbers : List ℤ) (at from count : ℕ) → flow_numbers + at ≡ from
    → parts_from flow_at flow_numbers numbers from count
    ≡ parts_from flow_at flow_numbers (drop flow_numbers numbers) at count
unfolding parts_from
flows_behind numbers at from zero e = refl
flows_behind numbers at from (suc count) e =
    λ j. sym (flow_behind numbers at from e) j
    ∷ flows_behind numbers (at + flow_numbers) (from + flow_numbers) count (omega arith) j

-- the first stands in front
pub flow_in_front : (numbers : List ℤ) → flow_at (take flow_numbers numbers) 0 ≡ flow_at numbers 0
unfolding flow_at
flow_in_front numbers =
    λ j. record {
      day = get_or-take flow_numbers numbers 0 (pos 0) (omega arith) j;
      amount = get_or-take flow_numbers numbers 1 (pos 0) (omega arith) j;
    }

-- and the others behind it
pub first_and_others : (numbers : List ℤ) → flow_numbers ≤ length numbers
    → lent_flows numbers ≡ flow_at numbers 0 ∷ lent_flows (drop flow_numbers numbers)
unfolding lent_flows parts_from
first_and_others numbers h =
    let count : length numbers / flow_numbers ≡ suc (length (drop flow_numbers numbers) / flow_numbers) =
    omega (arith, length-drop flow_numbers numbers) in
    ap (λ (n : ℕ). parts_from flow_at flow_numbers numbers 0 n) count
    ∙ ap (λ (fs : List LentFlow). flow_at numbers 0 ∷ fs)
    (flows_behind numbers 0 flow_numbers (length (drop flow_numbers numbers) / flow_numbers) refl)

pub none_of_short : (numbers : List ℤ) → length numbers < flow_numbers → lent_flows numbers ≡ []
unfolding lent_flows parts_from
none_of_short numbers h =
    let count : length numbers / flow_numbers ≡ 0 = omega arith in
    ap (λ (n : ℕ). parts_from flow_at flow_numbers numbers 0 n) count

-- ---- how large Carry can be

-- a year with the days of a term is at most twice a year, so a term of Carry is at most twice its amount
abbrev pub carry_term_most : ℕ
carry_term_most = 2 * money_most

-- of four cash flows
abbrev pub carry_most : ℕ
carry_most = 4 * carry_term_most

pub year_high : (k : ℕ) (repo : ℤ) (day : ℕ) → CarryInputs k repo → grown year_in_day_bp (k - day) repo ≤ 2 * year_in_day_bp
year_high k repo day i =
    let days : k - day ≤ term_days_most = omega (arith, i.days) in
    omega (arith, (grown_near_base year_in_day_bp (k - day) repo days i.rate).0)

pub term_high : (k : ℕ) (repo : ℤ) (f : Flow) → CarryInputs k repo → f.amount ≤ money_most
    → carry_term repo k f ≤ carry_term_most
unfolding carry_term
term_high k repo f i h =
    half_le (f.amount * grown year_in_day_bp (k - f.day) repo) year_in_day_bp carry_term_most (omega arith)
    (omega (arith, mul-le-mul h (year_high k repo f.day i)))

pub due_high : (k : ℕ) (repo : ℤ) (f : Flow) → CarryInputs k repo → f.amount ≤ money_most
    → carry_due repo k f ≤ carry_term_most
unfolding carry_due
due_high k repo f i h = go (leb f.day k)
  where
    go : (b : Bool) → pick b (carry_term repo k f) 0 ≤ carry_term_most
    go true = term_high k repo f i h
    go false = omega arith

-- the sum over so many parts
carry_high : (k : ℕ) (repo : ℤ) (fs : List LentFlow) → CarryInputs k repo → every valid_flow fs ≡ true
    → carry_of repo k (map flow_of fs) ≤ length fs * carry_term_most
unfolding carry_of every
carry_high k repo [] i v = omega arith
carry_high k repo (f ∷ fs) i v =
    omega (
      arith,
      due_high k repo (flow_of f) i (amount_high f (and_left (valid_flow f) (every valid_flow fs) v)),
      carry_high k repo fs i (and_right (valid_flow f) (every valid_flow fs) v),
    )

parts_count : (numbers : List ℤ) (at count : ℕ) → length (parts_from flow_at flow_numbers numbers at count) ≡ count
unfolding parts_from
parts_count numbers at zero = refl
parts_count numbers at (suc count) = ap suc (parts_count numbers (at + flow_numbers) count)

pub carry_most_lem : (numbers : List ℤ) (k : ℕ) (repo : ℤ) → CarryInputs k repo → valid_flows numbers ≡ true
    → carry_of repo k (flows_of numbers) ≤ carry_most
unfolding flows_of lent_flows
carry_most_lem numbers k repo i v =
    let short : length numbers ≤ all_flow_numbers_most = whole_short numbers (valid_whole numbers v) in
    let count : ℕ = length numbers / flow_numbers in
    let few : count ≤ 4 = omega arith in
    omega (
      arith,
      carry_high k repo (parts_from flow_at flow_numbers numbers 0 count) i (valid_every numbers v),
      parts_count numbers 0 count,
    )

-- ---- a walk that sums

-- what is summed, with Carry of the rest, is Carry of all; and the rest is in range
pub record Summing (all : List LentFlow) (k : ℕ) (repo : ℤ) (total : ℕ) (rest : List LentFlow) : Type 0 where
  pub sums : total + carry_of repo k (map flow_of rest) ≡ carry_of repo k (map flow_of all)
  pub valid : every valid_flow rest ≡ true

pub summing_first : (all : List LentFlow) (k : ℕ) (repo : ℤ) → every valid_flow all ≡ true → Summing all k repo 0 all
summing_first all k repo v = record { sums = omega arith; valid = v }

module _ (all : List LentFlow) (k : ℕ) (repo : ℤ) (total : ℕ) (rest : List LentFlow) (s : Summing all k repo total rest)
    (first : LentFlow) (others : List LentFlow) (is : rest ≡ first ∷ others) where
  here : every valid_flow (first ∷ others) ≡ true
  here = ap (every valid_flow) (sym is) ∙ s.valid

  -- the one at hand is in range
  pub summing_amount : (flow_of first).amount ≤ money_most
  unfolding every
  summing_amount = amount_high first (and_left (valid_flow first) (every valid_flow others) here)

  pub summing_next : Summing all k repo (total + carry_due repo k (flow_of first)) others
  unfolding every carry_of
  summing_next =
      let more : carry_of repo k (map flow_of rest) ≡ carry_due repo k (flow_of first) + carry_of repo k (map flow_of others) =
      ap (λ (fs : List LentFlow). carry_of repo k (map flow_of fs)) is in
      record {
        sums = omega (arith, s.sums);
        valid = and_right (valid_flow first) (every valid_flow others) here;
      }

pub summing_end : (all : List LentFlow) (k : ℕ) (repo : ℤ) (total : ℕ) (rest : List LentFlow) → Summing all k repo total rest
    → rest ≡ [] → total ≡ carry_of repo k (map flow_of all)
unfolding carry_of
summing_end all k repo total rest s e =
    let none : carry_of repo k (map flow_of rest) ≡ 0 = ap (λ (fs : List LentFlow). carry_of repo k (map flow_of fs)) e in
    omega (arith, s.sums)
