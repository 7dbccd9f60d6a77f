-- Document 02, W-201: clauses 14.4, 14.6 and 16.2 of source document 001, in basis points and in roubles.
use Rattle.std.specs.Prelude.{◌≡◌, Bool, true, not, ◌&&◌, List, [], ◌∷◌, map, ℕ, ◌+◌, ◌-◌, ◌*◌, ◌/◌, ◌%◌, ◌≤◌, max, leb, ltb, eqb, ℤ, pos, nat_abs, ◌+ℤ◌, ◌-ℤ◌, ◌*ℤ◌, length, get_or}
use Rattle.std.specs.Int.Signed.{le_z}
use Rattle.paper.specs.declared.Tentative.{Tentative}
use Rattle.paper.specs.declared.Maturity.{Maturity}
use Rattle.paper.specs.declared.Interest.{Interest}
use Rattle.paper.specs.declared.MaturityFigures.{MaturityFigures}
use Rattle.paper.specs.declared.InterestAnswer.{InterestAnswer}
use Rattle.paper.specs.declared.Verdict.{Verdict}
use Rattle.paper.specs.declared.Verdict.TheVariants.{Done, OutOfRange, NotAscending}
use Rattle.paper.specs.Lists.{pick, eight, every}
use Rattle.paper.specs.Numbers.{one_in_hundredths, repo_least, repo_most, behind_most, weight_most, multiplier_least}
use Rattle.paper.specs.Numbers.{multiplier_most, step_most, wait_most, divisor_least, divisor_most, age_most, key_numbers}
use Rattle.paper.specs.Numbers.{all_key_numbers_most, maturity_most, minimum_most, repo_volatility_most, repo_tentative_most}
use Rattle.paper.specs.Roundings.{half_up_z, at_least_zero}
use Rattle.paper.specs.Ranges.{within, within_z, unsigned, parts_from}
use Rattle.paper_desk.specs.Rates.{volatility_of, least_step, tentative_after, Weighing}
use Rattle.paper.specs.Verdicts.{is_done, Check, first_of}

-- ---- what is given, and its ranges

-- a key maturity as it is lent: eight signed numbers
pub record LentKey : Type 0 where
  pub t : ℤ
  pub r : ℤ
  pub r1 : ℤ
  pub r2 : ℤ
  pub index : ℤ
  pub volatility : ℤ
  pub tentative : ℤ
  pub age : ℤ

unfoldable pub key_at : (numbers : List ℤ) → (at : ℕ) → LentKey
key_at numbers at =
    record {
      t = get_or numbers at (pos 0);
      r = get_or numbers (at + 1) (pos 0);
      r1 = get_or numbers (at + 2) (pos 0);
      r2 = get_or numbers (at + 3) (pos 0);
      index = get_or numbers (at + 4) (pos 0);
      volatility = get_or numbers (at + 5) (pos 0);
      tentative = get_or numbers (at + 6) (pos 0);
      age = get_or numbers (at + 7) (pos 0);
    }

unfoldable pub keys_of : (numbers : List ℤ) → List LentKey
keys_of numbers = parts_from key_at key_numbers numbers 0 (length numbers / key_numbers)

-- "one to eight key maturities", each whole
unfoldable pub whole_keys : (numbers : List ℤ) → Bool
whole_keys numbers = eqb (length numbers % key_numbers) 0 && within key_numbers all_key_numbers_most (length numbers)

-- "Rates given lie in -9,999..9,999 bp, .. old volatility in 0..19,998, old tentative rate in 0..200,979, .. key
-- maturities in 0..365 days, the rest as for shares"
unfoldable pub valid_key : LentKey → Bool
valid_key k =
    within_z (pos 0) (pos maturity_most) k.t
    && within_z repo_least repo_most k.r
    && within_z repo_least repo_most k.r1
    && within_z repo_least repo_most k.r2
    && within_z repo_least repo_most k.index
    && within_z (pos 0) (pos repo_volatility_most) k.volatility
    && within_z (pos 0) (pos repo_tentative_most) k.tentative
    && within_z (pos 0) (pos age_most) k.age

unfoldable pub valid_keys : (numbers : List ℤ) → Bool
valid_keys numbers = whole_keys numbers && every valid_key (keys_of numbers)

-- the maturity that eight numbers in range are
unfoldable pub maturity_of : LentKey → Maturity
maturity_of k =
    record {
      t = unsigned k.t;
      r = k.r;
      r1 = k.r1;
      r2 = k.r2;
      index = k.index;
      volatility = unsigned k.volatility;
      tentative = record { bp = unsigned k.tentative; age = unsigned k.age };
    }

unfoldable pub maturities_of : (numbers : List ℤ) → List Maturity
maturities_of numbers = map maturity_of (keys_of numbers)

-- "minima and liquidity in 0..9,999, .. terms .. in 0..365 days, the rest as for shares": x_IR as x_pr
unfoldable pub valid_interest : Interest → Bool
valid_interest i =
    leb i.b behind_most
    && leb i.ym maturity_most
    && leb i.yn maturity_most
    && leb i.model.aup weight_most
    && leb i.model.adown weight_most
    && within multiplier_least multiplier_most i.model.q
    && within 1 step_most i.h
    && within 1 wait_most i.wait
    && leb i.liq minimum_most
    && leb i.mm minimum_most
    && leb i.sec minimum_most
    && within divisor_least divisor_most i.xir
    && within_z repo_least repo_most i.money
    && within_z repo_least repo_most i.secrate

-- ---- the figures of a key maturity (14.4)

-- |x - y|
unfoldable pub apart_z : (x y : ℤ) → ℕ
apart_z x y = nat_abs (x -ℤ y)

-- "max(abs[REPOrate_i - REPOrate_i-1]; abs[REPOrate_i - REPOrate_i-2])"
unfoldable pub change_of : Maturity → ℕ
change_of k = max (apart_z k.r k.r1) (apart_z k.r k.r2)

-- the shares' rule, in whole bp, with the old tentative rate where shares have the last rate
unfoldable pub repo_volatility : Interest → Maturity → ℕ
repo_volatility i k = volatility_of i.model i.b (change_of k) k.tentative.bp k.volatility

-- t is the least multiple of h with 100·t ≥ q·σ: "with no maximum"
unfoldable pub repo_tentative_rate : Interest → Maturity → ℕ
repo_tentative_rate i k = least_step i.h one_in_hundredths (i.model.q * repo_volatility i k)

-- "the one-step-down rule" is the shares'
unfoldable pub repo_tentative : Interest → Maturity → Tentative
repo_tentative i k = tentative_after i.h i.wait (repo_tentative_rate i k) k.tentative

-- "ceiling(max(tentative + liq_RR; minimum)/h_IR)·h_IR": the least multiple of h at or above the greater; the sum is
-- never below 0, so a minimum below 0 is never the greater
unfoldable pub estimate : Interest → Maturity → (minimum : ℤ) → ℕ
estimate i k minimum = least_step i.h 1 (max ((repo_tentative i k).bp + i.liq) (at_least_zero minimum))

-- an estimate is the least multiple of h at or above both tentative + liquidity and its minimum, of either sign
pub record IsEstimate (h sum : ℕ) (minimum : ℤ) (v : ℕ) : Type 0 where
  pub multiple : v % h ≡ 0
  pub over_sum : sum ≤ v
  pub over_minimum : le_z minimum (pos v) ≡ true
  pub least : (j : ℕ) → sum ≤ j * h → le_z minimum (pos (j * h)) ≡ true → v ≤ j * h

-- HΔ, with MMΔ
unfoldable pub upward : Interest → Maturity → ℕ
upward i k = estimate i k (pos i.mm)

-- LΔ, with "REPOIndex - REPOrate + SECΔ"
unfoldable pub downward : Interest → Maturity → ℕ
downward i k = estimate i k ((k.index -ℤ k.r) +ℤ pos i.sec)

unfoldable pub maturity_figures : Interest → Maturity → MaturityFigures
maturity_figures i k =
    record {
      change = change_of k;
      volatility = repo_volatility i k;
      tentative = repo_tentative i k;
      up = upward i k;
      down = downward i k;
    }

-- ---- between the key maturities (14.6)

-- a figure y days ahead, between f days ahead t and g days ahead u: linear, rounded once
unfoldable pub interpolated : (t : ℕ) (f : ℤ) (u : ℕ) (g : ℤ) (y : ℕ) → ℤ
interpolated t f u g y = half_up_z ((pos (u - y) *ℤ f) +ℤ (pos (y - t) *ℤ g)) (u - t)

-- the figure after a key maturity k that comes before y: between it and the next, or after the last the last one's
unfoldable pub figure_after : (Maturity → ℤ) → Maturity → List Maturity → (y : ℕ) → ℤ
figure_after f k [] y = f k
figure_after f k (l ∷ ks) y = pick (leb y l.t) (interpolated k.t (f k) l.t (f l) y) (figure_after f l ks y)

-- "Maturities between the key ones are interpolated, and outside them take the nearest one's"
unfoldable pub figure_at : (Maturity → ℤ) → List Maturity → (y : ℕ) → ℤ
figure_at f [] y = pos 0
figure_at f (k ∷ ks) y = pick (leb y k.t) (f k) (figure_after f k ks y)

-- ---- the rouble repo band of a pair of terms (16.2)

-- R(Yn)·Yn - R(Ym)·Ym: the forward rate, times Yn - Ym
unfoldable pub forward : Interest → List Maturity → ℤ
forward i ks = (pos i.yn *ℤ figure_at (λ k. k.r) ks i.yn) -ℤ (pos i.ym *ℤ figure_at (λ k. k.r) ks i.ym)

-- 100·Δ(Yn)/x_IR, over the same denominator (Yn - Ym)·x_IR
unfoldable pub margin : Interest → List Maturity → (Maturity → ℕ) → ℤ
margin i ks f = pos (one_in_hundredths * (i.yn - i.ym)) *ℤ figure_at (λ k. pos (f k)) ks i.yn

-- "each band limit round once, half up to a bp"
unfoldable pub limit_from : Interest → (n : ℤ) → ℤ
limit_from i n = half_up_z n ((i.yn - i.ym) * i.xir)

unfoldable pub upper_worked : Interest → List Maturity → ℤ
upper_worked i ks = limit_from i ((pos i.xir *ℤ forward i ks) +ℤ margin i ks (upward i))

unfoldable pub lower_worked : Interest → List Maturity → ℤ
lower_worked i ks = limit_from i ((pos i.xir *ℤ forward i ks) -ℤ margin i ks (downward i))

abbrev pub lesser_z : (x y : ℤ) → ℤ
lesser_z x y = pick (le_z x y) x y

abbrev pub greater_z : (x y : ℤ) → ℤ
greater_z x y = pick (le_z x y) y x

-- "Y0/Y1 is held by the money and security rollover rates"
unfoldable pub is_held : Interest → Bool
is_held i = eqb i.ym 0 && eqb i.yn 1

unfoldable pub upper_limit : Interest → List Maturity → ℤ
upper_limit i ks = pick (is_held i) (lesser_z (upper_worked i ks) i.money) (upper_worked i ks)

unfoldable pub lower_limit : Interest → List Maturity → ℤ
lower_limit i ks = pick (is_held i) (greater_z (lower_worked i ks) i.secrate) (lower_worked i ks)

-- ---- the call

-- "key maturities .. strictly ascending"
unfoldable pub strictly_ascending_from : (t : ℕ) → List Maturity → Bool
strictly_ascending_from t [] = true
strictly_ascending_from t (k ∷ ks) = ltb t k.t && strictly_ascending_from k.t ks

unfoldable pub strictly_ascending : List Maturity → Bool
strictly_ascending [] = true
strictly_ascending (k ∷ ks) = strictly_ascending_from k.t ks

-- every number that is given is in range
abbrev pub in_range : Interest → (numbers : List ℤ) → Bool
in_range i numbers = valid_interest i && valid_keys numbers

-- the key maturities ascend strictly, and so do the two terms
abbrev pub is_in_order : Interest → (numbers : List ℤ) → Bool
is_in_order i numbers = strictly_ascending (maturities_of numbers) && ltb i.ym i.yn

-- "or the answer is 6"; "14, key maturities not strictly ascending or the pair's second term not after its first, after
-- 6"
unfoldable pub interest_checks : Interest → (numbers : List ℤ) → List Check
interest_checks i numbers =
    record { verdict = OutOfRange; applies = not (in_range i numbers) }
    ∷ record { verdict = NotAscending; applies = not (is_in_order i numbers) }
    ∷ []

abbrev pub no_figures : MaturityFigures
no_figures = record { change = 0; volatility = 0; tentative = record { bp = 0; age = 0 }; up = 0; down = 0 }

unfoldable pub refused_interest : Verdict → InterestAnswer
refused_interest v =
    record { pair = record { verdict = v; lower = pos 0; upper = pos 0 }; count = 0; figures = eight (λ n. no_figures) }

unfoldable pub accepted_interest : Interest → List Maturity → InterestAnswer
accepted_interest i ks =
    record {
      pair = record { verdict = Done; lower = lower_limit i ks; upper = upper_limit i ks };
      count = length ks;
      figures = eight (λ n. get_or (map (maturity_figures i) ks) n no_figures);
    }

-- what the interest side answers, for every input
unfoldable pub interest_answer : Interest → (numbers : List ℤ) → InterestAnswer
interest_answer i numbers =
    let v : Verdict = first_of (interest_checks i numbers) in
    pick (is_done v) (accepted_interest i (maturities_of numbers)) (refused_interest v)

-- ---- the ranges of what is given and of what is worked out, as the rules ask for them

-- what an evening in range gives beside its key maturities
pub record InterestRange (i : Interest) : Type 0 where
  pub ym : i.ym ≤ maturity_most
  pub yn : i.yn ≤ maturity_most
  pub weighs : Weighing i.model
  pub multiplier : i.model.q ≤ multiplier_most
  pub step_low : 1 ≤ i.h
  pub step_high : i.h ≤ step_most
  pub liq : i.liq ≤ minimum_most
  pub mm : i.mm ≤ minimum_most
  pub sec : i.sec ≤ minimum_most
  pub divisor_low : divisor_least ≤ i.xir
  pub divisor_high : i.xir ≤ divisor_most
  pub money : nat_abs i.money ≤ nat_abs repo_most
  pub secrate : nat_abs i.secrate ≤ nat_abs repo_most

-- a key maturity in range
pub record KeyRange (k : Maturity) : Type 0 where
  pub t : k.t ≤ maturity_most
  pub r : nat_abs k.r ≤ nat_abs repo_most
  pub r1 : nat_abs k.r1 ≤ nat_abs repo_most
  pub r2 : nat_abs k.r2 ≤ nat_abs repo_most
  pub index : nat_abs k.index ≤ nat_abs repo_most
  pub volatility : k.volatility ≤ repo_volatility_most
  pub tentative : k.tentative.bp ≤ repo_tentative_most
  pub age : k.tentative.age ≤ age_most

-- an estimate is less than a step, of at most 1,000, above the greatest tentative rate with the greatest liquidity
abbrev pub estimate_most : ℕ
estimate_most = 211977

-- the figures of a key maturity stay within their ranges
pub record FiguresHeld (f : MaturityFigures) : Type 0 where
  pub change : f.change ≤ repo_volatility_most
  pub volatility : f.volatility ≤ repo_volatility_most
  pub tentative : f.tentative.bp ≤ repo_tentative_most
  pub age : f.tentative.age ≤ age_most
  pub up : f.up ≤ estimate_most
  pub down : f.down ≤ estimate_most
