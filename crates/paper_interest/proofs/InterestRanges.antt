-- The interest side's figures stay in range: those of an accepted evening are in the ranges of the next (W-201).
use mathlib.Core.Path.{◌≡◌, refl}
use mathlib.Core.Bool.{Bool, true, false, ◌&&◌}
use mathlib.Core.List.{List, [], ◌∷◌, map}
use Prim.Native.Nat.{ℕ, zero, suc, ◌+◌, ◌*◌, ◌≤◌, ◌<◌, max}
use native.Mathlib.Nat.{mul-le-mul}
use native.Mathlib.Omega.{arith}
use lib.Dec.{leb}
use lib.IntN.{ℤ, pos, negsuc, nat_abs, ◌+ℤ◌, ◌-ℤ◌}
use lib.ListN.{get_or}
use borrow.Author.Tests.{leb-true, le-leb}
use Rattle.paper_desk.specs.Rates.{Weighing}
use Rattle.paper.specs.declared.Interest.{Interest}
use Rattle.paper.specs.declared.Maturity.{Maturity}
use Rattle.paper.specs.Lists.{every}
use Rattle.paper.specs.Numbers.{one_in_hundredths, step_most, multiplier_most, minimum_most}
use Rattle.paper.specs.Numbers.{maturity_most, age_most, repo_least, repo_most, repo_volatility_most, repo_tentative_most}
use Rattle.paper.specs.Ranges.{within_z, unsigned}
use Rattle.paper.specs.Roundings.{at_least_zero}
use Rattle.paper_interest.specs.Interest.{LentKey, valid_key, maturity_of, valid_interest, apart_z, change_of}
use Rattle.paper_interest.specs.Interest.{repo_volatility, repo_tentative_rate, repo_tentative, estimate, upward}
use Rattle.paper_interest.specs.Interest.{downward, maturity_figures, whole_keys, valid_keys, keys_of, maturities_of}
use Rattle.paper_interest.specs.Interest.{no_figures, InterestRange, KeyRange, FiguresHeld, estimate_most}
use Rattle.paper_interest.specs.InterestExact.{carried_from, key_given}
use Rattle.paper.proofs.Logic.{not_true_and_false, and_left, and_right, and_both}
use Rattle.paper.proofs.Differences.{sum_size_within, minus_size_within}
use Rattle.paper_desk.proofs.Bounds.{volatility_high, least_step_within_a_step, tentative_held, age_held}

-- ---- each figure

-- two rates in range are at most 19,998 apart
pub change_high : (k : Maturity) → nat_abs k.r ≤ nat_abs repo_most → nat_abs k.r1 ≤ nat_abs repo_most
    → nat_abs k.r2 ≤ nat_abs repo_most
    → change_of k ≤ repo_volatility_most
unfolding change_of apart_z
change_high k r r1 r2 = omega (arith, minus_size_within k.r k.r1, minus_size_within k.r k.r2)

pub repo_volatility_high : (i : Interest) (k : Maturity) → Weighing i.model → k.volatility ≤ repo_volatility_most
    → change_of k ≤ repo_volatility_most
    → repo_volatility i k ≤ repo_volatility_most
unfolding repo_volatility
repo_volatility_high i k w s r =
    volatility_high i.model i.b k.tentative.bp (change_of k) k.volatility repo_volatility_most w s r

pub repo_tentative_rate_high : (i : Interest) (k : Maturity) → 0 < i.h → i.h ≤ step_most
    → i.model.q ≤ multiplier_most → repo_volatility i k ≤ repo_volatility_most
    → repo_tentative_rate i k ≤ repo_tentative_most
unfolding repo_tentative_rate
repo_tentative_rate_high i k p h q s =
    omega (
      arith,
      least_step_within_a_step i.h one_in_hundredths (i.model.q * repo_volatility i k) p (omega arith),
      mul-le-mul q s,
    )

pub repo_tentative_high : (i : Interest) (k : Maturity) → repo_tentative_rate i k ≤ repo_tentative_most
    → k.tentative.bp ≤ repo_tentative_most
    → (repo_tentative i k).bp ≤ repo_tentative_most
unfolding repo_tentative
repo_tentative_high i k t old =
    tentative_held i.h i.wait (repo_tentative_rate i k) k.tentative repo_tentative_most t old

pub repo_age_high : (i : Interest) (k : Maturity) → (repo_tentative i k).age ≤ age_most
unfolding repo_tentative
repo_age_high i k = age_held i.h i.wait (repo_tentative_rate i k) k.tentative

-- a minimum of either sign is no greater than the greatest tentative rate with the greatest liquidity
pub estimate_high : (i : Interest) (k : Maturity) (minimum : ℤ) → 0 < i.h → i.h ≤ step_most
    → (repo_tentative i k).bp ≤ repo_tentative_most
    → i.liq ≤ minimum_most → nat_abs minimum ≤ repo_tentative_most + minimum_most → estimate i k minimum ≤ estimate_most
unfolding estimate
estimate_high i k minimum p h t liq m =
    omega (
      arith,
      least_step_within_a_step i.h 1 (max ((repo_tentative i k).bp + i.liq) (at_least_zero minimum)) p (omega arith),
      size minimum,
    )
  where
    size : (z : ℤ) → at_least_zero z ≤ nat_abs z
    size (pos n) = omega arith
    size (negsuc n) = omega arith

pub upward_high : (i : Interest) (k : Maturity) → 0 < i.h → i.h ≤ step_most
    → (repo_tentative i k).bp ≤ repo_tentative_most → i.liq ≤ minimum_most
    → i.mm ≤ minimum_most → upward i k ≤ estimate_most
unfolding upward
upward_high i k p h t liq m = estimate_high i k (pos i.mm) p h t liq (omega arith)

pub downward_high : (i : Interest) (k : Maturity) → 0 < i.h → i.h ≤ step_most
    → (repo_tentative i k).bp ≤ repo_tentative_most → i.liq ≤ minimum_most
    → i.sec ≤ minimum_most → nat_abs k.index ≤ nat_abs repo_most → nat_abs k.r ≤ nat_abs repo_most
    → downward i k ≤ estimate_most
unfolding downward
downward_high i k p h t liq m x r =
    estimate_high i k ((k.index -ℤ k.r) +ℤ pos i.sec) p h t liq
    (omega (arith, sum_size_within (k.index -ℤ k.r) (pos i.sec), minus_size_within k.index k.r))

-- ---- what is in range

-- a rate in range lies at most 9,999 from 0
pub repo_size_high : (x : ℤ) → within_z repo_least repo_most x ≡ true → nat_abs x ≤ nat_abs repo_most
repo_size_high (pos n) v = leb-true n 9999 v
repo_size_high (negsuc n) v = omega (arith, leb-true n 9998 (and_left (leb n 9998) true v))

-- a number in a range from 0 is read as it is
pub unsigned_high : (x : ℤ) (most : ℕ) → within_z (pos 0) (pos most) x ≡ true → unsigned x ≤ most
unfolding unsigned
unsigned_high (pos n) most v = leb-true n most (and_right (leb 0 n) _ v)
unsigned_high (negsuc n) most v = absurd (not_true_and_false false v refl)

unsigned_within : (n most : ℕ) → n ≤ most → within_z (pos 0) (pos most) (pos n) ≡ true
unsigned_within n most h = and_both _ _ (le-leb 0 n (omega arith)) (le-leb n most h)

pub valid_interest_in_range : (i : Interest) → valid_interest i ≡ true → InterestRange i
unfolding valid_interest
valid_interest_in_range i v =
    record {
      ym = leb-true _ _ (search (v, and_left, and_right) depth 40);
      yn = leb-true _ _ (search (v, and_left, and_right) depth 40);
      weighs =
          record {
            q = leb-true _ _ (search (v, and_left, and_right) depth 40);
            aup = leb-true _ _ (search (v, and_left, and_right) depth 40);
            adown = leb-true _ _ (search (v, and_left, and_right) depth 40);
          };
      multiplier = leb-true _ _ (search (v, and_left, and_right) depth 40);
      step_low = leb-true _ _ (search (v, and_left, and_right) depth 40);
      step_high = leb-true _ _ (search (v, and_left, and_right) depth 40);
      liq = leb-true _ _ (search (v, and_left, and_right) depth 40);
      mm = leb-true _ _ (search (v, and_left, and_right) depth 40);
      sec = leb-true _ _ (search (v, and_left, and_right) depth 40);
      divisor_low = leb-true _ _ (search (v, and_left, and_right) depth 40);
      divisor_high = leb-true _ _ (search (v, and_left, and_right) depth 40);
      money = repo_size_high i.money (search (v, and_left, and_right) depth 40);
      secrate = repo_size_high i.secrate (search (v, and_left, and_right) depth 40);
    }

pub valid_key_in_range : (k : LentKey) → valid_key k ≡ true → KeyRange (maturity_of k)
unfolding valid_key maturity_of
valid_key_in_range k v =
    record {
      t = unsigned_high k.t maturity_most (search (v, and_left, and_right) depth 40);
      r = repo_size_high k.r (search (v, and_left, and_right) depth 40);
      r1 = repo_size_high k.r1 (search (v, and_left, and_right) depth 40);
      r2 = repo_size_high k.r2 (search (v, and_left, and_right) depth 40);
      index = repo_size_high k.index (search (v, and_left, and_right) depth 40);
      volatility = unsigned_high k.volatility repo_volatility_most (search (v, and_left, and_right) depth 40);
      tentative = unsigned_high k.tentative repo_tentative_most (search (v, and_left, and_right) depth 40);
      age = unsigned_high k.age age_most (search (v, and_left, and_right) depth 40);
    }

-- ---- all figures of an evening

module _ (i : Interest) (k : Maturity) (g : InterestRange i) (h : KeyRange k) where
  pub change_held : change_of k ≤ repo_volatility_most
  change_held = change_high k h.r h.r1 h.r2

  pub volatility_held : repo_volatility i k ≤ repo_volatility_most
  volatility_held = repo_volatility_high i k g.weighs h.volatility change_held

  pub tentative_rate_held : repo_tentative_rate i k ≤ repo_tentative_most
  tentative_rate_held = repo_tentative_rate_high i k g.step_low g.step_high g.multiplier volatility_held

  pub repo_tentative_held : (repo_tentative i k).bp ≤ repo_tentative_most
  repo_tentative_held = repo_tentative_high i k tentative_rate_held h.tentative

  pub figures_held : FiguresHeld (maturity_figures i k)
  unfolding maturity_figures
  figures_held =
      record {
        change = change_held;
        volatility = volatility_held;
        tentative = repo_tentative_held;
        age = repo_age_high i k;
        up = upward_high i k g.step_low g.step_high repo_tentative_held g.liq g.mm;
        down = downward_high i k g.step_low g.step_high repo_tentative_held g.liq g.sec h.index h.r;
      }

-- of eight numbers in range
pub accepted_held : (i : Interest) (k : LentKey) → valid_interest i ≡ true → valid_key k ≡ true
    → FiguresHeld (maturity_figures i (maturity_of k))
accepted_held i k v w = figures_held i (maturity_of k) (valid_interest_in_range i v) (valid_key_in_range k w)

-- of every key maturity of an evening, and of the zeros past the last
pub all_held : (i : Interest) (numbers : List ℤ) → valid_interest i ≡ true → valid_keys numbers ≡ true
    → (n : ℕ) → FiguresHeld (get_or (map (maturity_figures i) (maturities_of numbers)) n no_figures)
unfolding valid_keys maturities_of every
all_held i numbers v w n = each (keys_of numbers) (and_right (whole_keys numbers) (every valid_key (keys_of numbers)) w) n
  where
    each : (ks : List LentKey) → every valid_key ks ≡ true → (n : ℕ)
        → FiguresHeld (get_or (map (maturity_figures i) (map maturity_of ks)) n no_figures)
    each [] e n =
        record {
          change = omega arith;
          volatility = omega arith;
          tentative = omega arith;
          age = omega arith;
          up =
              omega arith;
          down = omega arith;
        }
    each (k ∷ ks) e zero = accepted_held i k v (and_left (valid_key k) (every valid_key ks) e)
    each (k ∷ ks) e (suc n) = each ks (and_right (valid_key k) (every valid_key ks) e) n

-- the next evening does not refuse the figures of an accepted one
pub next_valid : (i : Interest) (k next : LentKey) → valid_interest i ≡ true → valid_key k ≡ true → valid_key next ≡ true
    → valid_key (key_given (carried_from (maturity_figures i (maturity_of k))) next) ≡ true
unfolding valid_key key_given
next_valid i k next v w n =
    let held : FiguresHeld (maturity_figures i (maturity_of k)) = accepted_held i k v w in
    let given : rates ≡ true = search (n, and_left, and_right) depth 40 in
    and_both _ _ (and_both _ _ (and_both rates _ given (unsigned_within _ _ held.volatility))
    (unsigned_within _ _ held.tentative))
    (unsigned_within _ _ held.age)
  where
    -- what the next evening gives of its own
    rates : Bool
    rates =
        within_z (pos 0) (pos maturity_most) next.t
        && within_z repo_least repo_most next.r
        && within_z repo_least repo_most next.r1
        && within_z repo_least repo_most next.r2
        && within_z repo_least repo_most next.index
