-- What the figures of a key maturity are, in W-201's words: each the least that is asked for, with no maximum.
use mathlib.Core.Path.{◌≡◌, refl}
use mathlib.Core.Bool.{true}
use Prim.Native.Nat.{ℕ, ◌+◌, ◌*◌, ◌≤◌, max}
use native.Mathlib.Omega.{arith}
use lib.IntN.{ℤ, pos, negsuc}
use lib.Signed.{le_z}
use borrow.Author.Tests.{leb-true, le-leb}
use Rattle.paper.specs.declared.Maturity.{Maturity}
use Rattle.paper.specs.declared.Interest.{Interest}
use Rattle.paper.specs.Numbers.{one_in_hundredths}
use Rattle.paper_desk.specs.Rates.{least_step, IsLeastStep}
use Rattle.paper.specs.Roundings.{at_least_zero}
use Rattle.paper_interest.specs.Interest.{repo_volatility, repo_tentative_rate, repo_tentative, estimate, IsEstimate}
use Rattle.paper_desk.proofs.Steps.{step_is}

-- t is the least multiple of h with 100·t ≥ q·σ
pub repo_tentative_rate_is : (i : Interest) (k : Maturity) → 1 ≤ i.h
    → IsLeastStep i.h one_in_hundredths (i.model.q * repo_volatility i k) (repo_tentative_rate i k)
unfolding repo_tentative_rate
repo_tentative_rate_is i k h = step_is i.h one_in_hundredths (i.model.q * repo_volatility i k) h (omega arith)

pub estimate_is : (i : Interest) (k : Maturity) (minimum : ℤ) → 1 ≤ i.h
    → IsEstimate i.h ((repo_tentative i k).bp + i.liq) minimum (estimate i k minimum)
unfolding estimate
estimate_is i k minimum h =
    record {
      multiple = is.multiple;
      over_sum = omega (arith, is.enough);
      over_minimum = covered minimum _ (omega (arith, is.enough));
      least = λ j s m. is.least j (omega (arith, s, covering minimum (j * i.h) m));
    }
  where
    sum : ℕ
    sum = (repo_tentative i k).bp + i.liq

    is : IsLeastStep i.h 1 (max sum (at_least_zero minimum)) (least_step i.h 1 (max sum (at_least_zero minimum)))
    is = step_is i.h 1 (max sum (at_least_zero minimum)) h (omega arith)

    -- a number is at or above a minimum of either sign exactly where it is at or above it counted from 0
    covered : (z : ℤ) (n : ℕ) → at_least_zero z ≤ n → le_z z (pos n) ≡ true
    covered (pos m) n l = le-leb m n l
    covered (negsuc m) n l = refl

    covering : (z : ℤ) (n : ℕ) → le_z z (pos n) ≡ true → at_least_zero z ≤ n
    covering (pos m) n e = leb-true m n e
    covering (negsuc m) n e = omega arith
