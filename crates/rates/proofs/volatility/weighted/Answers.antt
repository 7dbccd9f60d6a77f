-- `volatility::weighted` meets its contract: the mean of two squares up to 2^40 is at most 2^40 times 10,000.
use Prim.Native.Nat.{ℕ, ◌+◌, ◌-◌, ◌*◌, ◌^◌, ◌≤◌}
use native.Mathlib.Nat.{mul-le-mul}
use native.Mathlib.Omega.{arith}
use Rattle.paper.specs.Numbers.{one_in_ten_thousandths}
use Rattle.paper_desk.specs.Rates.{weighted}
use Rattle.paper_desk.proofs.Bounds.{mean_of_squares_within}
use Rattle.rates.proofs.volatility.weighted.Goals as goal
use Rattle.rates.proofs.volatility.weighted.Goals.{Start}

record Sizes (a s r : ℕ) : Type 0 where
  old : s * s ≤ 2 ^ 20 * 2 ^ 20
  new : r * r ≤ 2 ^ 20 * 2 ^ 20
  mean : (one_in_ten_thousandths - a) * (s * s) + a * (r * r) ≤ one_in_ten_thousandths * (2 ^ 20 * 2 ^ 20)

sizes : (c : Start) → Sizes c.args.a c.args.s c.args.r
sizes c =
    record {
      old = mul-le-mul c.requires.1 c.requires.1;
      new = mul-le-mul c.requires.2 c.requires.2;
      mean = mean_of_squares_within _ _ _ (2 ^ 20) c.requires.0 c.requires.1 c.requires.2;
    }

pub overflow_mul-s : goal.overflow_mul-s
overflow_mul-s c = omega (arith, (sizes (goal.at.overflow_mul-s c).Start).old)

pub overflow_mul-a : goal.overflow_mul-a
overflow_mul-a c = omega (arith, (sizes (goal.at.overflow_mul-a c).Start).mean)

pub overflow_mul-r : goal.overflow_mul-r
overflow_mul-r c = omega (arith, (sizes (goal.at.overflow_mul-r c).Start).new)

pub overflow_mul-a-2 : goal.overflow_mul-a-2
overflow_mul-a-2 c = omega (arith, (sizes (goal.at.overflow_mul-a-2 c).Start).mean)

pub overflow_add-a : goal.overflow_add-a
overflow_add-a c = omega (arith, (sizes (goal.at.overflow_add-a c).Start).mean)

pub least_root-requires : goal.least_root-requires
least_root-requires c = omega (arith, (sizes (goal.at.least_root-requires c).Start).mean)

pub returns : goal.returns
unfolding weighted
returns c = c.least_root.ensures
