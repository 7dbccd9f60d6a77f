-- `alerts::is_closer` meets its contract: 10,000·(to - from) < w·(upper - lower) with each difference moved across. The
-- products fit by the ranges.
use mathlib.Core.Path.{sym}
use Prim.Native.Nat.{ℕ, ◌*◌, ◌≤◌}
use native.Mathlib.Nat.{mul-le-mul}
use native.Mathlib.Omega.{arith}
use Rattle.paper.specs.declared.Limits.{Limits}
use Rattle.paper.specs.Numbers.{one_in_ten_thousandths, limit_most, nearness_most}
use Rattle.alerts.specs.Nearness.{closer}
use Rattle.paper.proofs.Differences.{share_order}
use Rattle.alerts.proofs.is_closer.Goals as goal
use Rattle.alerts.proofs.is_closer.Goals.{Start}

record Sizes (w : ℕ) (x : Limits) : Type 0 where
  lower : w * x.lower ≤ nearness_most * limit_most
  upper : w * x.upper ≤ nearness_most * limit_most

sizes : (c : Start) → Sizes c.args.w c.args.x
sizes c =
    let r = c.requires.near_range in
    record { lower = mul-le-mul r.nearness r.lower; upper = mul-le-mul r.nearness r.upper }

pub overflow_mul-result-2 : goal.overflow_mul-result-2
overflow_mul-result-2 c = omega (arith, sizes (goal.at.overflow_mul-result-2 c).Start)

pub overflow_add-result : goal.overflow_add-result
overflow_add-result c = omega (arith, sizes (goal.at.overflow_add-result c).Start)

pub overflow_mul-result-4 : goal.overflow_mul-result-4
overflow_mul-result-4 c = omega (arith, sizes (goal.at.overflow_mul-result-4 c).Start)

pub overflow_add-result-2 : goal.overflow_add-result-2
overflow_add-result-2 c = omega (arith, sizes (goal.at.overflow_add-result-2 c).Start)

pub returns : goal.returns
unfolding closer
returns c =
    let a = c.args in
    sym (share_order one_in_ten_thousandths a.w a.to a.from a.x.upper a.x.lower)
