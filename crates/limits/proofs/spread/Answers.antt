-- `limits::spread` meets its contract, by the cases of the definition; the products fit by the ranges.
use Prim.Native.Nat.{ℕ, ◌+◌, ◌*◌, ◌≤◌}
use native.Mathlib.Nat.{mul-le-mul}
use native.Mathlib.Omega.{arith}
use Rattle.paper.specs.declared.Statics.{Statics}
use Rattle.paper.specs.Numbers.{one_in_hundredths, rate_most, divisor_most, shift_most, moves_most}
use Rattle.paper_desk.specs.Limits.{spread}
use Rattle.limits.specs.LimitRanges.{valid_limit_statics}
use Rattle.limits.specs.LimitLaws.{away_high}
use Rattle.limits.proofs.spread.Goals as goal
use Rattle.limits.proofs.spread.Goals.{Start}

record Sizes (st : Statics) (s1 c : ℕ) : Type 0 where
  middle : st.xpr ≤ divisor_most
  shifts : c * st.shift ≤ moves_most * shift_most
  away : (one_in_hundredths + 2 * c * st.shift) * s1 ≤ (one_in_hundredths + 2 * moves_most * shift_most) * rate_most

sizes : (c : Start) → Sizes c.args.st c.args.s1.bp c.args.c
sizes c =
    let s = valid_limit_statics c.args.st c.requires.st_value in
    record {
      middle = s.divisor_high;
      shifts = mul-le-mul c.requires.bp_le_rate_most.1 s.shift_high;
      away = away_high c.args.st c.args.s1.bp c.args.c s c.requires.bp_le_rate_most.0 c.requires.bp_le_rate_most.1;
    }

pub overflow_mul-middle : goal.overflow_mul-middle
overflow_mul-middle c = omega (arith, (sizes (goal.at.overflow_mul-middle c).Start).middle)

pub overflow_mul-away-2 : goal.overflow_mul-away-2
overflow_mul-away-2 c = omega (arith, (sizes (goal.at.overflow_mul-away-2 c).Start).shifts)

pub overflow_add-away : goal.overflow_add-away
overflow_add-away c = omega (arith, (sizes (goal.at.overflow_add-away c).Start).shifts)

pub overflow_mul-away-3 : goal.overflow_mul-away-3
overflow_mul-away-3 c = omega (arith, (sizes (goal.at.overflow_mul-away-3 c).Start).away)

pub overflow_add-result : goal.overflow_add-result
overflow_add-result c =
    let s = sizes (goal.at.overflow_add-result c).Start in
    omega (arith, s.middle, s.away)

pub returns-in-Upper : goal.returns-in-Upper
unfolding spread
returns-in-Upper c = rw c.in-Upper.is

pub returns-in-Lower : goal.returns-in-Lower
unfolding spread
returns-in-Lower c = rw c.in-Lower.is c.saturating_sub.ensures
