use mathlib.Core.Path.{sym, ◌∙◌}
use Prim.Native.Nat.{ℕ, ◌+◌, ◌-◌, ◌*◌, ◌/◌, ◌≤◌, ◌<◌}
use native.Mathlib.Nat.{le_trans, mul-le-mul_right}
use native.Mathlib.Omega.{arith}
use Rattle.rates_level.specs.Level.{reach_most}
use Rattle.rates_level.proofs.Reach.{halved_start, halved_hit, halved_miss, halved_end_is_least_reach}
use Rattle.rates_level.proofs.least_reach.Goals as goal
use Rattle.rates_level.proofs.least_reach.Goals.{In-loop-from}

-- the middle is tested at no more than a rate allows
middle_high : (from to high step : ℕ) → from < to → to ≤ high → high * step ≤ reach_most
    → (from + (to - from) / 2) * step ≤ reach_most
middle_high from to high step u v h =
    let inside : from + (to - from) / 2 ≤ high = omega arith in
    le_trans (mul-le-mul_right step inside) h

in_turn : (c : In-loop-from)
    → (c.before.loop-from.from + (c.before.loop-from.to - c.before.loop-from.from) / 2) * c.before.before.args.step ≤
    reach_most
in_turn c =
    middle_high _ _ _ c.before.before.args.step c.loop-from-test.true c.before.loop-from.invariant.between.inside
    c.before.before.requires.1

pub loop-from-init : goal.loop-from-init
loop-from-init c = halved_start _ _ _ _ _ c.requires.0

pub overflow_mul-middle : goal.overflow_mul-middle
overflow_mul-middle c = omega (arith, in_turn (goal.at.overflow_mul-middle c).In-loop-from)

pub reaches-requires : goal.reaches-requires
reaches-requires c = (in_turn (goal.at.reaches-requires c).In-loop-from, c.requires.2, c.requires.3)

pub loop-from-preserved-then-reaches : goal.loop-from-preserved-then-reaches
loop-from-preserved-then-reaches c =
    halved_hit _ _ _ _ _ _ _ _ c.loop-from.invariant (omega arith) (omega arith)
    (sym c.reaches.ensures ∙ c.if-reaches.true)

pub loop-from-preserved : goal.loop-from-preserved
loop-from-preserved c =
    halved_miss _ _ _ _ _ _ _ _ c.loop-from.invariant (omega arith) (omega arith)
    (sym c.reaches.ensures ∙ c.if-reaches.false)

pub returns : goal.returns
returns c = halved_end_is_least_reach _ _ _ _ _ _ _ c.loop-from.invariant c.loop-from-test.false
