-- `next_bit` meets its contract, by the turn of `RootTurn.antt`.
use Prim.Native.Nat.{◌-◌, ◌^◌}
use native.Mathlib.Omega.{arith}
use Rattle.exact.proofs.RootTurn.{RootTurn, turn_fits, taken_keeps, left_keeps}
use Rattle.exact.proofs.next_bit.Goals as goal
use Rattle.exact.proofs.next_bit.Goals.{After-shl-step}

-- what is known when the step is known
turn_at : (c : After-shl-step)
    → RootTurn c.before.args.factor c.before.args.k (2 ^ (c.before.args.k - 1)) c.before.args.found
turn_at c = turn_fits _ _ _ c.before.requires.0 c.before.requires.1 c.before.requires.2

pub shl-step-requires : goal.shl-step-requires
shl-step-requires c = omega (arith, turn_fits _ _ _ c.requires.0 c.requires.1 c.requires.2)

pub overflow_add-next : goal.overflow_add-next
overflow_add-next c = omega (arith, turn_at (goal.at.overflow_add-next c).After-shl-step)

pub overflow_add-x : goal.overflow_add-x
overflow_add-x c = omega (arith, turn_at (goal.at.overflow_add-x c).After-shl-step)

pub overflow_add-rest : goal.overflow_add-rest
overflow_add-rest c = omega (arith, turn_at (goal.at.overflow_add-rest c).After-shl-step)

pub overflow_add-result : goal.overflow_add-result
overflow_add-result c = omega (arith, turn_at (goal.at.overflow_add-result c).After-shl-step)

pub overflow_add-result-then-next-rest : goal.overflow_add-result-then-next-rest
overflow_add-result-then-next-rest c = omega (arith, turn_at (goal.at.overflow_add-result-then-next-rest c).After-shl-step)

pub returns-then-next-rest : goal.returns-then-next-rest
returns-then-next-rest c =
    let given = c.requires in
    taken_keeps _ _ _ _ given.0 given.1 given.2 c.shl-step.ensures c.if-next-rest.true

pub returns-else-next-rest : goal.returns-else-next-rest
returns-else-next-rest c =
    let given = c.requires in
    left_keeps _ _ _ _ given.0 given.1 given.2 c.shl-step.ensures c.if-next-rest.false
