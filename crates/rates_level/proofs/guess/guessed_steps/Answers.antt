-- `guess::guessed_steps` meets its contract: every root is below 2^16, so that nothing wraps.
use Prim.Native.Nat.{◌*◌, ◌≤◌}
use native.Mathlib.Nat.{mul-le-mul, le_of_lt}
use native.Mathlib.Omega.{arith}
use Rattle.rates_level.specs.Level.{root_bound, guess_most}
use Rattle.rates_level.proofs.guess.guessed_steps.Goals as goal
use Rattle.rates_level.proofs.guess.guessed_steps.Goals.{After-root_of}

made : (c : After-root_of) → c.before.args.guess * c.root_of.result ≤ guess_most * root_bound
made c = mul-le-mul c.before.requires (le_of_lt c.root_of.ensures)

pub overflow_mul-result : goal.overflow_mul-result
overflow_mul-result c = omega (arith, made (goal.at.overflow_mul-result c).After-root_of)

pub overflow_add-result : goal.overflow_add-result
overflow_add-result c = omega (arith, made (goal.at.overflow_add-result c).After-root_of)

pub returns : goal.returns
returns c = omega (arith, made (goal.at.returns c).After-root_of)
