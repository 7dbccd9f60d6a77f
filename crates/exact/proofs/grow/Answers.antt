-- `grow` meets its contract: the two arms are the definition's two cases, and the ranges keep either within 64 bits.
use mathlib.Core.Path.{◌≡◌, sym, ap, ◌∙◌}
use Prim.Native.Nat.{ℕ, ◌+◌, ◌-◌, ◌*◌, ◌≤◌}
use native.Mathlib.Nat.{mul-le-mul}
use native.Mathlib.Omega.{arith}
use lib.Signed.{mag}
use mir.Facts.{to_z-of_z}
use Rattle.paper.specs.Numbers.{one_in_bp}
use Rattle.exact.specs.SignedLaws.{growth_most}
use Rattle.exact.proofs.Sign.{grown_below, grown_above}
use Rattle.exact.proofs.grow.Goals as goal
use Rattle.exact.proofs.grow.Goals.{After-magnitude-n}

-- a callee's promise speaks of what it reads back from the argument's bits, which is the argument
size_is : (c : After-magnitude-n) → c.magnitude-n.result ≡ mag c.before.args.rate
size_is c = rw (to_z-of_z c.before.ranges.rate) at c.magnitude-n.ensures

moved_at_most : (c : After-magnitude-n) → c.before.args.k * (c.magnitude-n.result + 1) ≤ growth_most
moved_at_most c =
    let more : c.magnitude-n.result + 1 ≤ one_in_bp = omega (arith, size_is c, c.before.requires.size) in
    mul-le-mul c.before.requires.days more

pub overflow_add-result : goal.overflow_add-result
overflow_add-result c = omega (arith, size_is (goal.at.overflow_add-result c).After-magnitude-n, c.requires.size)

pub overflow_mul-result : goal.overflow_mul-result
overflow_mul-result c = omega (arith, moved_at_most (goal.at.overflow_mul-result c).After-magnitude-n)

pub overflow_sub-result : goal.overflow_sub-result
overflow_sub-result c = omega (arith, moved_at_most (goal.at.overflow_sub-result c).After-magnitude-n, c.requires.least)

pub overflow_mul-result-else-rate-lt0 : goal.overflow_mul-result-else-rate-lt0
overflow_mul-result-else-rate-lt0 c = omega (arith, moved_at_most (goal.at.overflow_mul-result-else-rate-lt0 c).After-magnitude-n)

pub overflow_add-result-else-rate-lt0 : goal.overflow_add-result-else-rate-lt0
overflow_add-result-else-rate-lt0 c = omega (arith, moved_at_most (goal.at.overflow_add-result-else-rate-lt0 c).After-magnitude-n, c.requires.most)

pub returns-then-rate-lt0 : goal.returns-then-rate-lt0
returns-then-rate-lt0 c =
    ap (λ (n : ℕ). c.args.base - c.args.k * (n + 1)) (size_is (goal.at.returns-then-rate-lt0 c).After-magnitude-n)
    ∙ sym (grown_below _ _ _ (rw (to_z-of_z c.ranges.rate) at c.if-rate-lt0.true))

pub returns-else-rate-lt0 : goal.returns-else-rate-lt0
returns-else-rate-lt0 c =
    ap (λ (n : ℕ). c.args.base + c.args.k * n) (size_is (goal.at.returns-else-rate-lt0 c).After-magnitude-n)
    ∙ sym (grown_above _ _ _ (rw (to_z-of_z c.ranges.rate) at c.if-rate-lt0.false))
