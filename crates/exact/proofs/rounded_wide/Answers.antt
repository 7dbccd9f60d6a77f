-- `rounded_wide` meets its contract: the quotient, or one more where the rest takes it there.
use mathlib.Core.Path.{◌≡◌, ap, sym, ◌∙◌}
use Prim.Native.Nat.{ℕ, ◌+◌, ◌*◌, ◌/◌, ◌%◌, ◌^◌, ◌<◌}
use native.Mathlib.Nat.{mod-lt, div-lt_iff_lt-mul}
use native.Mathlib.Omega.{arith}
use Rattle.exact.specs.Remainders.{goes_up, rounded_next, rounded_stays}
use Rattle.exact.proofs.rounded_wide.Goals as goal
use Rattle.exact.proofs.rounded_wide.Goals.{After-goes_up}

-- what the rest says is what the remainder of the whole product says
goes_up_is : (c : After-goes_up)
    → c.goes_up.result
    ≡ goes_up c.before.before.args.way (c.before.before.args.x * c.before.before.args.n
    % c.before.before.args.e)
    c.before.before.args.e
goes_up_is c =
    let a = c.before.before.args in
    c.goes_up.ensures ∙ ap (λ (z : ℕ). goes_up a.way z a.e) c.before.divide_product-s.ensures.1

pub goes_up-requires : goal.goes_up-requires
goes_up-requires c =
    let a = c.args in
    rw c.divide_product-s.ensures.1 (mod-lt (a.x * a.n) c.requires.positive)

pub overflow_add-result : goal.overflow_add-result
overflow_add-result c =
    let small : c.args.x * c.args.n / c.args.e < 2 ^ 63 =
    (div-lt_iff_lt-mul {k = c.args.e} {x = c.args.x * c.args.n} {y = 2 ^ 63} c.requires.positive).1
    (omega arith) in
    omega (arith, c.divide_product-s.ensures.0)

pub returns-then-goes_up : goal.returns-then-goes_up
returns-then-goes_up c =
    ap (λ (q : ℕ). q + 1) c.divide_product-s.ensures.0
    ∙ rounded_next c.args.way (c.args.x * c.args.n) c.args.e c.requires.positive
    (sym (goes_up_is (goal.at.returns-then-goes_up c).After-goes_up) ∙ c.if-goes_up.true)

pub returns-else-goes_up : goal.returns-else-goes_up
returns-else-goes_up c =
    c.divide_product-s.ensures.0
    ∙ rounded_stays c.args.way (c.args.x * c.args.n) c.args.e c.requires.positive
    (sym (goes_up_is (goal.at.returns-else-goes_up c).After-goes_up) ∙ c.if-goes_up.false)
