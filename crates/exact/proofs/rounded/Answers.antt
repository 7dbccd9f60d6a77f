-- `rounded` meets its contract: the quotient, or one more where the remainder takes it there.
use mathlib.Core.Path.{sym, ◌∙◌}
use Prim.Native.Nat.{◌%◌, ◌<◌}
use native.Mathlib.Nat.{mod-lt}
use native.Mathlib.Omega.{arith}
use Rattle.exact.specs.Remainders.{goes_up_some, rounded_next, rounded_stays}
use Rattle.exact.proofs.Quotients.{at_most_half}
use Rattle.exact.proofs.rounded.Goals as goal

pub goes_up-requires : goal.goes_up-requires
goes_up-requires c = mod-lt c.args.n c.requires

-- a remainder that is not 0 is below a divisor of 2 or more
pub overflow_add-result : goal.overflow_add-result
overflow_add-result c =
    let n = c.args.n in
    let d = c.args.d in
    let rest : 0 < n % d =
    goes_up_some c.args.way (n % d) d (mod-lt n c.requires) (sym c.goes_up.ensures ∙ c.if-goes_up.true) in
    omega (arith, at_most_half n d (omega (arith, mod-lt n c.requires)))

pub returns-then-goes_up : goal.returns-then-goes_up
returns-then-goes_up c =
    rounded_next c.args.way c.args.n c.args.d c.requires (sym c.goes_up.ensures ∙ c.if-goes_up.true)

pub returns-else-goes_up : goal.returns-else-goes_up
returns-else-goes_up c =
    rounded_stays c.args.way c.args.n c.args.d c.requires (sym c.goes_up.ensures ∙ c.if-goes_up.false)
