-- `text_serve::is_noted` meets its contract: one less than what is noted is the place, exactly where what is noted is one
-- more than the place (`one_less_same`).
use mathlib.Core.Path.{◌≡◌, sym}
use Prim.Native.Nat.{◌+◌}
use native.Mathlib.Omega.{arith}
use borrow.Author.Tests.{ne_eqb}
use Rattle.text_serve.proofs.Noted.{one_less_same}
use Rattle.text_serve.proofs.is_noted.Goals as goal

pub returns-then-noted-eq0 : goal.returns-then-noted-eq0
returns-then-noted-eq0 c =
    sym (ne_eqb c.args.noted (c.args.at + 1)
    (λ (e : c.args.noted ≡ c.args.at + 1).
    omega (arith, e, c.if-noted-eq0.true)))

pub returns : goal.returns
returns c = one_less_same c.args.noted c.args.at c.if-noted-eq0.false
