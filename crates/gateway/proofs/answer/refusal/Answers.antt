-- `answer::refusal` meets its contract: the refusal's number fits, so 0 less it fits too, and is its negative.
use mathlib.Core.Path.{◌≡◌, refl}
use Prim.Native.Nat.{ℕ, zero, suc, ◌<◌, ◌^◌}
use native.Mathlib.Omega.{arith}
use lib.Dec.{lit<}
use lib.IntN.{pos, negsuc, neg_ℤ, ◌-ℤ◌, +ℤ_idl}
use mir.Syntax.{w64}
use mir.Val.{SFits}
use mir.Facts.{to_z-of_z}
use mir.ValLaws.{to_z_pos}
use Rattle.gateway.proofs.answer.refusal.Goals as goal
use Rattle.gateway.proofs.answer.refusal.Goals.{After-number}

-- 0 less a number is its negative
less : (n : ℕ) → pos 0 -ℤ pos n ≡ neg_ℤ (pos n)
less zero = refl
less (suc n) = +ℤ_idl (negsuc n)

less_fits : (n : ℕ) → n < 2 ^ 63 → SFits w64 (neg_ℤ (pos n))
less_fits zero h = record { sfits = lit< tt }
less_fits (suc n) h = record { sfits = omega arith }

small : (c : After-number) → c.number.result < 2 ^ 63
small c = omega (arith, c.number.ensures)

pub overflow_cast-result : goal.overflow_cast-result
overflow_cast-result c = record { sfits = omega (arith, small (goal.at.overflow_cast-result c).After-number) }

pub overflow_sub-result : goal.overflow_sub-result
overflow_sub-result c = rw (to_z_pos w64 c.number.result (small (goal.at.overflow_sub-result c).After-number), less) (less_fits c.number.result (small (goal.at.overflow_sub-result c).After-number))

pub returns : goal.returns
returns c =
    rw (
      to_z_pos w64 c.number.result (small (goal.at.returns c).After-number),
      less,
      to_z-of_z (less_fits c.number.result (small (goal.at.returns c).After-number)),
      c.number.ensures,
    )
