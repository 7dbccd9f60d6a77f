-- `interest_maturities::forward::lowered` meets its contract: both numbers and their difference fit a signed number.
use mathlib.Core.Path.{◌≡◌, ap, ◌∙◌}
use mathlib.Core.Logic.{◌⊎◌, inl, inr}
use Prim.Native.Nat.{ℕ, ◌+◌, ◌≤◌, ◌<◌, ◌^◌}
use native.Mathlib.Omega.{arith}
use lib.IntN.{ℤ, pos, sub_ℕ, ◌-ℤ◌}
use mir.Syntax.{w64}
use mir.Val.{SFits}
use mir.ValLaws.{to_z_pos}
use mir.Facts.{to_z-of_z}
use Rattle.paper.proofs.Logic.{le_or_lt}
use Rattle.paper.proofs.Differences.{difference_is_pos, difference_is_negsuc, whole_is_difference, difference_minus}
use Rattle.paper.proofs.Differences.{differences_equal}
use Rattle.interest_maturities.proofs.forward.lowered.Goals as goal

difference_is : (n m : ℕ) → pos n -ℤ pos m ≡ sub_ℕ n m
difference_is n m =
    ap (λ (z : ℤ). z -ℤ pos m) (whole_is_difference n)
    ∙ ap (λ (z : ℤ). sub_ℕ n 0 -ℤ z) (whole_is_difference m)
    ∙ difference_minus n 0 m 0
    ∙ differences_equal (n + 0) (0 + m) n m (omega arith)

less_fits : (n m : ℕ) → n < 2 ^ 62 → m < 2 ^ 62 → SFits w64 (pos n -ℤ pos m)
less_fits n m h k = rw (difference_is n m) (go (le_or_lt m n))
  where
    go : (m ≤ n) ⊎ (n < m) → SFits w64 (sub_ℕ n m)
    go (inl l) = rw (difference_is_pos n m l) (record { sfits = omega arith })
    go (inr l) = rw (difference_is_negsuc n m l) (record { sfits = omega arith })

pub overflow_sub-result : goal.overflow_sub-result
overflow_sub-result c =
    let n = c.args.n in
    let m = c.args.from in
    rw (to_z_pos w64 n (omega arith), to_z_pos w64 m (omega arith)) (less_fits n m c.requires.0 c.requires.1)

pub returns : goal.returns
returns c =
    let n = c.args.n in
    let m = c.args.from in
    rw (to_z_pos w64 n (omega arith), to_z_pos w64 m (omega arith), to_z-of_z (less_fits n m c.requires.0 c.requires.1))
    (difference_is n m)
