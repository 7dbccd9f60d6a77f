-- A rate in range is its own bits read back.
use mathlib.Core.Path.{◌≡◌}
use Prim.Native.Nat.{◌≤◌}
use native.Mathlib.Omega.{arith}
use lib.IntN.{ℤ, pos, negsuc, nat_abs}
use lib.Signed.{mag}
use mir.Syntax.{w64}
use mir.Val.{to_z, of_z}
use mir.Facts.{to_z-of_z}
use Rattle.paper.specs.Numbers.{repo_most}

-- a rate's size, as a signed number of 64 bits has it, is at most how far it is from 0
pub mag_within_repo_most : (x : ℤ) → nat_abs x ≤ nat_abs repo_most → mag x ≤ mag repo_most
mag_within_repo_most (pos n) h = h
mag_within_repo_most (negsuc n) h = omega arith

pub rate_kept_in_bits : (x : ℤ) → nat_abs x ≤ nat_abs repo_most → to_z w64 (of_z w64 x) ≡ x
rate_kept_in_bits x h = to_z-of_z {w = w64} (record { sfits = omega (arith, mag_within_repo_most x h) })
