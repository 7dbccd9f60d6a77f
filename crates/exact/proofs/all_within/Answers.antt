use mathlib.Core.Path.{refl}
use native.Mathlib.Numerals.{add-one}
use native.Mathlib.Omega.{arith}
use mir.Syntax.{w64}
use mir.Facts.{to_z-of_z}
use borrow.Author.Rules.{sfits_of}
use Rattle.exact.specs.Within.{within_first}
use Rattle.exact.proofs.all_within.Goals as goal

pub loop-i-init : goal.loop-i-init
unfolding within_first
loop-i-init c = (omega arith, refl)

pub loop-i-preserved : goal.loop-i-preserved
unfolding within_first
loop-i-preserved c = (
  omega arith,
  rw (
    add-one,
    ← c.loop-i.invariant.1,
    c.within_at-all.ensures,
    to_z-of_z (sfits_of {w = w64} c.within_at-arg-1.given),
    to_z-of_z (sfits_of {w = w64} c.within_at-arg-in-loop-i-1.given),
  ),
)
