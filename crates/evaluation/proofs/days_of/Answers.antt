-- `evaluation::days_of` meets its contract: the repo rate's bits are read back.
use native.Mathlib.Omega.{arith}
use mir.Syntax.{w64}
use mir.Val.{SFits}
use mir.Facts.{to_z-of_z}
use Rattle.evaluation.proofs.days_of.Goals as goal

pub returns : goal.returns
returns c =
    let f : SFits w64 c.args.row.repo = record { sfits = omega (arith, c.requires.repo) } in
    rw (to_z-of_z f) at c.grow.ensures
