-- `evaluation::in_roubles` meets its contract: each way gives the row's figures, and its test is what the way asks for.
use mathlib.Core.Path.{sym, ◌∙◌}
use native.Mathlib.Omega.{arith}
use mir.Syntax.{w64}
use mir.Val.{SFits}
use mir.Facts.{to_z-of_z}
use Rattle.evaluation.proofs.in_roubles.Goals as goal

pub as_given-requires : goal.as_given-requires
as_given-requires c = sym c.is_rouble_today.ensures ∙ c.if-is_rouble_today.true

pub returns : goal.returns
returns c =
    let f : SFits w64 c.args.row.repo = record { sfits = omega (arith, c.requires.repo) } in
    rw (to_z-of_z f) at c.plainly.ensures
