-- `inputs::valid_term` meets its contract: the code's tests are the definition's, on signed numbers that the machine
-- reads back from their bits.
use mir.Syntax.{w64}
use mir.Val.{SFits}
use mir.Facts.{to_z-of_z}
use borrow.Author.Rules.{rules}
use Rattle.paper.specs.Ranges.{valid_term}
use Rattle.inputs.proofs.calls.valid_term.Goals as goal

pub returns : goal.returns
unfolding valid_term
returns c =
    let x = c.args.x in
    let low : SFits w64 x.low = search rules in
    let high : SFits w64 x.high = search rules in
    rw (to_z-of_z low, to_z-of_z high)
