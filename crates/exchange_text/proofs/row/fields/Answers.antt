use mathlib.Core.Path.{◌∙◌, ap}
use mir.Facts.{to_z-of_z}
use mir.Syntax.{w64}
use borrow.Author.Rules.{rules}
use Rattle.exchange_protocol.specs.declared.Column.{Column}
use Rattle.exchange_protocol.specs.Exchange.{columns}
use Rattle.exchange_protocol.specs.Scan.{cell}
use Rattle.exchange_text.proofs.LineTurns.{filling_wrong, filling_cut, filling_more, filling_all, column_is}
use Rattle.exchange_text.proofs.row.fields.Goals as goal

pub returns-in_err-number : goal.returns-in_err-number
unfolding columns
returns-in_err-number c =
    rw c.from_residual.ensures
    (filling_wrong _ _ _ _ c.loop-k.invariant c.loop-k-test.true
    (c.in_err-number.ensures ∙ ap (λ (d : Column). cell d c.loop-k.rest.now) (column_is c.loop-k.k _ c.loop-k-test.true)))

pub returns-in_err-rest : goal.returns-in_err-rest
unfolding columns
returns-in_err-rest c =
    rw c.from_residual-in_err-rest.ensures
    (filling_cut _ _ _ _ c.loop-k.invariant c.loop-k-test.true _ _
    (c.in_ok-number.ensures ∙ ap (λ (d : Column). cell d c.loop-k.rest.now) (column_is c.loop-k.k _ c.loop-k-test.true))
    c.in_err-rest.ensures)

pub loop-k-preserved : goal.loop-k-preserved
unfolding columns
loop-k-preserved c =
    rw
    (to_z-of_z {w = w64} {z = c.in_ok-number.number} (search rules))
    (filling_more _ _ _ _ c.loop-k.invariant c.loop-k-test.true _ _
    (c.in_ok-number.ensures ∙ ap (λ (d : Column). cell d c.loop-k.rest.now) (column_is c.loop-k.k _ c.loop-k-test.true))
    _ c.in_ok-rest.ensures)

pub returns : goal.returns
returns c = filling_all _ _ _ _ c.loop-k.invariant c.loop-k-test.false
