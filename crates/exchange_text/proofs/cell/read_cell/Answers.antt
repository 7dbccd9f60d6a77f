-- `exchange_text::cell::read_cell` meets its contract: a number, a minus and an empty field are told apart by the first
-- bytes.
use mathlib.Core.Path.{◌≡◌, ap}
use native.Mathlib.Omega.{arith}
use lib.ListN.{length}
use Rattle.paper.proofs.Logic.{not_true_and_false}
use Rattle.exchange_text.proofs.CellTurns.{cell_below, cell_above, cell_bad, cell_empty, cell_none}
use Rattle.exchange_text.proofs.CellTurns.{plain_code, turned_code, no_minus, plain_is}
use Rattle.exchange_text.proofs.cell.read_cell.Goals as goal

pub returns-in_err-number : goal.returns-in_err-number
returns-in_err-number c =
    rw c.from_residual.ensures
    (cell_bad _ _ _ (no_minus c.args.column _ _ _ c.in-Some.ensures) _ _ c.in-Some.ensures c.in_err-number.ensures.reads)

pub returns-in-Some : goal.returns-in-Some
returns-in-Some c =
    rw (plain_code _ c.in_ok-number.ensures.small)
    (cell_above _ _ _ (no_minus c.args.column _ _ _ c.in-Some.ensures) _ _ c.in-Some.ensures (omega arith) _ _
    c.in_ok-number.ensures.reads)

pub returns-in_err-first : goal.returns-in_err-first
returns-in_err-first c =
    rw c.from_residual-in_err-first.ensures
    (cell_none _ _ _ c.behind_minus-plain.ensures c.in_err-first.ensures
    (λ k l. omega (arith, l, c.if-plain-text.true)))

pub returns-in_err-number-2 : goal.returns-in_err-number-2
returns-in_err-number-2 c =
    rw c.from_residual-in_err-number-2.ensures
    (cell_bad _ _ _ c.behind_minus-plain.ensures _ _ c.in_ok-first.ensures c.in_err-number-2.ensures.reads)

pub returns-then-plain-text : goal.returns-then-plain-text
returns-then-plain-text c =
    rw (turned_code _ c.in_ok-number-2.ensures.small)
    (cell_below _ _ _ c.behind_minus-plain.ensures _ _ c.in_ok-first.ensures c.if-plain-text.true _ _
    c.in_ok-number-2.ensures.reads)

pub returns-then-column : goal.returns-then-column
returns-then-column c =
    let e : c.behind_minus-plain.result.now ≡ c.args.text.now =
    plain_is _ c.args.column _ c.behind_minus-plain.ensures c.if-plain-text.false in
    cell_empty _ _ _ c.behind_minus-plain.ensures (rw e c.in_default.ensures) c.if-column.true (ap length e)

pub returns : goal.returns
returns c =
    let e : c.behind_minus-plain.result.now ≡ c.args.text.now =
    plain_is _ c.args.column _ c.behind_minus-plain.ensures c.if-plain-text.false in
    cell_none _ _ _ c.behind_minus-plain.ensures (rw e c.in_default.ensures)
    (λ k l. not_true_and_false _ k c.if-column.false)
