use mathlib.Core.Path.{sym, ◌∙◌}
use Prim.Native.Nat.{◌+◌, ◌≤◌}
use native.Mathlib.Omega.{arith}
use lib.ListN.{length}
use Rattle.paper.specs.Numbers.{row_numbers}
use Rattle.exact.specs.LentLaws.{place_room}
use Rattle.record_reasons.proofs.Seeking.{seeking_first, seeking_row, seeking_found, seeking_next}
use Rattle.record_reasons.proofs.Seeking.{seeking_end}
use Rattle.record_reasons.proofs.faults.first_row.Goals as goal
use Rattle.record_reasons.proofs.faults.first_row.Goals.{In-loop-at}

-- where the row at hand stands
room : (c : In-loop-at)
    → c.before.loop-at.at + row_numbers ≤ length c.before.before.args.rows.now
room c = place_room _ _ _ c.before.before.requires.row_numbers_len c.before.loop-at.invariant.place c.loop-at-test.true

pub loop-at-init : goal.loop-at-init
loop-at-init c = seeking_first _ _ c.requires.rows_value

pub row_at_fault-requires : goal.row_at_fault-requires
row_at_fault-requires c = record { row_numbers_in_bounds = room (goal.at.row_at_fault-requires c).In-loop-at; at_value = seeking_row _ _ _ _ c.loop-at.invariant (room (goal.at.row_at_fault-requires c).In-loop-at) }

pub returns-then-row_at_fault : goal.returns-then-row_at_fault
returns-then-row_at_fault c =
    seeking_found _ _ _ _ c.loop-at.invariant (room (goal.at.returns-then-row_at_fault c).In-loop-at) (sym c.row_at_fault.ensures ∙ c.if-row_at_fault.true)

pub overflow_add-at : goal.overflow_add-at
overflow_add-at c = omega (arith, room (goal.at.overflow_add-at c).In-loop-at)

pub overflow_add-number : goal.overflow_add-number
overflow_add-number c =
    omega (arith, room (goal.at.overflow_add-number c).In-loop-at, c.loop-at.invariant.counts)

pub loop-at-smaller : goal.loop-at-smaller
loop-at-smaller c = omega (arith, room (goal.at.loop-at-smaller c).In-loop-at)

pub loop-at-preserved : goal.loop-at-preserved
loop-at-preserved c =
    seeking_next _ _ _ _ c.loop-at.invariant (room (goal.at.loop-at-preserved c).In-loop-at) (sym c.row_at_fault.ensures ∙ c.if-row_at_fault.false)

pub returns : goal.returns
returns c = seeking_end _ _ _ _ c.loop-at.invariant c.loop-at-test.false
