-- `record_monitoring::moved` meets its contract: a shared check refuses, or 18 does, or 12, or the move is written.
use mathlib.Core.Path.{ap, ◌∙◌}
use mathlib.Core.Bool.{not}
use borrow.Author.Tests.{eq-eqb, ne_eqb}
use Rattle.record_answers.specs.Effects.{refused_effect}
use Rattle.record_answers.proofs.Tests.{tested_true, tested_false, known_sound}
use Rattle.record_monitoring.proofs.Judging.{stopped_by, passed, move_stopped, move_not_allowed, move_used_up}
use Rattle.record_monitoring.proofs.Judging.{move_accepted, a_move_is_left}
use Rattle.record_monitoring.proofs.moved.Goals as goal

pub returns-in-Err : goal.returns-in-Err
returns-in-Err c =
    let stopped = stopped_by _ _ (rw c.valid_side.ensures at c.in-Err.ensures) in
    c.refused.ensures ∙ ap (refused_effect _) stopped.1 ∙ move_stopped _ _ stopped.0

pub returns-then-not-move_allowed : goal.returns-then-not-move_allowed
returns-then-not-move_allowed c =
    c.refused-then-not-move_allowed.ensures
    ∙ move_not_allowed _ _ (passed c.valid_side.ensures c.in_default.ensures)
    (tested_false _ c.move_allowed.ensures (ap not c.if-not-move_allowed.true))

pub returns-then-count_of-eq-MOVES_MOST : goal.returns-then-count_of-eq-MOVES_MOST
returns-then-count_of-eq-MOVES_MOST c =
    let test = rw (c.count_of.ensures, c.from-named.ensures) at c.if-count_of-eq-MOVES_MOST.true in
    c.refused-then-count_of-eq-MOVES_MOST.ensures
    ∙ move_used_up _ _ (passed c.valid_side.ensures c.in_default.ensures)
    (tested_true _ c.move_allowed.ensures (ap not c.if-not-move_allowed.false)) (eq-eqb _ _ test)

pub moved-requires : goal.moved-requires
moved-requires c =
    let v = known_sound _ (passed c.valid_side.ensures c.in_default.ensures).known in
    record { r_value = v; moves_bound = a_move_is_left _ c.from-named.result v (rw c.count_of.ensures at c.if-count_of-eq-MOVES_MOST.false) }

pub returns : goal.returns
returns c =
    let side = c.from-named.ensures in
    let test = rw (c.count_of.ensures, side) at c.if-count_of-eq-MOVES_MOST.false in
    rw (c.written.ensures, c.moved.ensures, side)
    (move_accepted _ _ (passed c.valid_side.ensures c.in_default.ensures)
    (tested_true _ c.move_allowed.ensures (ap not c.if-not-move_allowed.false)) (ne_eqb _ _ test))
