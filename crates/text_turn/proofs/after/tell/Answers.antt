-- `tell` meets its contract: what was handed over is cleared away, the answer is appended to what waits, and all of it
-- is handed over where it is due, and waits on where it is not.
use mathlib.Core.Path.{◌≡◌, refl, ◌∙◌}
use native.Mathlib.Omega.{arith}
use Rattle.paper.proofs.Logic.{not_true, not_false}
use Rattle.text_turn.specs.Tells.{waiting, wait, handed}
use Rattle.text_turn.proofs.WaysOut.{a_line_is_whole, a_line_is_left, told_behind}
use Rattle.text_turn.proofs.after.tell.Goals as goal
use Rattle.text_turn.proofs.after.tell.Goals.{then-not-s, else-not-s, then-is_due, else-is_due}

pub say-requires : goal.say-requires
say-requires c =
    elim c.if-not-s.branch [
      | then-not-s w ↦ rw (w.out-is, w.clear.ensures) (omega arith)
      | else-not-s w ↦ rw w.out-is (rw (not_false _ w.if-not-s.false) at c.requires)
    ]

pub returns : goal.returns
returns c =
    let said = c.say.ensures.text in
    let stays : c.if-not-s.out ≡ waiting c.args.p.state c.args.out.now =
    elim c.if-not-s.branch [
      | then-not-s w ↦ rw (not_true _ w.if-not-s.true) (w.out-is ∙ w.clear.ensures)
      | else-not-s w ↦ rw (not_false _ w.if-not-s.false) w.out-is
    ] in
    record {
      wrote = rw stays at said;
      most = rw stays at c.say.ensures.most;
      goes =
          elim c.if-is_due.branch [
            | then-is_due w ↦
                handed w.waits-is
                (rw (w.told-is, ← w.length-then-is_due.ensures.length) w.hand-told.ensures)
                (rw (w.input-is, w.told-is, ← w.took_all.ensures) w.stopped-input.ensures)
            | else-is_due w ↦ wait w.waits-is w.told-is w.input-is
          ];
      room =
          elim c.if-is_due.branch [
            | then-is_due w ↦ rw w.waits-is (omega arith)
            | else-is_due w ↦ rw (w.waits-is, ← c.length.ensures.length) (c.is_due.ensures w.if-is_due.false).0
          ];
      prompt =
          elim c.if-is_due.branch [
            | then-is_due w ↦ λ h. w.waits-is
            | else-is_due w ↦
                λ h. a_line_is_whole (c.is_due.ensures w.if-is_due.false).1 (rw w.input-is at h)
          ];
      last =
          elim c.if-is_due.branch [
            | then-is_due w ↦ λ h. w.waits-is
            | else-is_due w ↦
                λ h. a_line_is_left (c.is_due.ensures w.if-is_due.false).2 (rw w.input-is at h)
          ];
      kept = refl;
      telling = refl;
      number = c.number_after.ensures;
      stream =
          c.carried-stream.ensures
          ∙ rw (
            c.count-more.ensures,
            told_behind _ _ c.as_slice.result.now _ (c.as_slice.ensures.bytes ∙ said) c.length-from.ensures.length,
          );
    }
