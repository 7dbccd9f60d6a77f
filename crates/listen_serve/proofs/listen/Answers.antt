use mathlib.Core.Path.{sym}
use Rattle.paper.proofs.Logic.{not_true, not_false}
use Rattle.listen_serve.proofs.ListeningTurns.{came_first, came_more, came_over}
use Rattle.listen_serve.proofs.listen.Goals as goal

pub loop-s-init : goal.loop-s-init
loop-s-init c =
    came_first _ _ _ c.large_buffer-buf.ensures c.large_buffer-out.ensures c.start-s.ensures

pub slice_bounds-step-end : goal.slice_bounds-step-end
slice_bounds-step-end c = sym c.loop-s.invariant.stands.long

pub step-s-requires : goal.step-s-requires
step-s-requires c =
    (c.loop-s.invariant.stands, not_true _ c.loop-s-test.true)

pub loop-s-smaller : goal.loop-s-smaller
loop-s-smaller c = c.step-s.ensures.nearer

pub loop-s-preserved : goal.loop-s-preserved
loop-s-preserved c =
    came_more c.loop-s.invariant (not_true _ c.loop-s-test.true) c.step-s.ensures

pub returns : goal.returns
returns c = came_over c.loop-s.invariant (not_false _ c.loop-s-test.false)
