use Rattle.text_input.proofs.InputLoops.{passing_none, passing_spent, passing_end, passing_found}
use Rattle.text_input.proofs.InputLoops.{passing_more}
use lib.Seq.{length-take-le}
use native.Mathlib.Omega.{arith}
use mathlib.Core.Path.{sym}
use Rattle.text_input.proofs.pass_over.Goals as goal

pub loop-turn-init : goal.loop-turn-init
loop-turn-init c = passing_none _ _ c.requires

pub returns-then-n-eq0 : goal.returns-then-n-eq0
returns-then-n-eq0 c =
    passing_end c.loop-turn.invariant c.fill-read.ensures c.came-n.ensures c.if-n-eq0.true

pub slice_bounds-find-end : goal.slice_bounds-find-end
slice_bounds-find-end c =
    let f = c.fill-read.ensures in
    omega (arith, c.came-n.ensures, f.most, f.room, f.long)

pub slice_bounds-find-end-in-loop-turn : goal.slice_bounds-find-end-in-loop-turn
slice_bounds-find-end-in-loop-turn c =
    let f = c.fill-read.ensures in
    sym (length-take-le _ _ (omega (arith, c.came-n.ensures, f.most, f.room, f.long)))

pub returns-then-e-n : goal.returns-then-e-n
returns-then-e-n c =
    passing_found c.loop-turn.invariant c.fill-read.ensures c.came-n.ensures _
    c.find-e.ensures.0 c.if-e-n.true

pub loop-turn-preserved : goal.loop-turn-preserved
loop-turn-preserved c =
    passing_more c.loop-turn.invariant c.fill-read.ensures c.came-n.ensures _
    c.find-e.ensures.0 _ (omega arith) c.if-n-eq0.false c.if-e-n.false
    c.find-e.ensures.1

pub returns : goal.returns
returns c = passing_spent c.loop-turn.invariant (omega arith)
