use mathlib.Core.Path.{ap, ◌∙◌}
use native.Mathlib.Omega.{arith}
use lib.ListN.{length}
use Rattle.night_serve.proofs.Lines.{asking_none, asked_more, asked_all}
use Rattle.night_serve.proofs.print_asked.Goals as goal

pub loop-id-init : goal.loop-id-init
loop-id-init c = asking_none _ _ _ _

pub loop-id-preserved : goal.loop-id-preserved
loop-id-preserved c =
    rw c.put.ensures
    (asked_more _ _ _ _ _ _ c.loop-id.invariant c.loop-id-test.true _
    (c.as_slice.ensures.bytes ∙ c.put_line.ensures.text)
    (omega (arith, ap length c.as_slice.ensures.bytes, c.put_line.ensures.most)))

pub returns : goal.returns
returns c = asked_all _ _ _ _ _ _ c.loop-id.invariant c.loop-id-test.false
