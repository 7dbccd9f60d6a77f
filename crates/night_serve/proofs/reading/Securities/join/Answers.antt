use Rattle.night_serve.proofs.Ids.{joining_none, joining_more, joining_all}
use Rattle.night_serve.proofs.reading.Securities.join.Goals as goal

pub loop-k-init : goal.loop-k-init
loop-k-init c = joining_none _ _ _

pub loop-k-preserved : goal.loop-k-preserved
loop-k-preserved c =
    joining_more _ _ _ _ _ _ c.loop-k.invariant c.loop-k-test.true c.unsigned_at.ensures c.join_one-all.ensures

pub returns : goal.returns
returns c = joining_all _ _ _ _ _ _ c.loop-k.invariant c.loop-k-test.false
