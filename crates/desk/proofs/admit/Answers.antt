-- `desk::admit` meets its contract: what its rule makes of the two slots is the paper's step.
use Rattle.desk.proofs.Steps.{admit_promised}
use Rattle.desk.proofs.admit.Goals as goal

pub returns : goal.returns
returns c =
    admit_promised c.args.t.now c.args.a _ _ _ _ _ c.take-s.ensures c.take-e.ensures c.admitted-o.ensures
    c.answered.ensures c.put.ensures
