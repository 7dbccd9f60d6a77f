-- `desk::about` meets its contract: the effect of its rule is the paper's step.
use Rattle.paper_desk.specs.Desk.{ask_of}
use Rattle.desk.proofs.Steps.{ask_promised}
use Rattle.desk.proofs.about.Goals as goal

pub returns : goal.returns
returns c =
    ask_promised c.args.t.now c.args.id (ask_of c.args.a c.args.rows.now) _ _ _ _ c.take-s.ensures
    c.effect_of-o.ensures c.answered.ensures c.put.ensures
