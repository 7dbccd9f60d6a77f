-- `desk::about_at` meets its contract: the same, of the slot at a place.
use Rattle.paper_desk.specs.Desk.{ask_of}
use Rattle.desk.proofs.Steps.{done_at}
use Rattle.desk.proofs.about_at.Goals as goal

pub returns : goal.returns
returns c =
    done_at c.args.t.now c.args.at (ask_of c.args.a c.args.rows.now) _ _ _ _ c.take_at-s.ensures
    c.effect_of-o.ensures c.answered.ensures c.put.ensures
