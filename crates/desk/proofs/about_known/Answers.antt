-- `desk::about_known` meets its contract: the same, where the caller may know that the slot is known.
use Rattle.paper_desk.specs.Desk.{ask_of}
use Rattle.desk.proofs.Steps.{done_at}
use Rattle.desk.proofs.about_known.Goals as goal

pub effect_known-o-requires : goal.effect_known-o-requires
effect_known-o-requires c = λ known. rw c.take_at-s.ensures (c.requires known)

pub returns : goal.returns
returns c =
    done_at c.args.t.now c.args.at (ask_of c.args.a c.args.rows.now) _ _ _ _ c.take_at-s.ensures
    c.effect_known-o.ensures c.answered.ensures c.put.ensures
