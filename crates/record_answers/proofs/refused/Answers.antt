-- `record_answers::refused` meets its contract: the blank is stored past the end, and the number is replied.
use Rattle.record_answers.specs.Effects.{refused_effect}
use Rattle.record_answers.proofs.refused.Goals as goal

pub returns : goal.returns
unfolding refused_effect
returns c = rw c.blank.ensures
