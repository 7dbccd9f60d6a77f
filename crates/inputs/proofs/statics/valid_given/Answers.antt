-- `inputs::valid_given` meets its contract: the statics are made by `statics_of` and judged by `valid_statics`, and the
-- flags by `valid_flags`.
use Rattle.paper.specs.Ranges.{valid_given}
use Rattle.inputs.proofs.statics.valid_given.Goals as goal

pub returns : goal.returns
unfolding valid_given
returns c =
    rw (c.valid_flags.ensures, c.valid_statics.ensures, c.statics_of.ensures)
