-- `evaluation::median` meets its contract: the lesser and the greater of two numbers are the definition's.
use Rattle.paper_desk.specs.Evaluation.{median}
use Rattle.evaluation.proofs.median.Goals as goal

pub returns : goal.returns
unfolding median
returns c =
    rw (
      c.max-2.ensures,
      c.min-2.ensures,
      c.max.ensures,
      c.min.ensures,
    )
