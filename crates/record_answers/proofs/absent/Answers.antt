-- `record_answers::absent` meets its contract: its record is the blank that `blank` makes.
use mathlib.Core.Path.{ap}
use Rattle.paper.specs.declared.Record.{Record}
use Rattle.record_answers.proofs.absent.Goals as goal

pub returns : goal.returns
returns c = ap (λ (r : Record). record { count = c.args.n; at = c.args.n; rec = r })
    c.blank.ensures
