-- `text_serve::fresh` meets its contract: one blank record, as many times as there are slots.
use mathlib.Core.Path.{ap}
use lib.ListN.{replicate}
use Rattle.paper.specs.Numbers.{slots_most}
use Rattle.paper.specs.declared.Record.{Record}
use Rattle.text_serve.proofs.fresh.Goals as goal

pub returns : goal.returns
returns c = ap (λ (r : Record). replicate slots_most r) c.blank-e.ensures
