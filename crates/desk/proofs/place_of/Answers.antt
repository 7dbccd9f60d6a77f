-- `desk::place_of` meets its contract: `position` finds the first slot with the id, and past the last one is their number.
use Rattle.std.proofs.Common.{◌∙◌, rules, tests}
use Rattle.std.proofs.lemmas.Iterator.{YieldsList-from_slice}
use Rattle.std.proofs.lemmas.Iterator.Search.{position_from_yields_List}
use lib.Dec.{eqb}
use Rattle.paper.specs.declared.Record.{Record}
use Rattle.desk.proofs.Places.{found_or_past}
use Rattle.desk.proofs.place_of.Goals as goal

pub returns : goal.returns
returns c =
    c.unwrap_or.ensures
    ∙ found_or_past c.args.t.now c.args.id c.position.result
    (position_from_yields_List (λ (r : Record). eqb r.id c.args.id) _ _ c.position.result c.position.ensures.ran
    (YieldsList-from_slice _ c.iter.ensures.rest) (λ x b q k. search (rules, tests)))
