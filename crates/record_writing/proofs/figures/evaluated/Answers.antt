-- `record_writing::figures::evaluated` meets its contract: what was made is the paper's, the terms are the day's, and all else
-- is cleared or the record's.
use mathlib.Core.Path.{◌≡◌}
use borrow.Author.Rules.{rules}
use lib.ListN.{length}
use Rattle.paper.specs.Ranges.{no_term}
use Rattle.paper_desk.specs.Desk.{evaluated}
use Rattle.record_writing.proofs.FiguresFacts.{list_of_three_is}
use Rattle.record_writing.proofs.figures.evaluated.Goals as goal

pub returns : goal.returns
unfolding evaluated
returns c = λ rows e.
    let terms : length c.args.d.terms ≡ 3 = search rules in
    rw (e, list_of_three_is c.args.d.terms no_term terms)
