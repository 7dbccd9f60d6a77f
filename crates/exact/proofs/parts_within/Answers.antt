-- `parts_within` meets its contract: only whole parts are walked, and without them the definition's first test fails.
use mathlib.Core.Path.{◌≡◌}
use mathlib.Core.Bool.{true}
use borrow.Author.Tests.{eqb-true}
use Rattle.paper.proofs.Logic.{and_left}
use Rattle.exact.specs.Within.{whole_parts, parts_within}
use Rattle.exact.proofs.parts_within.Goals.{Else-not-count-least}
use Rattle.exact.proofs.parts_within.Goals as goal

are_whole : (c : Else-not-count-least) → whole_parts c.args.fewest c.args.greatest c.args.least.now c.args.numbers.now ≡ true
are_whole c = c.if-not-count-least.false

pub every_within-requires : goal.every_within-requires
every_within-requires c = record { least_nonzero = c.requires; least_len = eqb-true _ 0 (and_left _ _ (are_whole (goal.at.every_within-requires c).Else-not-count-least)) }

pub returns : goal.returns
unfolding parts_within
returns c = rw (are_whole (goal.at.returns c).Else-not-count-least) c.every_within.ensures

pub returns-then-not-count-least : goal.returns-then-not-count-least
unfolding parts_within
returns-then-not-count-least c = rw c.if-not-count-least.true
