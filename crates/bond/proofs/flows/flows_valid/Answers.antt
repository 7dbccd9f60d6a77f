-- `bond::flows::flows_valid` meets its contract: its two tables have the definition's ranges, in its order, and there
-- is no fewest number of cash flows.
use mathlib.Core.Path.{◌∙◌}
use native.Mathlib.Nat.{add-zero}
use native.Mathlib.Omega.{arith}
use lib.ListN.{length}
use borrow.Author.Tests.{le-leb}
use Rattle.exact.specs.Within.{within_first, parts_within_is}
use Rattle.paper_bonds.specs.Bonds.{flow_at, lent_flows, whole_flows, valid_flow, valid_flows}
use Rattle.bond.proofs.flows.flows_valid.Goals as goal

pub returns : goal.returns
unfolding valid_flows whole_flows valid_flow flow_at lent_flows within_first
returns c =
    let numbers = c.args.numbers.now in
    rw (le-leb 0 (length numbers) (omega arith))
    at (c.parts_within.ensures ∙ parts_within_is valid_flow flow_at _ _ _ (λ at. rw add-zero) _ _)
