-- `bond::flows::Carry::total` meets its contract: what is summed, with Carry of the rest, is always Carry of all.
use Rattle.std.proofs.Common.{length}
use Rattle.paper_bonds.specs.Bonds.{lent_flows}
use Rattle.bond.specs.FlowLaws.{Summing}
use Rattle.bond.proofs.flows.Carry.total.Given as goal

abbrev pub invariant-loop-flow : goal.invariant-loop-flow
invariant-loop-flow l = Summing (lent_flows l.numbers) l.self.k l.self.repo l.total (lent_flows l.rest)

abbrev pub decreases-loop-flow : goal.decreases-loop-flow
decreases-loop-flow l = length l.rest
