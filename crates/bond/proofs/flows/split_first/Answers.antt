-- `bond::flows::split_first` meets its contract: the numbers of the first, and those behind them.
use Rattle.std.proofs.Common.{arith}
use Rattle.bond.specs.FlowLaws.{flow_in_front, first_and_others}
use Rattle.bond.proofs.flows.split_first.Goals as goal

pub returns-clause-first : goal.returns-clause-first
returns-clause-first c = rw (c.flow_of.ensures, c.in_ok-first.ensures.cases.0, flow_in_front)

pub returns-clause-others : goal.returns-clause-others
returns-clause-others c =
    let parts = c.in_ok-first.ensures.cases in rw parts.1 (first_and_others _ (omega (arith, parts.2)))
