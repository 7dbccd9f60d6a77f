use Rattle.std.proofs.Common.{◌+◌, arith}
use Rattle.paper_bonds.specs.Bonds.{lent_flows, flows_of}
use Rattle.bond.specs.FlowLaws.{Summing, summing_first, summing_amount, summing_next, summing_end, valid_every}
use Rattle.bond.specs.FlowLaws.{none_of_short, carry_most_lem}
use Rattle.bond.proofs.flows.Carry.total.Goals as goal
use Rattle.bond.proofs.flows.Carry.total.Goals.{After-due-total}

next_sums : (c : After-due-total)
    → let loop = c.before.before.before in
    let start = c.before.before.before.before in
    Summing (lent_flows start.args.numbers.now) start.args.self.k start.args.self.repo
    (loop.loop-flow.total + c.due-total.result)
    (lent_flows c.before.in-Some.others.now)
next_sums c =
    let found = c.before.in-Some.ensures in
    rw (c.due-total.ensures, found.first) (summing_next _ _ _ _ _ c.before.before.before.loop-flow.invariant _ _ found.others)

pub loop-flow-init : goal.loop-flow-init
loop-flow-init c = summing_first _ _ _ (valid_every _ c.requires)

pub due-total-requires : goal.due-total-requires
due-total-requires c =
    rw c.in-Some.ensures.first (summing_amount _ _ _ _ _ c.loop-flow.invariant _ _ c.in-Some.ensures.others)

pub overflow_add-total : goal.overflow_add-total
unfolding flows_of
overflow_add-total c =
    omega (
      arith,
      (next_sums (goal.at.overflow_add-total c).After-due-total).sums,
      carry_most_lem c.args.numbers.now c.args.self.k c.args.self.repo c.args.self.carry_inputs c.requires,
    )

pub loop-flow-preserved : goal.loop-flow-preserved
loop-flow-preserved c = next_sums (goal.at.loop-flow-preserved c).After-due-total

pub returns : goal.returns
unfolding flows_of
returns c =
    summing_end _ _ _ _ _ c.loop-flow.invariant (none_of_short _ c.in_default.ensures.first)
