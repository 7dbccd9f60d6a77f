-- `bond::flows::Carry::term` meets its contract: the amount with its days to the term, rounded once.
use Rattle.std.proofs.Common.{◌≡◌, ◌-◌, ◌*◌, ◌≤◌, arith, mul-le-mul}
use Rattle.paper.specs.Numbers.{year_in_day_bp}
use Rattle.paper.specs.Roundings.{grown}
use Rattle.paper_bonds.specs.Bonds.{carry_term}
use Rattle.bond.specs.FlowLaws.{year_high}
use Rattle.bond.proofs.Sizes.{rate_kept_in_bits}
use Rattle.bond.proofs.flows.Carry.term.Goals as goal
use Rattle.bond.proofs.flows.Carry.term.Goals.{After-grow-days}

-- the days' factor
days_are : (c : After-grow-days)
    → c.grow-days.result
    ≡ grown year_in_day_bp (c.before.before.args.self.k - c.before.before.args.f.day) c.before.before.args.self.repo
days_are c =
    rw (rate_kept_in_bits _ c.before.before.args.self.carry_inputs.rate, c.before.saturating_sub.ensures) at c.grow-days.ensures

pub grow-days-requires : goal.grow-days-requires
grow-days-requires c =
    let inputs = c.args.self.carry_inputs in
    rw (c.saturating_sub.ensures, rate_kept_in_bits _ inputs.rate)
    (record { days = omega (arith, inputs.days); size = inputs.rate; least = omega arith; most = omega arith })

pub overflow_mul-f : goal.overflow_mul-f
overflow_mul-f c =
    let a = c.args in
    let year : c.grow-days.result ≤ 2 * year_in_day_bp =
    rw (days_are (goal.at.overflow_mul-f c).After-grow-days) (year_high a.self.k a.self.repo a.f.day a.self.carry_inputs) in
    omega (arith, mul-le-mul c.requires year)

pub returns : goal.returns
unfolding carry_term
returns c = rw (c.half_up.ensures, days_are (goal.at.returns c).After-grow-days)
