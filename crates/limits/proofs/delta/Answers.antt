-- `limits::delta` meets its contract: the quotient of the definition, rounded once. The products fit by the ranges.
use native.Mathlib.Omega.{arith}
use Rattle.paper_desk.specs.Limits.{delta_of, limit_of}
use Rattle.limits.specs.LimitRanges.{LimitStatics, valid_limit_statics}
use Rattle.limits.specs.LimitLaws.{grid_in_range}
use Rattle.limits.specs.LimitBounds.{DeltaSizes, delta_sizes}
use Rattle.limits.proofs.delta.Goals as goal
use Rattle.limits.proofs.delta.Goals.{Start}

statics : (c : Start) → LimitStatics c.args.st
statics c = valid_limit_statics c.args.st c.requires.st_value

sizes : (c : Start) → DeltaSizes c.args.st c.args.p c.args.s1
sizes c = delta_sizes c.args.st c.args.p c.args.s1 (statics c) c.requires.range_inputs

pub overflow_mul-st : goal.overflow_mul-st
overflow_mul-st c = omega (arith, (sizes (goal.at.overflow_mul-st c).Start).shift)

pub overflow_mul-st-2 : goal.overflow_mul-st-2
overflow_mul-st-2 c = omega (arith, (sizes (goal.at.overflow_mul-st-2 c).Start).rates)

pub overflow_mul-st-3 : goal.overflow_mul-st-3
overflow_mul-st-3 c = omega (arith, (sizes (goal.at.overflow_mul-st-3 c).Start).num)

pub overflow_mul-st-4 : goal.overflow_mul-st-4
overflow_mul-st-4 c =
    omega (arith, (statics (goal.at.overflow_mul-st-4 c).Start).divisor_high)

pub rounded_to-requires : goal.rounded_to-requires
rounded_to-requires c =
    rw c.grid_of.ensures (omega (arith, grid_in_range c.args.st.lot, statics (goal.at.rounded_to-requires c).Start, sizes (goal.at.rounded_to-requires c).Start))

pub returns : goal.returns
unfolding delta_of limit_of
returns c =
    rw (c.rounded_to.ensures, c.grid_of.ensures)
