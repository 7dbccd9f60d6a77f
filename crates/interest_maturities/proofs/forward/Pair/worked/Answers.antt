-- `interest_maturities::forward::Pair::worked` meets its contract: the forward rate is counted from the base, the downward margin is no
-- more than what it is taken off, and each limit is rounded once.
use mathlib.Core.Path.{◌≡◌, ap, ◌∙◌}
use Prim.Native.Nat.{ℕ, ◌+◌, ◌-◌, ◌*◌, ◌≤◌}
use native.Mathlib.Omega.{arith}
use lib.IntN.{pos, sub_ℕ}
use mir.Syntax.{w64}
use mir.Val.{SFits}
use mir.Facts.{to_z-of_z}
use borrow.Author.Rules.{rules}
use Rattle.paper_interest.specs.Interest.{limit_from}
use Rattle.interest_maturities.specs.Points.{rate_of}
use Rattle.interest_maturities.specs.Pair.{base, margin_of, lower_of, upper_of, band_worked}
use Rattle.interest_maturities.proofs.Limits.{Sums, sums_in_range, upper_counted, lower_counted}
use Rattle.interest_maturities.proofs.forward.Pair.worked.Goals as goal
use Rattle.interest_maturities.proofs.forward.Pair.worked.Goals.{After-margin, After-risen}

sums_known : (c : After-risen) → Sums c.before.args.self.i c.risen.result
sums_known c = sums_in_range _ _ _ _ c.before.args.self.pair_range c.risen.ensures

-- the margin of the downward estimate is one of those
margin_fits : (c : After-margin)
    → margin_of c.before.before.before.args.self.i c.before.before.before.args.self.n.down
    ≤ c.before.before.before.args.self.i.xir * c.before.before.risen.result
margin_fits c = omega (arith, c.margin.ensures.is, c.margin.ensures.high, (sums_known c.before.before).less)

pub overflow_mul-forward : goal.overflow_mul-forward
overflow_mul-forward c = omega (arith, sums_known (goal.at.overflow_mul-forward c).After-risen)

pub overflow_sub-forward : goal.overflow_sub-forward
overflow_sub-forward c = omega (arith, sums_known (goal.at.overflow_sub-forward c).After-risen, c.margin.ensures.high)

pub limit_from-requires : goal.limit_from-requires
limit_from-requires c =
    omega (arith, sums_known (goal.at.limit_from-requires c).After-risen, c.margin.ensures.high)

pub overflow_add-forward : goal.overflow_add-forward
overflow_add-forward c = omega (arith, sums_known (goal.at.overflow_add-forward c).After-risen, c.margin-2.ensures.high)

pub limit_from-requires-2 : goal.limit_from-requires-2
limit_from-requires-2 c =
    omega (arith, sums_known (goal.at.limit_from-requires-2 c).After-risen, c.margin-2.ensures.high)

pub returns : goal.returns
unfolding band_worked
returns c =
    let i = c.args.self.i in
    let low_fits : SFits w64 c.limit_from.result = search rules in
    let high_fits : SFits w64 c.limit_from-2.result = search rules in
    let low : c.limit_from.result
    ≡ lower_of i (rate_of c.args.self.m) (rate_of c.args.self.n) (pos c.args.self.n.down) =
    c.limit_from.ensures
    ∙ ap (λ (z : ℕ). limit_from i (sub_ℕ (i.xir * c.risen.result - z) (base * ((i.yn - i.ym) * i.xir))))
    c.margin.ensures.is
    ∙ lower_counted _ _ _ _ c.risen.ensures c.args.self.n.down (margin_fits (goal.at.returns c).After-margin) in
    let high : c.limit_from-2.result ≡ upper_of i (rate_of c.args.self.m) (rate_of c.args.self.n) (pos c.args.self.n.up) =
    c.limit_from-2.ensures
    ∙ ap (λ (z : ℕ). limit_from i (sub_ℕ (i.xir * c.risen.result + z) (base * ((i.yn - i.ym) * i.xir))))
    c.margin-2.ensures.is
    ∙ upper_counted _ _ _ _ c.risen.ensures c.args.self.n.up in
    rw (to_z-of_z low_fits, to_z-of_z high_fits, low, high)
