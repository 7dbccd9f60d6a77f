-- `interest_maturities::forward::Pair::limit_from` meets its contract: half up of the sum, less the base, is half up of the sum less the
-- base's part.
use mathlib.Core.Path.{ap, ◌∙◌}
use Prim.Native.Nat.{ℕ, ◌-◌, ◌*◌, ◌≤◌, ◌<◌}
use native.Mathlib.Nat.{mul-le-mul, mul-pos}
use native.Mathlib.Omega.{arith}
use lib.IntN.{sub_ℕ}
use mir.Syntax.{w64}
use mir.Val.{SFits}
use mir.Facts.{to_z-of_z}
use borrow.Author.Rules.{rules}
use Rattle.paper.specs.Numbers.{maturity_most}
use Rattle.interest_maturities.specs.Pair.{base}
use Rattle.interest_maturities.proofs.Limits.{limit_counted, half_within}
use Rattle.interest_maturities.proofs.forward.Pair.limit_from.Goals as goal
use Rattle.interest_maturities.proofs.forward.Pair.limit_from.Goals.{Start}

divisor_positive : (c : Start) → 0 < (c.args.self.i.yn - c.args.self.i.ym) * c.args.self.i.xir
divisor_positive c =
    let days : 0 < c.args.self.i.yn - c.args.self.i.ym = omega (arith, c.args.self.pair_range.order) in
    mul-pos days (omega (arith, c.args.self.pair_range.given.divisor_low))

pub overflow_mul-i : goal.overflow_mul-i
overflow_mul-i c =
    let days : c.args.self.i.yn - c.args.self.i.ym ≤ maturity_most = omega (arith, c.args.self.pair_range.given.yn) in
    omega (arith, mul-le-mul days c.args.self.pair_range.given.divisor_high)

pub half_up-requires : goal.half_up-requires
half_up-requires c = divisor_positive (goal.at.half_up-requires c).Start

pub lowered-requires : goal.lowered-requires
lowered-requires c =
    omega (arith, c.half_up.ensures, half_within c.args.n _ (divisor_positive (goal.at.lowered-requires c).Start), c.requires)

pub returns : goal.returns
returns c =
    let answered : SFits w64 c.lowered.result = search rules in
    to_z-of_z answered
    ∙ c.lowered.ensures
    ∙ ap (λ (q : ℕ). sub_ℕ q base) c.half_up.ensures
    ∙ limit_counted _ _ c.args.self.pair_range
