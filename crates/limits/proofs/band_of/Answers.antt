-- `limits::band_of` meets its contract, side by side, each with its own farthest limit, moves and repo rate. Each of
-- the farthest pair is a limit, since it is at most twice the greatest price.
use mathlib.Core.Path.{◌≡◌, ap, ◌∙◌}
use Prim.Native.Nat.{◌≤◌}
use native.Mathlib.Omega.{arith}
use mir.Syntax.{w64}
use mir.Val.{to_z, of_z}
use Rattle.paper.specs.declared.Price.{Price}
use Rattle.paper.specs.declared.Rate.{Rate}
use Rattle.paper.specs.declared.Side.{Side}
use Rattle.paper.specs.declared.Side.TheVariants.{Upper, Lower}
use Rattle.paper.specs.declared.Limit.{Limit}
use Rattle.paper.specs.declared.Limits.{Limits}
use Rattle.paper.specs.declared.Moves.{Moves}
use Rattle.paper.specs.declared.Term.{Term}
use Rattle.paper.specs.Numbers.{limit_most}
use Rattle.paper_desk.specs.Limits.{band_of, count_of}
use Rattle.limits.specs.Sides.{farthest_limit, repo_of}
use Rattle.limits.specs.LimitRanges.{BandInputs, TermInputs, term_has_band_inputs, term_repo_bits}
use Rattle.limits.specs.LimitRanges.{valid_limit_statics}
use Rattle.limits.specs.LimitBounds.{farthest_limit_high}
use Rattle.limits.proofs.band_of.Goals as goal
use Rattle.limits.proofs.band_of.Goals.{Start}

inputs : (p : Price) (s1 : Rate) (side : Side) (c : Moves) (x : Term) → TermInputs p s1 c x
    → BandInputs p s1 (count_of side c) x.k (to_z w64 (of_z w64 (repo_of side x)))
inputs p s1 side c x r = rw (term_repo_bits side x r.term) (term_has_band_inputs p s1 side c x r)

-- the given pair is the two farthest limits
below : (s : Start) → s.args.farthest.lower ≡ farthest_limit s.args.st Lower s.args.p.units
below s = ap (λ (z : Limits). z.lower) s.requires.farthest_value

above : (s : Start) → s.args.farthest.upper ≡ farthest_limit s.args.st Upper s.args.p.units
above s = ap (λ (z : Limits). z.upper) s.requires.farthest_value

is_limit_lem : (s : Start) (side : Side) → farthest_limit s.args.st side s.args.p.units ≤ limit_most
is_limit_lem s side =
    let v = valid_limit_statics s.args.st s.requires.st_value in
    omega (arith, farthest_limit_high s.args.st side s.args.p v s.requires.term_inputs.price)

pub of-below-requires : goal.of-below-requires
of-below-requires c = rw (below (goal.at.of-below-requires c).Start) (is_limit_lem (goal.at.of-below-requires c).Start Lower)

pub of-above-requires : goal.of-above-requires
of-above-requires c = rw (above (goal.at.of-above-requires c).Start) (is_limit_lem (goal.at.of-above-requires c).Start Upper)

pub limit_within-requires : goal.limit_within-requires
limit_within-requires c =
    let a = c.args in
    let far = ap (λ (z : Limit). z.units) c.of-below.ensures ∙ below (goal.at.limit_within-requires c).Start in
    record { st_value = c.requires.st_value; band_inputs = inputs a.p a.s1 Lower a.c a.x c.requires.term_inputs; units_value = far }

pub limit_within-requires-2 : goal.limit_within-requires-2
limit_within-requires-2 c =
    let a = c.args in
    let far = ap (λ (z : Limit). z.units) c.of-above.ensures ∙ above (goal.at.limit_within-requires-2 c).Start in
    record { st_value = c.requires.st_value; band_inputs = inputs a.p a.s1 Upper a.c a.x c.requires.term_inputs; units_value = far }

pub returns : goal.returns
unfolding band_of
returns c =
    let v = c.requires.term_inputs.term in
    rw (
      c.limit_within.ensures,
      c.limit_within-2.ensures,
      term_repo_bits Lower c.args.x v,
      term_repo_bits Upper c.args.x v,
    )
