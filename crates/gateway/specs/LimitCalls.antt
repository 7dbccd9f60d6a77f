-- A range limit and a band limit as one call of the gateway, over what a band's takes beside a range's: of a range
-- nothing is asked. `range_call` and `band_call` of the paper are its two instances.
use Rattle.std.specs.Prelude.{◌≡◌, refl, Bool, true, false, ◌&&◌, ℕ, ◌%◌, ◌≤◌, leb, eqb, ℤ}
use Rattle.std.proofs.Math.Bool.{and-true}
use Rattle.std.proofs.Common.{arith}
use Rattle.paper.specs.declared.Price.{Price}
use Rattle.paper.specs.declared.Rate.{Rate}
use Rattle.paper.specs.declared.Statics.{Statics}
use Rattle.paper.specs.declared.GivenStatics.{GivenStatics}
use Rattle.paper.specs.declared.Side.{Side}
use Rattle.paper.specs.Numbers.{term_days_most, repo_least, repo_most, moves_most}
use Rattle.paper_desk.specs.Kept.{fresh_most}
use Rattle.paper.specs.Ranges.{within_z, is_price, is_rate, is_grid_price, grid_of, valid_side, side_of, statics_of}
use Rattle.paper.specs.Ranges.{valid_statics}
use Rattle.paper_desk.specs.Limits.{range_limit, band_limit}
use Rattle.paper.specs.Verdicts.{first_of}
use Rattle.paper_desk.specs.Gateway.{gateway_checks, gateway_answer, range_in_range, band_in_range}
use Rattle.limits.specs.LimitRanges.{RangeInputs, BandInputs, range_has_range_inputs, band_has_band_inputs}
use Rattle.limits.specs.LimitRanges.{valid_limit_statics}
use Rattle.limits.specs.LimitBounds.{range_high, band_high}
use Rattle.gateway.specs.declared.limit.Grown.{Grown}
use Rattle.std.specs.declared.option.Option.{Option}
use Rattle.std.specs.declared.option.Option.TheVariants.{None, Some}

-- a band's own values: "k, that side's repo rate, c"
unfoldable pub own_in_range : Option Grown → Bool
own_in_range None = true
own_in_range (Some x) = leb x.k term_days_most && within_z repo_least repo_most x.repo && leb x.c moves_most

unfoldable pub limit_in_range : Statics → Option Grown → (p rate side : ℕ) → Bool
limit_in_range st None p rate side = range_in_range st p rate side
limit_in_range st (Some x) p rate side = band_in_range st p rate x.k x.repo x.c side

unfoldable pub limit_figure : Statics → Option Grown → Side → (p rate : ℕ) → ℕ
limit_figure st None side p rate = range_limit st p rate side
limit_figure st (Some x) side p rate = band_limit st p rate x.k x.repo x.c side

unfoldable pub limit_call : GivenStatics → Option Grown → (p rate side : ℕ) → ℤ
limit_call g asked p rate side =
    gateway_answer (first_of (gateway_checks g (limit_in_range (statics_of g) asked p rate side)))
    (limit_figure (statics_of g) asked (side_of side) p rate)

-- what the limit's rule asks of its values
unfoldable pub LimitInputs : Option Grown → Price → Rate → Type 0
LimitInputs None p rate = RangeInputs p rate
LimitInputs (Some x) p rate = BandInputs p rate x.c x.k x.repo

-- what the call tests is what the rule asks
pub limit_inputs : (st : Statics) (asked : Option Grown) (p : Price) (rate : Rate) (side : ℕ)
    → limit_in_range st asked p.units rate.bp side ≡ true → LimitInputs asked p rate
unfolding limit_in_range LimitInputs
limit_inputs st None p rate side v = range_has_range_inputs st p rate side v
limit_inputs st (Some x) p rate side v = band_has_band_inputs st p rate x.k x.repo x.c side v

-- a limit fits, since it is at most twice the price
pub limit_high : (st : Statics) (asked : Option Grown) (side : Side) (p : Price) (rate : Rate) → valid_statics st ≡ true
    → LimitInputs asked p rate → limit_figure st asked side p.units rate.bp ≤ fresh_most
unfolding limit_figure LimitInputs
limit_high st None side p rate v i = omega (arith, range_high st side p rate i)
limit_high st (Some x) side p rate v i =
    omega (arith, band_high st side p rate x.c x.k x.repo (valid_limit_statics st v) i)

-- what the call judges beside a price and a rate in range
pub in_range_is : (st : Statics) (asked : Option Grown) (p rate side : ℕ) → is_price p ≡ true → is_rate rate ≡ true
    → (eqb (p % grid_of st.lot) 0 && own_in_range asked && valid_side side) ≡ limit_in_range st asked p rate side
unfolding limit_in_range range_in_range band_in_range is_grid_price own_in_range
in_range_is st None p rate side hp hr = rw (hp, hr, and-true)
in_range_is st (Some x) p rate side hp hr = rw (hp, hr) (go (eqb (p % grid_of st.lot) 0))
  where
    go : (on : Bool)
        → (on && (leb x.k term_days_most && within_z repo_least repo_most x.repo && leb x.c moves_most)
        && valid_side side)
        ≡ (true && on && true && leb x.k term_days_most && within_z repo_least repo_most x.repo
        && leb x.c moves_most && valid_side side)
    go true = refl
    go false = refl

-- what the rule asks, once it is known which limit is asked for
pub range_has_inputs : {asked : Option Grown} {p : Price} {rate : Rate} → asked ≡ None → LimitInputs asked p rate
    → RangeInputs p rate
unfolding LimitInputs
range_has_inputs e i = rw e at i

pub band_has_inputs : {asked : Option Grown} {x : Grown} {p : Price} {rate : Rate} → asked ≡ Some x
    → LimitInputs asked p rate
    → BandInputs p rate x.c x.k x.repo
unfolding LimitInputs
band_has_inputs e i = rw e at i
