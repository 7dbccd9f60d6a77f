-- The limit of a bond (W-206) on both sides of its roundings, and what the kinds of security do not share: a bond's
-- farthest limit grows, and a share's does not. It may use Limits.
use Rattle.std.specs.Prelude.{◌≡◌, refl, List, [], ◌∷◌, ℕ, pos}
use Rattle.paper.specs.declared.BondScale.{BondScale}
use Rattle.paper.specs.declared.Statics.{Statics}
use Rattle.paper.specs.declared.Side.TheVariants.{Upper}
use Rattle.paper.specs.declared.Way.TheVariants.{Down, Up}
use Rattle.paper.specs.Roundings.{Quotient, down, half_up, up, grown}
use Rattle.paper.specs.Ranges.{statics_of, grid_of}
use Rattle.paper_desk.specs.Limits.{share, bond, inward, limit_of, bond_limit_of, limit_for, shifted, farthest}
use Rattle.paper_desk.specs.Limits.{farthest_for}
use Rattle.paper.specs.PinnedValues.{given_with}

-- so much Carry, and a face value; the accrued interest is 0, and REPORate a thousandth a day
scale : (carry face : ℕ) → BondScale
scale carry face = record { carry = carry; accrued = 0; face = face; repo = pos 3650 }

halves : (num : ℕ) → Quotient
halves num = record { num = num; den = 2 }

pub per_cents : List ℕ
unfolding scale halves bond_limit_of down half_up up
per_cents =
    bond_limit_of Down (scale 0 1000) (halves 2001)
    ∷ bond_limit_of Down (scale 0 1000) (halves 1999)
    ∷ bond_limit_of Down (scale 1 20000) (halves 40000)
    ∷ bond_limit_of Up (scale 1 20000) (halves 40000)
    ∷ bond_limit_of Down (scale 2 20000) (halves 40000)
    ∷ bond_limit_of Up (scale 2 20000) (halves 40000)
    ∷ bond_limit_of Down (scale 20000 10000) (halves 20000)
    ∷ []

pub per_cents_are : per_cents
    -- "the grown price half up to a unit": 1,000.5 and 999.5 of a face value of 1,000
    ≡ 10010
    ∷ 10000
    -- W-209: the limit to two decimals of the per cent, down above and up below: 19,999 of 20,000 is 9,999.5, and
    -- 19,998 is 9,999
    ∷ 9999
    ∷ 10000
    ∷ 9999
    ∷ 9999
    -- "Negative limits are zero": 10,000 less 20,000
    ∷ 0
    ∷ []
unfolding per_cents
per_cents_are = refl

-- the farthest upper limit of P 10,000 at a term of 30 days, of either kind: PcH_max is 20 per cent
pub farthests : List ℕ
unfolding scale given_with statics_of grid_of limit_of bond_limit_of farthest shifted down half_up grown
farthests =
    let st : Statics = statics_of (given_with 10) in
    limit_for (inward Upper) share st (farthest_for share st Upper 10000 30)
    ∷ limit_for (inward Upper) (bond (scale 0 10000)) st (farthest_for (bond (scale 0 10000)) st Upper 10000 30)
    ∷ []

pub farthests_are : farthests ≡ 12000 ∷ 12360 ∷ []
unfolding farthests
farthests_are = refl
