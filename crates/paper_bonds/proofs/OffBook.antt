-- The limits of a bond off the book (W-206): each is the narrower of the band limit and that of the 20 per cent, taken
-- before they are rounded or after, and so they lie within the band.
use mathlib.Core.Path.{◌≡◌}
use mathlib.Core.Bool.{true}
use mathlib.Core.List.{List}
use Prim.Native.Nat.{ℕ, ◌≤◌, ◌<◌}
use native.Mathlib.Omega.{arith}
use lib.IntN.{ℤ}
use Rattle.paper.specs.declared.BondScale.{BondScale}
use Rattle.paper.specs.declared.Statics.{Statics}
use Rattle.paper.specs.declared.Side.{Side}
use Rattle.paper.specs.declared.Side.TheVariants.{Upper, Lower}
use Rattle.paper.specs.declared.Term.{Term}
use Rattle.paper.specs.Numbers.{divisor_least}
use Rattle.paper_desk.specs.Limits.{bond, inward, narrower_of, band_before, band_limit_for}
use Rattle.paper_desk.proofs.LimitSizes.{valid_limit_statics}
use Rattle.paper_desk.proofs.KindLaws.{shifted_positive, band_positive, narrower_rounded}
use Rattle.paper_bonds.specs.declared.Bond.{Bond}
use Rattle.paper_bonds.specs.declared.Flow.{Flow}
use Rattle.paper_bonds.specs.BondNumbers.{off_book}
use Rattle.paper_bonds.specs.Bonds.{bond_statics, valid_bond, gross_of, first_rate, scale_at, twenty_before}
use Rattle.paper_bonds.specs.Bonds.{twenty_limit, off_limit, limits_from, limits_of, WithinBand}
use Rattle.paper_bonds.proofs.BondFigures.{bond_statics_valid}

pub off_is : (b : BondScale) (st : Statics) (side : Side) (p s1 c k : ℕ) (repo : ℤ) → 0 < b.face
    → divisor_least ≤ st.xpr
    → off_limit b st p s1 k repo c side
    ≡ narrower_of side (band_limit_for (bond b) st p s1 k repo c side) (twenty_limit b side p k)
off_is b st side p s1 c k repo f d =
    narrower_rounded (inward side) (bond b) st side (band_before (bond b) st p s1 k repo c side)
    (twenty_before b side p k) f (band_positive (bond b) st side p s1 c k repo d)
    (omega (arith, shifted_positive side p off_book))

pub off_within_band : (b : BondScale) (st : Statics) (p s1 : ℕ) (x : Term) → 0 < b.face → divisor_least ≤ st.xpr
    → WithinBand (limits_from b st p s1 x)
unfolding limits_from
off_within_band b st p s1 x f d =
    record {
      lower = omega (arith, off_is b st Lower p s1 0 x.k x.low f d);
      upper = omega (arith, off_is b st Upper p s1 0 x.k x.high f d);
    }

-- so it is for every bond in range that has a face value, and every term
pub bond_off_within : (b : Bond) (flows : List Flow) (x : Term) → valid_bond b ≡ true → 0 < b.face
    → WithinBand (limits_of b flows x)
unfolding limits_of
bond_off_within b flows x v f =
    off_within_band (scale_at b flows x.k) (bond_statics b) (gross_of b) (first_rate b) x f
    (valid_limit_statics (bond_statics b) (bond_statics_valid b v)).divisor_low
