-- What the figures of a bond are (W-206): a rate is the least multiple of h that covers the requirement and the
-- minimum, held at the bond maximum, as a share's is; a limit is the two-decimal figure of what is left of the grown
-- price, rounded the way it says, and 0 where nothing is.
use mathlib.Core.Path.{◌≡◌}
use mathlib.Core.Bool.{true, false}
use Prim.Native.Nat.{ℕ, ◌+◌, ◌-◌, ◌*◌, ◌<◌}
use native.Mathlib.Omega.{arith}
use Rattle.paper.specs.declared.BondScale.{BondScale}
use Rattle.paper.specs.declared.Way.{Way}
use Rattle.paper.specs.Lists.{for_levels}
use Rattle.paper.specs.Numbers.{one_in_per_cent_hundredths}
use Rattle.paper.specs.Roundings.{Quotient}
use Rattle.paper.specs.Ranges.{valid_statics, valid_given, statics_of}
use Rattle.paper_desk.specs.Rates.{minimum_of, level_rate, unmodelled, figures_by_volatility, AtLeastRequired, HeldLeast}
use Rattle.paper_desk.specs.Limits.{grown_price, bond_limit_of}
use Rattle.paper.proofs.Logic.{and_left}
use Rattle.paper_desk.proofs.Level.{level_rate_is}
use Rattle.paper.proofs.Roundings.{rounded_is, rounded_le}
use Rattle.paper_desk.proofs.KindLaws.{bond_limit_is}
use Rattle.paper_bonds.specs.declared.Bond.{Bond}
use Rattle.paper_bonds.specs.Bonds.{bond_given, bond_statics, valid_bond, bond_figures, IsPerCent}

-- ---- the rates

-- what is in range has statics in range, as a share's are
pub bond_statics_valid : (b : Bond) → valid_bond b ≡ true → valid_statics (bond_statics b) ≡ true
unfolding valid_bond valid_given
bond_statics_valid b v = search (v, and_left) depth 40

-- with isEWMA the rate of each level, held at the bond's own maximum
pub bond_rate_is : (b : Bond) (level : ℕ) → valid_bond b ≡ true
    → HeldLeast b.statics.h (minimum_of (bond_statics b) level) b.statics.smax
    (AtLeastRequired (bond_statics b) (bond_figures b).tentative.bp b.m level)
    (level_rate (bond_statics b) (bond_figures b).tentative.bp b.m level)
unfolding bond_given statics_of
bond_rate_is b level v =
    level_rate_is (bond_statics b) level b.m (bond_figures b).tentative.bp (bond_statics_valid b v)

pub bond_rates_are : (b : Bond) → (bond_statics b).ewma ≡ true
    → (bond_figures b).rates
    ≡ for_levels (λ l. record { bp = level_rate (bond_statics b) (bond_figures b).tentative.bp b.m l })
unfolding bond_figures figures_by_volatility
bond_rates_are b e = rw e

-- without it the minima, and the tentative rate and its age stay
pub bond_rates_stay : (b : Bond) → (bond_statics b).ewma ≡ false
    → ((bond_figures b).rates ≡ for_levels (λ l. record { bp = minimum_of (bond_statics b) l }))
    × ((bond_figures b).tentative ≡ b.tentative)
unfolding bond_figures figures_by_volatility unmodelled
bond_rates_stay b e = (rw e, rw e)

-- ---- a limit

pub bond_limit_rounded : (way : Way) (b : BondScale) (x : Quotient) → 0 < b.face
    → IsPerCent way b.face (grown_price x) (b.carry + b.accrued) (bond_limit_of way b x)
bond_limit_rounded way b x f =
    let n : ℕ = one_in_per_cent_hundredths * (grown_price x - (b.carry + b.accrued)) in
    rw (bond_limit_is way b x f)
    (record {
      rounded = λ h. rounded_is way n b.face f;
      negative = λ h. omega (arith, rounded_le way n b.face 0 f (omega arith));
    })
