-- Laws over the kind of security: what either kind makes of a limit keeps order, so that the narrower of two limits can
-- be taken before they are rounded or after; and so a band limit is the narrower of the farthest limit and the
-- monitored one.
use mathlib.Core.Path.{◌≡◌, refl, ap, ◌∙◌}
use mathlib.Core.Logic.{◌⊎◌, inl, inr}
use mathlib.Core.Bool.{Bool, true, false}
use Prim.Native.Nat.{ℕ, zero, suc, ◌+◌, ◌-◌, ◌*◌, ◌≤◌, ◌<◌}
use native.Mathlib.Nat.{mul-le-mul_right}
use native.Mathlib.Omega.{arith}
use lib.Dec.{leb}
use lib.IntN.{ℤ, pos, neg_ℤ, sub_ℕ}
use Rattle.paper.specs.declared.Statics.{Statics}
use Rattle.paper.specs.declared.BondScale.{BondScale}
use Rattle.paper.specs.declared.Side.{Side}
use Rattle.paper.specs.declared.Side.TheVariants.{Upper, Lower}
use Rattle.paper.specs.declared.Way.{Way}
use Rattle.paper.specs.declared.Way.TheVariants.{HalfUp}
use Rattle.paper.specs.Lists.{pick}
use Rattle.paper.specs.Numbers.{coarsest_grid, divisor_least, one_in_per_cent_hundredths}
use Rattle.paper.specs.Roundings.{Quotient, rounded, KeepsOrder, mirrored, rounded_z, at_least_zero, lesser_of, greater_of}
use Rattle.paper.specs.Ranges.{grid_of}
use Rattle.paper_desk.specs.Limits.{inward, Kind, share, bond, limit_of, grown_price, bond_limit_of, limit_for}
use Rattle.paper_desk.specs.Limits.{shifted, farthest, farthest_for, monitored, narrower, narrower_of}
use Rattle.paper_desk.specs.Limits.{band_before, band_limit_for, HasFace}
use Rattle.paper.proofs.Logic.{le_or_lt, pick_true, pick_false}
use Rattle.paper.proofs.Differences.{difference_is_pos, difference_is_negsuc, difference_times}
use Rattle.paper.proofs.Roundings.{rounded_le, rounded_monotone, grid_monotone, lesser_rounded, greater_rounded}

-- ---- a share's grid

-- g is 1, 10 or 100
pub grid_in_range : (lot : ℕ) → (0 < grid_of lot) × (grid_of lot ≤ coarsest_grid)
unfolding grid_of
grid_in_range lot = go (leb lot 1) (leb lot 10)
  where
    go : (a b : Bool) → (0 < pick a 100 (pick b 10 1)) × (pick a 100 (pick b 10 1) ≤ coarsest_grid)
    go true b = omega arith
    go false true = omega arith
    go false false = omega arith

-- ---- a bond's limit, without signs

-- a difference of either sign, rounded, and 0 where it is below 0: the difference that stops at 0, rounded
rounded_part : (way : Way) (a b d : ℕ) → 0 < d → at_least_zero (rounded_z way (sub_ℕ a b) d) ≡ rounded way (a - b) d
rounded_part way a b d p = go (le_or_lt b a)
  where
    never : (n : ℕ) → at_least_zero (neg_ℤ (pos n)) ≡ 0
    never zero = refl
    never (suc n) = refl

    go : (b ≤ a) ⊎ (a < b) → at_least_zero (rounded_z way (sub_ℕ a b) d) ≡ rounded way (a - b) d
    go (inl h) = ap (λ (z : ℤ). at_least_zero (rounded_z way z d)) (difference_is_pos a b h)
    go (inr h) =
        let nothing : a - b ≤ 0 * d = omega arith in
        ap (λ (z : ℤ). at_least_zero (rounded_z way z d)) (difference_is_negsuc a b h)
        ∙ never (mirrored way (suc (b - suc a)) d)
        ∙ omega (arith, rounded_le way (a - b) d 0 p nothing)

pub bond_limit_is : (way : Way) (b : BondScale) (x : Quotient) → 0 < b.face
    → bond_limit_of way b x ≡ rounded way (one_in_per_cent_hundredths * (grown_price x - (b.carry + b.accrued))) b.face
unfolding bond_limit_of
bond_limit_is way b x p =
    let off : ℕ = b.carry + b.accrued in
    let one : ℕ = one_in_per_cent_hundredths in
    let same : one * grown_price x - one * off ≡ one * (grown_price x - off) = omega arith in
    ap (λ (z : ℤ). at_least_zero (rounded_z way z b.face)) (difference_times one_in_per_cent_hundredths (grown_price x) off)
    ∙ rounded_part way (one_in_per_cent_hundredths * grown_price x) (one_in_per_cent_hundredths * off) b.face p
    ∙ ap (λ (n : ℕ). rounded way n b.face) same

-- ---- a limit keeps order

pub limit_monotone : (way : Way) (kind : Kind) (st : Statics) → HasFace kind → KeepsOrder (limit_for way kind st)
unfolding limit_of
limit_monotone way share st f =
    record {
      keeps = λ x y p q l.
          grid_monotone way (grid_of st.lot) x.num x.den y.num y.den (grid_in_range st.lot).0 p q l;
    }
limit_monotone way (bond b) st f = record { keeps = keeps }
  where
    keeps : (x y : Quotient) → 0 < x.den → 0 < y.den → x.num * y.den ≤ y.num * x.den
        → bond_limit_of way b x ≤ bond_limit_of way b y
    keeps x y p q l =
        let off : ℕ = b.carry + b.accrued in
        let grown : grown_price x ≤ grown_price y = rounded_monotone HalfUp x.num x.den y.num y.den p q l in
        let left : Quotient → ℕ = λ z. one_in_per_cent_hundredths * (grown_price z - off) in
        let less : left x ≤ left y = omega arith in
        rw (bond_limit_is way b x f, bond_limit_is way b y f)
        (rounded_monotone way (left x) b.face (left y) b.face f f
        (mul-le-mul_right b.face less))

-- so the narrower of two, rounded once, is the narrower of the two rounded
pub narrower_rounded : (way : Way) (kind : Kind) (st : Statics) (side : Side) (x y : Quotient) → HasFace kind
    → 0 < x.den
    → 0 < y.den
    → limit_for way kind st (narrower side x y) ≡ narrower_of side (limit_for way kind st x) (limit_for way kind st y)
unfolding narrower
narrower_rounded way kind st Upper x y f p q = lesser_rounded (limit_for way kind st)
    (limit_monotone way kind st f) x y p q
narrower_rounded way kind st Lower x y f p q = greater_rounded (limit_for way kind st)
    (limit_monotone way kind st f) x y p q

-- ---- a band limit

pub shifted_positive : (side : Side) (p rate : ℕ) → 0 < (shifted side p rate).den
unfolding shifted
shifted_positive Upper p rate = omega arith
shifted_positive Lower p rate = omega arith

pub farthest_positive : (kind : Kind) (st : Statics) (side : Side) (p k : ℕ) → 0 < (farthest_for kind st side p k).den
unfolding farthest
farthest_positive share st Upper p k = shifted_positive Upper p st.pchmax
farthest_positive share st Lower p k = shifted_positive Lower p st.pclmax
farthest_positive (bond b) st Upper p k = omega (arith, shifted_positive Upper p st.pchmax)
farthest_positive (bond b) st Lower p k = omega (arith, shifted_positive Lower p st.pclmax)

pub monitored_positive : (st : Statics) (side : Side) (p s1 c k : ℕ) (repo : ℤ) → divisor_least ≤ st.xpr
    → 0 < (monitored st p s1 k repo c side).den
unfolding monitored
monitored_positive st side p s1 c k repo h = omega arith

-- of two quotients whose divisors are above 0, either has one, and so has the narrower
either_positive : (b : Bool) (x y : Quotient) → 0 < x.den → 0 < y.den → 0 < (pick b x y).den
either_positive true x y p q = p
either_positive false x y p q = q

narrower_positive : (side : Side) (x y : Quotient) → 0 < x.den → 0 < y.den → 0 < (narrower side x y).den
unfolding narrower lesser_of greater_of
narrower_positive Upper x y p q = either_positive (leb (x.num * y.den) (y.num * x.den)) x y p q
narrower_positive Lower x y p q = either_positive (leb (x.num * y.den) (y.num * x.den)) y x q p

module _ (kind : Kind) (st : Statics) (side : Side) (p s1 c k : ℕ) (repo : ℤ) where
  -- with monitoring a band limit is the narrower of the farthest limit and the monitored one
  pub band_monitored : HasFace kind → divisor_least ≤ st.xpr → st.monitoring ≡ true
      → band_limit_for kind st p s1 k repo c side
      ≡ narrower_of side (limit_for (inward side) kind st (farthest_for kind st side p k))
      (limit_for (inward side) kind st (monitored st p s1 k repo c side))
  band_monitored f h e =
      let x : Quotient = farthest_for kind st side p k in
      let y : Quotient = monitored st p s1 k repo c side in
      ap (limit_for (inward side) kind st) (pick_true st.monitoring (narrower side x y) x e)
      ∙ narrower_rounded (inward side) kind st side x y f (farthest_positive kind st side p k)
      (monitored_positive st side p s1 c k repo h)

  -- and without it the farthest limit
  pub band_unmonitored : st.monitoring ≡ false
      → band_limit_for kind st p s1 k repo c side ≡ limit_for (inward side) kind st (farthest_for kind st side p k)
  band_unmonitored e =
      let x : Quotient = farthest_for kind st side p k in
      ap (limit_for (inward side) kind st) (pick_false st.monitoring (narrower side x
      (monitored st p s1 k repo c side)) x e)

  pub band_positive : divisor_least ≤ st.xpr → 0 < (band_before kind st p s1 k repo c side).den
  band_positive h =
      let x : Quotient = farthest_for kind st side p k in
      let y : Quotient = monitored st p s1 k repo c side in
      let far : 0 < x.den = farthest_positive kind st side p k in
      either_positive st.monitoring (narrower side x y) x
      (narrower_positive side x y far (monitored_positive st side p s1 c k repo h)) far
