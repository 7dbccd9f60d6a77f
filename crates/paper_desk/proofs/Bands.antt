-- W-209: where a limit that is rounded inward stands; an accepted evaluation writes no band that is crossed; and a move
-- never takes its side inward, so that a moved band crosses only if it was crossed before.
use mathlib.Core.Path.{◌≡◌}
use mathlib.Core.Bool.{Bool, true, false, not}
use mathlib.Core.List.{List}
use Prim.Native.Nat.{ℕ, ◌+◌, ◌-◌, ◌*◌, ◌≤◌, ◌<◌}
use native.Mathlib.Nat.{le_trans, mul-pos, mul-le-mul_left, mul-le-mul_right}
use native.Mathlib.Omega.{arith}
use lib.IntN.{ℤ}
use lib.ListN.{get_or}
use borrow.Author.Tests.{ltb-false, le-ltb}
use Rattle.paper.specs.declared.Statics.{Statics}
use Rattle.paper.specs.declared.Side.{Side}
use Rattle.paper.specs.declared.Side.TheVariants.{Upper, Lower}
use Rattle.paper.specs.declared.BondScale.{BondScale}
use Rattle.paper.specs.declared.Way.{Way}
use Rattle.paper.specs.declared.Way.TheVariants.{Down, Up}
use Rattle.paper.specs.declared.Moves.{Moves}
use Rattle.paper.specs.declared.Term.{Term}
use Rattle.paper.specs.declared.Record.{Record}
use Rattle.paper.specs.declared.Day.{Day}
use Rattle.paper.specs.Lists.{pick}
use Rattle.paper.specs.Numbers.{one_in_bp, one_in_hundredths, year_in_day_bp, one_in_per_cent_hundredths}
use Rattle.paper.specs.Roundings.{Quotient, grown}
use Rattle.paper.specs.Ranges.{grid_of, no_limits}
use Rattle.paper.specs.Verdicts.{NoneApplies, none, also}
use Rattle.paper_desk.specs.Limits.{share, limit_of, inward, Inside, grown_price, bond_limit_of, farthest, spread}
use Rattle.paper_desk.specs.Limits.{monitored, narrower, narrower_of, band_limit, band_of, crossed, one_more}
use Rattle.paper_desk.specs.Limits.{LimitStatics, Outward}
use Rattle.paper_desk.specs.Desk.{evaluated, evaluating_checks}
use Rattle.paper.proofs.Logic.{each_of_three, not_true, not_false}
use Rattle.paper.proofs.Roundings.{down_not_above, up_not_below}
use Rattle.paper_desk.proofs.KindLaws.{bond_limit_is, limit_monotone, narrower_rounded, farthest_positive}
use Rattle.paper_desk.proofs.KindLaws.{monitored_positive}
use Rattle.paper_desk.proofs.LimitSizes.{grid_in_range}

-- ---- inward

pub limit_inside : (st : Statics) (side : Side) (x : Quotient) → 0 < x.den → Inside side (limit_of (inward side) st x) x
unfolding limit_of
limit_inside st Upper x p =
    omega (arith, down_not_above x.num (x.den * grid_of st.lot) (mul-pos p (grid_in_range st.lot).0))
limit_inside st Lower x p =
    omega (arith, up_not_below x.num (x.den * grid_of st.lot) (mul-pos p (grid_in_range st.lot).0))

-- and so of a bond: inside the quotient of its grown price, which is rounded half up to a unit before (W-206). The
-- grown price that is not rounded may be passed by it (BondCases of paper_bonds, half-up-passes)
pub bond_inside : (side : Side) (b : BondScale) (x : Quotient) → 0 < b.face
    → Inside side (bond_limit_of (inward side) b x)
    (record { num = one_in_per_cent_hundredths * (grown_price x - (b.carry + b.accrued)); den = b.face })
bond_inside Upper b x f = rw (bond_limit_is Down b x f) (down_not_above _ b.face f)
bond_inside Lower b x f = rw (bond_limit_is Up b x f) (up_not_below _ b.face f)

-- ---- 9

-- 9 does not apply to an accepted evaluation, so that no band of its three terms is crossed
pub evaluated_uncrossed : (r : Record) (d : Day) (rows : List ℤ) → NoneApplies (evaluating_checks r d rows)
    → (k : ℕ) → k < 3 → crossed (get_or (evaluated r d rows).bands k no_limits) ≡ false
evaluated_uncrossed r d rows (also v (also x (also y (also p (also m (also c none)))))) k l =
    not_true _ (each_of_three (λ k. not (crossed (get_or (evaluated r d rows).bands k no_limits))) (not_false _ c) k l)

-- ---- a move takes its side outward

same_outward : (side : Side) (x : ℕ) → Outward side x x
same_outward Upper x = omega arith
same_outward Lower x = omega arith

narrower_outward : (side : Side) (far x y : ℕ) → Outward side x y
    → Outward side (narrower_of side far x) (narrower_of side far y)
narrower_outward Upper far x y h = omega arith
narrower_outward Lower far x y h = omega arith

-- of two monitored quotients over one divisor
product_order : {a b : ℕ} (p year d : ℕ) → a ≤ b → p * a * year * d ≤ p * b * year * d
product_order p year d h = mul-le-mul_right d (mul-le-mul_right year (mul-le-mul_left p h))

away_more : (st : Statics) (s1 c : ℕ)
    → (one_in_hundredths + 2 * c * st.shift) * s1 ≤ (one_in_hundredths + 2 * (c + 1) * st.shift) * s1
away_more st s1 c =
    let more : one_in_hundredths + 2 * c * st.shift ≤ one_in_hundredths + 2 * (c + 1) * st.shift = omega arith in
    mul-le-mul_right s1 more

-- with one move more e is greater, and so is the spread's distance from x_pr
spread_outward : (st : Statics) (side : Side) (s1 c : ℕ) → Outward side (spread st side s1 (c + 1))
    (spread st side s1 c)
unfolding spread
spread_outward st Upper s1 c = omega (arith, away_more st s1 c)
spread_outward st Lower s1 c = omega (arith, away_more st s1 c)

-- so the monitored limit lies farther out, or where it was
monitored_outward : (way : Way) (st : Statics) (side : Side) (p s1 c k : ℕ) (repo : ℤ) → LimitStatics st
    → Outward side (limit_of way st (monitored st p s1 k repo (c + 1) side))
    (limit_of way st (monitored st p s1 k repo c side))
unfolding monitored
monitored_outward way st Upper p s1 c k repo s =
    (limit_monotone way share st (omega arith)).keeps (monitored st p s1 k repo c Upper) (monitored st p s1 k
    repo (c + 1) Upper)
    (monitored_positive st Upper p s1 c k repo s.divisor_low) (monitored_positive st Upper p s1 (c + 1) k repo
    s.divisor_low)
    (product_order p (grown year_in_day_bp k repo) (one_in_bp * st.xpr * year_in_day_bp) (spread_outward st Upper s1 c))
monitored_outward way st Lower p s1 c k repo s =
    (limit_monotone way share st (omega arith)).keeps (monitored st p s1 k repo (c + 1) Lower)
    (monitored st p s1 k repo c Lower)
    (monitored_positive st Lower p s1 (c + 1) k repo s.divisor_low) (monitored_positive st Lower p s1 c k repo
    s.divisor_low)
    (product_order p (grown year_in_day_bp k repo) (one_in_bp * st.xpr * year_in_day_bp) (spread_outward st Lower s1 c))

pub band_outward : (st : Statics) (side : Side) (p s1 c k : ℕ) (repo : ℤ) → LimitStatics st
    → Outward side (band_limit st p s1 k repo (c + 1) side) (band_limit st p s1 k repo c side)
unfolding band_limit
band_outward st side p s1 c k repo s = go st.monitoring
  where
    far : Quotient
    far = farthest st side p

    near : (c : ℕ) → Quotient
    near c = monitored st p s1 k repo c side

    rounded_of : (c : ℕ)
        → limit_of (inward side) st (narrower side far (near c))
        ≡ narrower_of side (limit_of (inward side) st far) (limit_of (inward side) st (near c))
    rounded_of c =
        narrower_rounded (inward side) share st side far (near c) (omega arith) (farthest_positive share st side p k)
        (monitored_positive st side p s1 c k repo s.divisor_low)

    go : (b : Bool)
        → Outward side (limit_of (inward side) st (pick b (narrower side far (near (c + 1))) far))
        (limit_of (inward side) st (pick b (narrower side far (near c)) far))
    go true =
        rw (rounded_of (c + 1), rounded_of c)
        (narrower_outward side (limit_of (inward side) st far) _ _
        (monitored_outward (inward side) st side p s1 c k repo s))
    go false = same_outward side (limit_of (inward side) st far)

-- "After a move the side that is remade never stands inside the other": a moved band that was not crossed is not
-- crossed
pub moved_not_crossed : (st : Statics) (side : Side) (p s1 : ℕ) (c : Moves) (x : Term) → LimitStatics st
    → crossed (band_of st p s1 c x) ≡ false → crossed (band_of st p s1 (one_more side c) x) ≡ false
unfolding band_of crossed one_more
moved_not_crossed st Upper p s1 c x s e =
    le-ltb (band_limit st p s1 x.k x.high (c.upper + 1) Upper) (band_limit st p s1 x.k x.low c.lower
    Lower)
    (le_trans (ltb-false _ _ e) (band_outward st Upper p s1 c.upper x.k x.high s))
moved_not_crossed st Lower p s1 c x s e =
    le-ltb (band_limit st p s1 x.k x.high c.upper Upper) (band_limit st p s1 x.k x.low (c.lower + 1)
    Lower)
    (le_trans (band_outward st Lower p s1 c.lower x.k x.low s) (ltb-false _ _ e))
