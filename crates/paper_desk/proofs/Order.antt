-- W-213: the laws of single figures that the order of a live record rests on. The rate of a level of more days and of a
-- greater minimum is not the lesser. A range limit of a greater rate lies farther out, and none lies on the other side
-- of the evaluation, which stands on the grid; moves take it farther out. A band limit whose repo rate lies on its own
-- side of 0 does not pass the evaluation either. `demands` puts them together.
use mathlib.Core.Path.{◌≡◌, refl}
use mathlib.Core.Logic.{◌⊎◌, inl, inr}
use mathlib.Core.Bool.{Bool, true, false}
use Prim.Native.Nat.{ℕ, zero, suc, ◌+◌, ◌-◌, ◌*◌, ◌/◌, ◌%◌, ◌≤◌, ◌<◌}
use native.Mathlib.Nat.{le_trans, mul-le-mul, mul-le-mul_left, mul-le-mul_right}
use native.Mathlib.Omega.{arith}
use lib.Dec.{leb}
use lib.IntN.{ℤ, pos, negsuc}
use borrow.Author.Tests.{leb-true, le-ltb}
use Rattle.paper.specs.declared.Statics.{Statics}
use Rattle.paper.specs.declared.Side.{Side}
use Rattle.paper.specs.declared.Side.TheVariants.{Upper, Lower}
use Rattle.paper.specs.declared.Way.{Way}
use Rattle.paper.specs.declared.Way.TheVariants.{HalfUp}
use Rattle.paper.specs.declared.Moves.{Moves}
use Rattle.paper.specs.declared.Term.{Term}
use Rattle.paper.specs.Lists.{pick}
use Rattle.paper.specs.Numbers.{one_in_bp, year_in_day_bp}
use Rattle.paper.specs.Roundings.{Quotient, lesser_of, greater_of, grown}
use Rattle.paper.specs.Ranges.{grid_of, valid_statics}
use Rattle.paper_desk.specs.Rates.{days_of, minimum_of, AtLeastRequired, HeldLeast, LevelsInOrder}
use Rattle.paper_desk.specs.Limits.{share, limit_of, inward, Inside, shifted, range_limit, farthest, spread}
use Rattle.paper_desk.specs.Limits.{monitored, narrower, band_before, band_limit, band_of, crossed, LimitStatics}
use Rattle.paper_desk.specs.Limits.{Outward}
use Rattle.paper_desk.specs.Sequences.{range_after}
use Rattle.paper_desk.specs.Sides.{limit_on, repo_on, PastZero}
use Rattle.paper.proofs.Logic.{not_true_and_false}
use Rattle.paper.proofs.StaticsFacts.{statics_facts}
use Rattle.paper_desk.proofs.KindLaws.{limit_monotone, shifted_positive, band_positive}
use Rattle.paper_desk.proofs.LimitSizes.{limit_le, limit_ge}
use Rattle.paper_desk.proofs.Level.{quotient_times_is}

-- ---- the rates

pub levels_in_order : (st : Statics) (i : ℕ) → valid_statics st ≡ true → i < 2 → LevelsInOrder st (i + 1) (i + 1 + 1)
unfolding days_of minimum_of
levels_in_order st i v l = go i l
  where
    days : (st.rh1 ≤ st.rh2) × (st.rh2 ≤ st.rh3)
    days = ((statics_facts st v).rh1_rh2, (statics_facts st v).rh2_rh3)

    minima : (st.min1 ≤ st.min2) × (st.min2 ≤ st.min3)
    minima = ((statics_facts st v).min1_min2, (statics_facts st v).min2_min3)

    go : (i : ℕ) → i < 2 → LevelsInOrder st (i + 1) (i + 1 + 1)
    go zero l = record { days = omega (arith, days); minima = omega (arith, minima) }
    go (suc zero) l = record { days = omega (arith, days); minima = omega (arith, minima) }
    go (suc (suc i)) l = absurd (omega arith)

-- what covers the requirement of the next level covers that of the level
required_next : (st : Statics) (level next tentative m v : ℕ) → LevelsInOrder st level next
    → AtLeastRequired st tentative m next v → AtLeastRequired st tentative m level v
required_next st level next tentative m v o k =
    record {
      bounds = λ a b d h x y.
          k.bounds a b d h
          (le_trans x (mul-le-mul_right (d * d) (mul-le-mul_right (st.rh1 + m)
          (mul-le-mul_right (tentative * tentative) o.days))))
          (le_trans y (mul-le-mul_right (d * d) (mul-le-mul_right (st.liq * st.liq) o.days)));
    }

-- so the rates of demand 2 ascend with the level
pub level_rates_ascend : (st : Statics) (level next tentative m v w : ℕ) → LevelsInOrder st level next
    → HeldLeast st.h (minimum_of st level) st.smax (AtLeastRequired st tentative m level) v
    → HeldLeast st.h (minimum_of st next) st.smax (AtLeastRequired st tentative m next) w → v ≤ w
level_rates_ascend st level next tentative m v w o k n = go n.covers_or_held
  where
    times : w / st.h * st.h ≡ w
    times = quotient_times_is w st.h n.multiple

    go : AtLeastRequired st tentative m next w ⊎ ((w ≡ st.smax) × (AtLeastRequired st tentative m next st.smax → ⊥))
        → v ≤ w
    go (inl c) =
        let enough : minimum_of st level ≤ w / st.h * st.h = omega (arith, times, o.minima, n.low) in
        let covered : AtLeastRequired st tentative m level (w / st.h * st.h) =
        rw times (required_next st level next tentative m w o c) in
        omega (arith, k.least (w / st.h) enough covered, times)
    go (inr (e, f)) = omega (arith, k.held)

-- ---- a limit and the evaluation

-- no rounding passes a price on the grid: where the price lies inside the exact limit, it lies inside the rounded one
pub limit_around : (way : Way) (st : Statics) (side : Side) (x : Quotient) (p : ℕ) → 0 < x.den
    → p % grid_of st.lot ≡ 0 → Inside side p x → Outward side (limit_of way st x) p
limit_around way st Upper x p d e h =
    let times : p / grid_of st.lot * grid_of st.lot ≡ p = quotient_times_is p (grid_of st.lot) e in
    rw times at (limit_ge way st x (p / grid_of st.lot) d (rw times h))
limit_around way st Lower x p d e h =
    let times : p / grid_of st.lot * grid_of st.lot ≡ p = quotient_times_is p (grid_of st.lot) e in
    rw times at (limit_le way st x (p / grid_of st.lot) d (rw times h))

-- P·(1 ± rate) is P or lies farther out
shifted_inside : (side : Side) (p rate : ℕ) → Inside side p (shifted side p rate)
unfolding shifted
shifted_inside Upper p rate = let more : one_in_bp ≤ one_in_bp + rate = omega arith in mul-le-mul_left p more
shifted_inside Lower p rate = let less : one_in_bp - rate ≤ one_in_bp = omega arith in mul-le-mul_left p less

-- ---- the ranges

range_around_lem : (st : Statics) (side : Side) (p rate : ℕ) → p % grid_of st.lot ≡ 0
    → Outward side (range_limit st p rate side) p
unfolding range_limit
range_around_lem st side p rate e =
    limit_around HalfUp st side (shifted side p rate) p (shifted_positive side p rate) e (shifted_inside side p rate)

-- a greater rate takes the limit farther out, or leaves it
range_outward : (st : Statics) (side : Side) (p rate greater : ℕ) → rate ≤ greater
    → Outward side (range_limit st p greater side) (range_limit st p rate side)
unfolding range_limit shifted
range_outward st Upper p rate greater l =
    let more : one_in_bp + rate ≤ one_in_bp + greater = omega arith in
    (limit_monotone HalfUp share st (omega arith)).keeps (shifted Upper p rate) (shifted Upper p greater)
    (shifted_positive Upper p rate) (shifted_positive Upper p greater)
    (mul-le-mul_right one_in_bp (mul-le-mul_left p more))
range_outward st Lower p rate greater l =
    let less : one_in_bp - greater ≤ one_in_bp - rate = omega arith in
    (limit_monotone HalfUp share st (omega arith)).keeps (shifted Lower p greater) (shifted Lower p rate)
    (shifted_positive Lower p greater) (shifted_positive Lower p rate)
    (mul-le-mul_right one_in_bp (mul-le-mul_left p less))

-- both stay so after moves, which shift the limits of a side by one delta each
pub moved_range_around : (st : Statics) (side : Side) (p s1 rate : ℕ) (c : Moves) → p % grid_of st.lot ≡ 0
    → Outward side (limit_on side (range_after st p s1 rate c)) p
unfolding range_after
moved_range_around st Upper p s1 rate c e = omega (arith, range_around_lem st Upper p rate e)
moved_range_around st Lower p s1 rate c e = omega (arith, range_around_lem st Lower p rate e)

pub moved_range_outward : (st : Statics) (side : Side) (p s1 rate greater : ℕ) (c : Moves) → rate ≤ greater
    → Outward side (limit_on side (range_after st p s1 greater c)) (limit_on side (range_after st p s1 rate c))
unfolding range_after
moved_range_outward st Upper p s1 rate greater c l = omega (arith, range_outward st Upper p rate greater l)
moved_range_outward st Lower p s1 rate greater c l = omega (arith, range_outward st Lower p rate greater l)

-- ---- the bands

grown_outward : (side : Side) (k : ℕ) (repo : ℤ) → PastZero side repo
    → Outward side (grown year_in_day_bp k repo) year_in_day_bp
unfolding grown
grown_outward Upper k (pos n) h = omega arith
grown_outward Upper k (negsuc n) h = absurd (not_true_and_false false h refl)
grown_outward Lower k (pos n) h = let none : n ≡ 0 = omega (arith, leb-true n 0 h) in rw none (omega arith)
grown_outward Lower k (negsuc n) h = omega arith

farthest_inside : (st : Statics) (side : Side) (p : ℕ) → Inside side p (farthest st side p)
unfolding farthest
farthest_inside st Upper p = shifted_inside Upper p st.pchmax
farthest_inside st Lower p = shifted_inside Lower p st.pclmax

monitored_inside : (st : Statics) (side : Side) (p s1 k : ℕ) (repo : ℤ) (c : ℕ) → PastZero side repo
    → Inside side p (monitored st p s1 k repo c side)
unfolding monitored spread
monitored_inside st Upper p s1 k repo c z =
    let wide : one_in_bp * st.xpr ≤ spread st Upper s1 c = omega arith in
    omega (arith, mul-le-mul (mul-le-mul_left p wide) (grown_outward Upper k repo z))
monitored_inside st Lower p s1 k repo c z =
    let narrow : spread st Lower s1 c ≤ one_in_bp * st.xpr = omega arith in
    omega (arith, mul-le-mul (mul-le-mul_left p narrow) (grown_outward Lower k repo z))

-- either of two is inside, and so the narrower
either_inside : (b : Bool) (side : Side) (p : ℕ) (x y : Quotient) → Inside side p x → Inside side p y
    → Inside side p (pick b x y)
either_inside true side p x y h l = h
either_inside false side p x y h l = l

pub narrower_inside : (side : Side) (p : ℕ) (x y : Quotient) → Inside side p x → Inside side p y
    → Inside side p (narrower side x y)
unfolding narrower lesser_of greater_of
narrower_inside Upper p x y h l = either_inside (leb (x.num * y.den) (y.num * x.den)) Upper p x y h l
narrower_inside Lower p x y h l = either_inside (leb (x.num * y.den) (y.num * x.den)) Lower p y x l h

-- "Where RRcL ≤ 0 ≤ RRcH for a term, the evaluation lies within that term's band", whatever the moves
pub band_around_lem : (st : Statics) (side : Side) (p s1 : ℕ) (c : Moves) (x : Term) → LimitStatics st
    → p % grid_of st.lot ≡ 0 → PastZero side (repo_on side x) → Outward side (limit_on side (band_of st p s1 c x)) p
unfolding band_of band_limit
band_around_lem st side p s1 c x s e z = go side z
  where
    one : (side : Side) (moves : ℕ) (repo : ℤ) → PastZero side repo
        → Outward side (limit_of (inward side) st (band_before share st p s1 x.k repo moves side)) p
    one side moves repo z =
        let far : Inside side p (farthest st side p) = farthest_inside st side p in
        limit_around (inward side) st side (band_before share st p s1 x.k repo moves side) p
        (band_positive share st side p s1 moves x.k repo s.divisor_low) e
        (either_inside st.monitoring side p
        (narrower side (farthest st side p) (monitored st p s1 x.k repo moves side)) (farthest st side p)
        (narrower_inside side p (farthest st side p) (monitored st p s1 x.k repo moves side) far
        (monitored_inside st side p s1 x.k repo moves z))
        far)

    go : (side : Side) → PastZero side (repo_on side x) → Outward side (limit_on side (band_of st p s1 c x)) p
    go Upper z = one Upper _ _ z
    go Lower z = one Lower _ _ z

-- so such a band is never crossed: 9 is answered only for a term whose repo limits lie on one side of 0
pub around_not_crossed : (st : Statics) (p s1 : ℕ) (c : Moves) (x : Term) → LimitStatics st
    → p % grid_of st.lot ≡ 0 → PastZero Lower x.low → PastZero Upper x.high
    → crossed (band_of st p s1 c x) ≡ false
unfolding crossed
around_not_crossed st p s1 c x s e low high =
    le-ltb (band_of st p s1 c x).upper (band_of st p s1 c x).lower
    (le_trans (band_around_lem st Lower p s1 c x s e low) (band_around_lem st Upper p s1 c x s e high))
