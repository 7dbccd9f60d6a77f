-- How large a limit and delta can be, and that each stands on the grid: what a sound record asks of its limits.
use mathlib.Core.Path.{◌≡◌, refl, sym, ap}
use mathlib.Core.Bool.{Bool, true, false}
use Prim.Native.Nat.{ℕ, ◌+◌, ◌-◌, ◌*◌, ◌/◌, ◌%◌, ◌≤◌, ◌<◌}
use native.Mathlib.Nat.{mul-le-mul, mul-le-mul_right, mul-pos, mul-mod_left}
use native.Mathlib.Omega.{arith}
use lib.Dec.{leb, eqb}
use lib.IntN.{ℤ, pos, negsuc}
use lib.Signed.{le_z}
use borrow.Author.Tests.{leb-true, le-leb, eq-eqb}
use Rattle.paper.specs.declared.Statics.{Statics}
use Rattle.paper.specs.declared.Side.{Side}
use Rattle.paper.specs.declared.Side.TheVariants.{Upper, Lower}
use Rattle.paper.specs.declared.Way.{Way}
use Rattle.paper.specs.declared.Moves.{Moves}
use Rattle.paper.specs.declared.Term.{Term}
use Rattle.paper.specs.Lists.{pick}
use Rattle.paper.specs.Numbers.{one_in_bp, coarsest_grid, year_in_day_bp, price_most, rate_most, limit_most, term_days_most}
use Rattle.paper.specs.Numbers.{moves_most, repo_most}
use Rattle.paper.specs.Roundings.{Quotient, rounded, grown}
use Rattle.paper.specs.Ranges.{grid_of, is_limit, valid_limits, valid_statics, valid_term}
use Rattle.paper_desk.specs.Limits.{limit_of, inward, shifted, range_limit, range_of, farthest, spread, monitored}
use Rattle.paper_desk.specs.Limits.{narrower, narrower_of, share, band_limit, band_of, delta_of, one_more, count_of}
use Rattle.paper_desk.specs.Limits.{LimitStatics}
use Rattle.paper_desk.specs.Kept.{fresh_most, delta_most}
use Rattle.paper.proofs.Logic.{and_left, and_right, and_both, order_trans}
use Rattle.paper.proofs.StaticsFacts.{statics_facts}
use Rattle.paper.proofs.Roundings.{rounded_le, rounded_ge}
pub use Rattle.paper_desk.proofs.KindLaws.{grid_in_range}
use Rattle.paper_desk.proofs.KindLaws.{narrower_rounded, monitored_positive}

-- ---- the statics that a limit is worked out in

pub valid_limit_statics : (st : Statics) → valid_statics st ≡ true → LimitStatics st
valid_limit_statics st v =
    let known = statics_facts st v in
    record {
      divisor_low = known.xpr.least;
      divisor_high = known.xpr.most;
      shift_high = known.shift.most;
      upper_high = known.pchmax;
      lower_high = known.pclmax;
    }

-- ---- any limit

-- a multiple of 100 is a multiple of every grid
on_every_grid : (lot m : ℕ) → (k : ℕ) × (k * grid_of lot ≡ m * coarsest_grid)
unfolding grid_of
on_every_grid lot m = go (leb lot 1) (leb lot 10)
  where
    go : (a b : Bool) → (k : ℕ) × (k * pick a 100 (pick b 10 1) ≡ m * coarsest_grid)
    go true b = (m, refl)
    go false true = (m * 10, omega arith)
    go false false = (m * coarsest_grid, omega arith)

-- a quotient of at most a multiple of the grid is rounded to at most that, and one of at least such a multiple to at
-- least that
pub limit_le : (way : Way) (st : Statics) (x : Quotient) (k : ℕ) → 0 < x.den
    → x.num ≤ k * grid_of st.lot * x.den → limit_of way st x ≤ k * grid_of st.lot
unfolding limit_of
limit_le way st x k p h =
    let g : ℕ = grid_of st.lot in
    let fits : x.num ≤ k * (x.den * g) = omega arith in
    mul-le-mul_right g (rounded_le way x.num (x.den * g) k (mul-pos p (grid_in_range st.lot).0) fits)

pub limit_ge : (way : Way) (st : Statics) (x : Quotient) (k : ℕ) → 0 < x.den
    → k * grid_of st.lot * x.den ≤ x.num → k * grid_of st.lot ≤ limit_of way st x
unfolding limit_of
limit_ge way st x k p h =
    let g : ℕ = grid_of st.lot in
    let fits : k * (x.den * g) ≤ x.num = omega arith in
    mul-le-mul_right g (rounded_ge way x.num (x.den * g) k (mul-pos p (grid_in_range st.lot).0) fits)

-- a quotient of at most a multiple of 100 is rounded to at most that
pub limit_high : (way : Way) (st : Statics) (x : Quotient) (m : ℕ) → 0 < x.den
    → x.num ≤ m * coarsest_grid * x.den → limit_of way st x ≤ m * coarsest_grid
limit_high way st x m p h =
    let k : ℕ = (on_every_grid st.lot m).0 in
    let e : k * grid_of st.lot ≡ m * coarsest_grid = (on_every_grid st.lot m).1 in
    rw (sym e) (limit_le way st x k p (omega (arith, h, ap (λ (z : ℕ). z * x.den) e)))

pub limit_on_grid : (way : Way) (st : Statics) (x : Quotient) → limit_of way st x % grid_of st.lot ≡ 0
unfolding limit_of
limit_on_grid way st x = mul-mod_left (rounded way x.num (x.den * grid_of st.lot)) (grid_of st.lot)

pub grid_is_limit : (g x : ℕ) → x ≤ limit_most → x % g ≡ 0 → is_limit g x ≡ true
unfolding is_limit
grid_is_limit g x h e = and_both (leb x limit_most) (eqb (x % g) 0) (le-leb x limit_most h) (eq-eqb (x % g) 0 e)

-- ---- a range limit: at most twice the greatest price

shifted_fits : (side : Side) (p rate : ℕ) → p ≤ price_most → rate ≤ rate_most
    → (0 < (shifted side p rate).den) × ((shifted side p rate).num ≤ fresh_most * (shifted side p rate).den)
unfolding shifted
shifted_fits Upper p rate h l =
    let k : one_in_bp + rate ≤ one_in_bp + rate_most = omega arith in
    (omega arith, omega (arith, mul-le-mul h k))
shifted_fits Lower p rate h l =
    let k : one_in_bp - rate ≤ one_in_bp + rate_most = omega arith in
    (omega arith, omega (arith, mul-le-mul h k))

pub range_high : (st : Statics) (side : Side) (p rate : ℕ) → p ≤ price_most → rate ≤ rate_most
    → range_limit st p rate side ≤ fresh_most
unfolding range_limit
range_high st side p rate h l =
    let f = shifted_fits side p rate h l in
    limit_high _ st (shifted side p rate) (2 * (price_most / coarsest_grid)) f.0 (omega (arith, f.1))

pub range_on_grid : (st : Statics) (side : Side) (p rate : ℕ) → range_limit st p rate side % grid_of st.lot ≡ 0
unfolding range_limit
range_on_grid st side p rate = limit_on_grid _ st (shifted side p rate)

pub range_valid : (st : Statics) (p rate : ℕ) → p ≤ price_most → rate ≤ rate_most
    → valid_limits (grid_of st.lot) (range_of st p rate) ≡ true
unfolding valid_limits range_of
range_valid st p rate h l = and_both _ _ (one Lower) (one Upper)
  where
    one : (side : Side) → is_limit (grid_of st.lot) (range_limit st p rate side) ≡ true
    one side = grid_is_limit _ _ (omega (arith, range_high st side p rate h l)) (range_on_grid st side p rate)

-- ---- a band limit: at most twice the greatest price, whatever the moves

-- a term's days at less than 10,000 bp each bring a year to at most 3,950,000
grown_high : (k : ℕ) (x : ℤ) → k ≤ term_days_most → le_z x repo_most ≡ true
    → grown year_in_day_bp k x ≤ year_in_day_bp + term_days_most * one_in_bp
unfolding grown
grown_high k (pos n) hk h = let l : n ≤ one_in_bp = omega (arith, leb-true n 9999 h) in omega (arith, mul-le-mul hk l)
grown_high k (negsuc n) hk h = omega arith

farthest_fits : (st : Statics) (side : Side) (p : ℕ) → LimitStatics st → p ≤ price_most
    → (0 < (farthest st side p).den) × ((farthest st side p).num ≤ fresh_most * (farthest st side p).den)
unfolding farthest
farthest_fits st Upper p s h = shifted_fits Upper p st.pchmax h s.upper_high
farthest_fits st Lower p s h = shifted_fits Lower p st.pclmax h s.lower_high

farthest_limit_high : (way : Way) (st : Statics) (side : Side) (p : ℕ) → LimitStatics st → p ≤ price_most
    → limit_of way st (farthest st side p) ≤ fresh_most
farthest_limit_high way st side p s h =
    let f = farthest_fits st side p s h in
    limit_high _ st (farthest st side p) (2 * (price_most / coarsest_grid)) f.0 (omega (arith, f.1))

monitored_lower_high : (way : Way) (st : Statics) (p s1 c k : ℕ) (repo : ℤ) → LimitStatics st → p ≤ price_most
    → k ≤ term_days_most
    → le_z repo repo_most ≡ true
    → limit_of way st (monitored st p s1 k repo c Lower) ≤ fresh_most
unfolding monitored spread
monitored_lower_high way st p s1 c k repo s h hk hr =
    let less : spread st Lower s1 c ≤ one_in_bp * st.xpr = omega arith in
    let days : grown year_in_day_bp k repo ≤ year_in_day_bp + term_days_most * one_in_bp = grown_high k repo hk hr in
    limit_high _ st (monitored st p s1 k repo c Lower) (2 * (price_most / coarsest_grid))
    (monitored_positive st Lower p s1 c k repo s.divisor_low)
    (omega (arith, mul-le-mul (mul-le-mul h less) days))

narrower_high : (way : Way) (st : Statics) (side : Side) (p s1 c k : ℕ) (repo : ℤ) → LimitStatics st → p ≤ price_most
    → k ≤ term_days_most → le_z repo repo_most ≡ true
    → limit_of way st (narrower side (farthest st side p) (monitored st p s1 k repo c side)) ≤ fresh_most
narrower_high way st side p s1 c k repo s h hk hr =
    rw (narrower_rounded way share st side (farthest st side p) (monitored st p s1 k repo c side) (omega arith)
    (farthest_fits st side p s h).0 (monitored_positive st side p s1 c k repo s.divisor_low))
    (both side (farthest_limit_high way st side p s h))
  where
    both : (side : Side) → limit_of way st (farthest st side p) ≤ fresh_most
        → narrower_of side (limit_of way st (farthest st side p)) (limit_of way st
        (monitored st p s1 k repo c side)) ≤ fresh_most
    both Upper far = omega arith
    both Lower far = omega (arith, monitored_lower_high way st p s1 c k repo s h hk hr)

pub band_high : (st : Statics) (side : Side) (p s1 c k : ℕ) (repo : ℤ) → LimitStatics st → p ≤ price_most
    → k ≤ term_days_most → le_z repo repo_most ≡ true
    → band_limit st p s1 k repo c side ≤ fresh_most
unfolding band_limit
band_high st side p s1 c k repo s h hk hr = go st.monitoring
  where
    go : (b : Bool)
        → limit_of (inward side) st
        (pick b (narrower side (farthest st side p) (monitored st p s1 k repo c side)) (farthest st side p)) ≤ fresh_most
    go true = narrower_high _ st side p s1 c k repo s h hk hr
    go false = farthest_limit_high _ st side p s h

pub band_on_grid : (st : Statics) (side : Side) (p s1 c k : ℕ) (repo : ℤ)
    → band_limit st p s1 k repo c side % grid_of st.lot ≡ 0
unfolding band_limit
band_on_grid st side p s1 c k repo = limit_on_grid _ st _

pub band_valid : (st : Statics) (p s1 : ℕ) (c : Moves) (x : Term) → LimitStatics st → p ≤ price_most → valid_term x ≡ true
    → valid_limits (grid_of st.lot) (band_of st p s1 c x) ≡ true
unfolding valid_limits band_of valid_term
band_valid st p s1 c x s h v =
    and_both _ _
    (one Lower c.lower x.low (order_trans x.low x.high repo_most (search (v, and_left, and_right)) high))
    (one Upper c.upper x.high high)
  where
    high : le_z x.high repo_most ≡ true
    high = search (v, and_left, and_right)

    days : x.k ≤ term_days_most
    days = leb-true _ _ (search (v, and_left, and_right))

    one : (side : Side) (moves : ℕ) (repo : ℤ) → le_z repo repo_most ≡ true
        → is_limit (grid_of st.lot) (band_limit st p s1 x.k repo moves side) ≡ true
    one side moves repo hr =
        grid_is_limit _ _ (omega (arith, band_high st side p s1 moves x.k repo s h days hr))
        (band_on_grid st side p s1 moves x.k repo)

-- ---- delta

pub delta_high : (st : Statics) (p s1 : ℕ) → LimitStatics st → p ≤ price_most → s1 ≤ rate_most
    → delta_of st s1 p ≤ delta_most
unfolding delta_of
delta_high st p s1 s h l =
    limit_high _ st _ (4 * (price_most / coarsest_grid)) (omega (arith, s.divisor_low))
    (omega (arith, s.divisor_low, mul-le-mul (mul-le-mul s.shift_high l) h))

pub delta_on_grid : (st : Statics) (p s1 : ℕ) → delta_of st s1 p % grid_of st.lot ≡ 0
unfolding delta_of
delta_on_grid st p s1 = limit_on_grid _ st _

-- ---- a move below the fiftieth leaves both counts in range

pub one_more_high : (side : Side) (c : Moves) → c.upper ≤ moves_most → c.lower ≤ moves_most → count_of side c < moves_most
    → ((one_more side c).upper ≤ moves_most) × ((one_more side c).lower ≤ moves_most)
unfolding one_more
one_more_high Upper c u l h = (omega arith, l)
one_more_high Lower c u l h = (u, omega arith)
