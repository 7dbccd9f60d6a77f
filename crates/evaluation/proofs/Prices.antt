-- Laws of places (a) and (b): a price discounted in 64 bits is the paper's, so is a row converted by either quick way
-- (W-214), and what a row whose figures fit keeps to.
use mathlib.Core.Path.{◌≡◌, refl, ◌∙◌}
use mathlib.Core.Bool.{Bool, true, false, ◌||◌}
use Prim.Native.Nat.{ℕ, ◌+◌, ◌-◌, ◌*◌, ◌≤◌, ◌<◌}
use native.Mathlib.Nat.{pos_of_ne-zero, mul-pos, mul-le-mul_right, mul-lt-mul_of_pos_right}
use native.Mathlib.Omega.{arith}
use lib.Dec.{leb, eqb}
use lib.IntN.{ℤ, pos, negsuc}
use borrow.Author.Tests.{leb-true, le-leb, eqb-true, eqb-false}
use Rattle.paper.specs.declared.Row.{Row}
use Rattle.paper.specs.declared.Roubles.{Roubles}
use Rattle.paper.specs.declared.Way.TheVariants.{HalfUp}
use Rattle.paper.specs.Numbers.{rouble, year_in_day_bp, price_least, price_most, volume_most}
use Rattle.paper.specs.Roundings.{half_up, grown}
use Rattle.paper.specs.Ranges.{is_price}
use Rattle.paper_desk.specs.Evaluation.{row_price, row_weight, roubles_of, price_fits, row_fits}
use Rattle.paper.proofs.Logic.{and_left, and_right, and_both}
use Rattle.paper.proofs.Roundings.{rounded_exact, half_low, half_high, half_unique, half_le}
use Rattle.exact.specs.SignedLaws.{growth_most, grown_near_base}
use Rattle.rows.specs.RowLaws.{InRange}
use Rattle.evaluation.specs.Evaluation.{year_days, is_rouble_today, once_central_most, Once}

-- ---- half up

-- a factor of both the number and the divisor counts for nothing
pub scaled_half_up_same : (n d k : ℕ) → 0 < d → 0 < k → half_up n d ≡ half_up (n * k) (d * k)
scaled_half_up_same n d k p q =
    half_unique (n * k) (d * k) (half_up n d) (mul-pos p q)
    (omega (arith, mul-le-mul_right k (half_low n d p)))
    (omega (arith, mul-lt-mul_of_pos_right (half_high n d p) q))

-- ---- a price discounted

pub narrow_discount_same : (x days : ℕ) → 0 < days
    → half_up (x * year_days) days ≡ half_up (x * year_in_day_bp) (rouble * days)
narrow_discount_same x days p =
    let times : x * year_days * rouble ≡ x * year_in_day_bp = omega arith in
    let turned : days * rouble ≡ rouble * days = omega arith in
    scaled_half_up_same (x * year_days) days rouble p (omega arith) ∙ (λ i. half_up (times i) (turned i))

-- the divisor is within a term's days of a year
pub days_in_range : (row : Row) → InRange row
    → (year_in_day_bp - growth_most ≤ grown year_in_day_bp row.t row.repo)
    × (grown year_in_day_bp row.t row.repo ≤ year_in_day_bp + growth_most)
days_in_range row r =
    let range = grown_near_base year_in_day_bp row.t row.repo r.t r.repo in
    (omega (arith, range.1), range.0)

-- a missing price stays missing
pub price_of_none_is_none : (row : Row) → InRange row → 0 ≡ row_price row 0
unfolding row_price
price_of_none_is_none row r =
    let low = (days_in_range row r).0 in
    let none : row_price row 0 ≤ 0 =
    half_le (0 * row.central * year_in_day_bp) (rouble * grown year_in_day_bp row.t row.repo) 0 (omega arith)
    (omega arith) in
    omega arith

-- ---- W-214: a price by one quotient, of 365 times its central rate

-- the row's days are `days`
module _ (row : Row) (r : InRange row) (days : ℕ) (is : days ≡ grown year_in_day_bp row.t row.repo) where
  pub once_is_row_price : (price : ℕ) → half_up (price * (row.central * year_days)) days ≡ row_price row price
  unfolding row_price
  once_is_row_price price =
      let low = (days_in_range row r).0 in
      let times : price * (row.central * year_days) ≡ price * row.central * year_days = omega arith in
      rw (is, times) (narrow_discount_same (price * row.central) (grown year_in_day_bp row.t row.repo)
      (omega arith))

  pub once_in_range : row.central ≤ once_central_most → (price : ℕ) → price ≤ price_most
      → Once price (row.central * year_days) days
  once_in_range small price h =
      rw is
      (record {
        price = h;
        factor = mul-le-mul_right year_days small;
        low = (days_in_range row r).0;
        high = (days_in_range row r).1;
      })

-- ---- W-214: a row in roubles today

-- no days move nothing
grown_by_none_stays : (base : ℕ) (rate : ℤ) → grown base 0 rate ≡ base
unfolding grown
grown_by_none_stays base (pos n) = omega arith
grown_by_none_stays base (negsuc n) = omega arith

-- a price in range fits as it is
given_fits : (price : ℕ) → price ≤ price_most → price_fits price price ≡ true
unfolding is_price
given_fits price h = go (eqb price 0) refl
  where
    go : (t : Bool) → eqb price 0 ≡ t → (t || is_price price) ≡ true
    go true e = refl
    go false e =
        and_both (leb price_least price) (leb price price_most)
        (le-leb price_least price (pos_of_ne-zero (eqb-false price 0 e)))
        (le-leb price price_most h)

module _ (row : Row) (today : is_rouble_today row ≡ true) where
  is_rouble : row.central ≡ rouble
  is_rouble = eqb-true row.central rouble (and_left (eqb row.central rouble) _ today)

  is_today : row.t ≡ 0
  is_today = eqb-true row.t 0 (and_right (eqb row.central rouble) _ today)

  -- (a) leaves a price as it is
  price_stays : (price : ℕ) → price ≡ row_price row price
  unfolding row_price
  price_stays price =
      let times : price * rouble * year_in_day_bp ≡ price * (rouble * year_in_day_bp) = omega arith in
      rw (is_rouble, is_today, grown_by_none_stays, times)
      (rounded_exact HalfUp price (rouble * year_in_day_bp) (omega arith))

  -- (b) leaves the volume as it is
  weight_stays : row.volume ≡ row_weight row
  unfolding row_weight
  weight_stays = rw is_rouble (rounded_exact HalfUp row.volume rouble (omega arith))

  pub today_stays : record { weight = row.volume; close = row.close; bid = row.bid; ask = row.ask } ≡ roubles_of row
  unfolding roubles_of
  today_stays = λ i.
      record {
        weight = weight_stays i;
        close = price_stays row.close i;
        bid = price_stays row.bid i;
        ask = price_stays row.ask i;
      }

  -- and 7 refuses none of its figures
  pub today_fits : InRange row → true ≡ row_fits row
  unfolding row_fits
  today_fits r =
      rw (
        ← price_stays row.close,
        ← price_stays row.bid,
        ← price_stays row.ask,
        ← weight_stays,
        given_fits row.close r.close,
        given_fits row.bid r.bid,
        given_fits row.ask r.ask,
        le-leb row.volume volume_most r.volume,
      )

-- ---- what a row whose figures fit keeps to

pub record Fitting (r : Roubles) : Type 0 where
  pub weight : r.weight ≤ volume_most
  pub close : r.close ≤ price_most
  pub bid : r.bid ≤ price_most
  pub ask : r.ask ≤ price_most

price_le : (row : Row) → InRange row → (price : ℕ) → price_fits price (row_price row price) ≡ true
    → row_price row price ≤ price_most
unfolding is_price
price_le row r price e = step (eqb price 0) refl e
  where
    step : (t : Bool) → eqb price 0 ≡ t → (t || is_price (row_price row price)) ≡ true → row_price row price ≤ price_most
    step true q p = rw (eqb-true price 0 q) (omega (arith, price_of_none_is_none row r))
    step false q p = leb-true (row_price row price) price_most
        (and_right (leb price_least (row_price row price)) (leb (row_price row price) price_most) p)

pub roubles_are_fitting : (row : Row) → InRange row → row_fits row ≡ true → Fitting (roubles_of row)
unfolding row_fits roubles_of
roubles_are_fitting row r e =
    record {
      weight = leb-true (row_weight row) volume_most (search (e, and_left, and_right) depth 40);
      close = price_le row r row.close (search (e, and_left, and_right) depth 40);
      bid = price_le row r row.bid (search (e, and_left, and_right) depth 40);
      ask = price_le row r row.ask (search (e, and_left, and_right) depth 40);
    }
