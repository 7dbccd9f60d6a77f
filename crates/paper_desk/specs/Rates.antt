-- Document 01, "The rates (7.1)"; document 02, W-202 and W-208.
use Rattle.std.specs.Prelude.{◌≡◌, ◌⊎◌, Bool, ◌&&◌, ℕ, ◌+◌, ◌-◌, ◌*◌, ◌/◌, ◌%◌, ◌≤◌, ◌<◌, min, max, leb, ltb, eqb, ℤ, pos, ◌*ℤ◌}
use Rattle.std.proofs.Math.IntN.{sub_ℕ}
use Rattle.std.specs.Int.Signed.{le_z}
use Rattle.paper.specs.declared.Tentative.{Tentative}
use Rattle.paper.specs.declared.Model.{Model}
use Rattle.paper.specs.declared.Statics.{Statics}
use Rattle.paper.specs.declared.Figures.{Figures}
use Rattle.paper.specs.Lists.{pick, for_levels}
use Rattle.paper.specs.Numbers.{one_in_ten_thousandths, one_in_millionths, millionths_in_bp, hundredths_of_millionths_in_bp}
use Rattle.paper.specs.Numbers.{one_in_hundredths, volatility_most, age_most}
use Rattle.paper.specs.Roundings.{Quotient, up, apart}
use Rattle.paper.specs.Least.{least_root, least_times, least_multiple}

-- ---- the move and the volatility

-- |P - P1|/P1, rounded by (e) up to a millionth
unfoldable pub move_from : (p earlier : ℕ) → ℕ
move_from p earlier = up (apart p earlier * one_in_millionths) earlier

-- "r is the greater of |P - P1|/P1 and |P - P2|/P2 over the two earlier evaluations, rounded by (e)."
unfoldable pub move_of : (p p1 p2 : ℕ) → ℕ
move_of p p1 p2 = max (move_from p p1) (move_from p p2)

-- the weights and the multiplier of a share
abbrev pub model_of : Statics → Model
model_of st = record { aup = st.aup; adown = st.adown; q = st.q }

-- a model whose weights are at most one, and whose multiplier is at least one
pub record Weighing (m : Model) : Type 0 where
  pub q : one_in_hundredths ≤ m.q
  pub aup : m.aup ≤ one_in_ten_thousandths
  pub adown : m.adown ≤ one_in_ten_thousandths

-- "a is 0 when b > 1; else a_up when r > s, a_down otherwise."
unfoldable pub weight_of : Model → (b r s : ℕ) → ℕ
weight_of m b r s = pick (ltb 1 b) 0 (pick (ltb s r) m.aup m.adown)

-- "New s is the least whole x with 10,000·x² ≥ (10,000 - a)·s² + a·r²."
unfoldable pub weighted : (a s r : ℕ) → ℕ
weighted a s r = least_root one_in_ten_thousandths ((one_in_ten_thousandths - a) * (s * s) + a * (r * r))

-- "the least y with y·q ≥ 100·r"
unfoldable pub replacement : (q r : ℕ) → ℕ
replacement q r = least_times q (one_in_hundredths * r)

-- "When b ≤ 1 and r > 100·S_1 (last rate), also take the least y ..; s is the greater, and on a tie x is the one
-- chosen." The last rate is in the unit of the move
unfoldable pub replaces : Model → (b r last x : ℕ) → Bool
replaces m b r last x = leb b 1 && ltb last r && ltb x (replacement m.q r)

-- whether y is the one chosen over this evaluation's x
abbrev pub replacement_wins : Model → (b r last s : ℕ) → Bool
replacement_wins m b r last s = replaces m b r last (weighted (weight_of m b r s) s r)

unfoldable pub volatility_of : Model → (b r last s : ℕ) → ℕ
volatility_of m b r last s =
    pick (replacement_wins m b r last s) (replacement m.q r) (weighted (weight_of m b r s) s r)

-- ---- the tentative rate

-- "the least multiple of h with" factor·t ≥ n: every t is this one, of a share by either rule and of a repo rate, and
-- none has a maximum. W-208: "Take the cap off t, W-202's included."
unfoldable pub least_step : (h factor n : ℕ) → ℕ
least_step h factor n = least_multiple h n (λ t. leb n (factor * t))

-- "t is the least multiple of h with 10,000·t ≥ q·s"
unfoldable pub tentative_rate : Statics → (s : ℕ) → ℕ
tentative_rate st s = least_step st.h hundredths_of_millionths_in_bp (st.q * s)

-- W-202: "t is the least multiple of h with 100·t ≥ r"
unfoldable pub tentative_rate_by_move : Statics → (r : ℕ) → ℕ
tentative_rate_by_move st r = least_step st.h millionths_in_bp r

-- W-202: "When a share's replacement is the greater," t is that of the move; "on a tie the ordinary rule stands", and
-- so it does wherever x is chosen. s is new s
unfoldable pub tentative_rate_of : Statics → (replaced : Bool) → (r s : ℕ) → ℕ
tentative_rate_of st replaced r s = pick replaced (tentative_rate_by_move st r) (tentative_rate st s)

-- "If t ≥ tentative + h, tentative becomes t. Else if t ≤ tentative - h and age + 1 ≥ n, it falls by one h. Else it
-- stays. Age becomes 0 on a change, else one more, held at 250."
unfoldable pub tentative_after : (h wait t : ℕ) → Tentative → Tentative
tentative_after h wait t old =
    pick (leb (old.bp + h) t) (record { bp = t; age = 0 })
    (pick (leb (t + h) old.bp && leb wait (old.age + 1)) (record { bp = old.bp - h; age = 0 })
    (record { bp = old.bp; age = min age_most (old.age + 1) }))

-- ---- the rate of a level

-- "v ≥ sqrt(rh_L/rh_1)·(tentative·sqrt((rh_1 + m)/rh_1) + liq)": with A = v²·rh_1² - rh_L·tentative²·(rh_1 + m) -
-- rh_L·rh_1·liq², "it holds when A ≥ 0 and A² ≥ 4·rh_L²·tentative²·liq²·rh_1·(rh_1 + m)"
unfoldable pub meets_requirement : (rh1 rh liq tentative m v : ℕ) → Bool
meets_requirement rh1 rh liq tentative m v =
    let A : ℤ = sub_ℕ (v * v * (rh1 * rh1)) (rh * (tentative * tentative) * (rh1 + m) + rh * rh1 * (liq * liq)) in
    le_z (pos 0) A && le_z (pos (4 * (rh * rh) * (tentative * tentative) * (liq * liq) * rh1 * (rh1 + m))) (A *ℤ A)

-- what a rate has, and what the requirement needs of it, both times rh_1²; proofs/Level compares them without signs
abbrev pub has : (rh1 v : ℕ) → ℕ
has rh1 v = v * v * (rh1 * rh1)

abbrev pub volatile_need : (rh1 rh m tentative : ℕ) → ℕ
volatile_need rh1 rh m tentative = rh * (tentative * tentative) * (rh1 + m)

abbrev pub liquid_need : (rh1 rh liq : ℕ) → ℕ
liquid_need rh1 rh liq = rh * rh1 * (liq * liq)

-- √have ≥ √x + √y on whole numbers
unfoldable pub roots_within : (have x y : ℕ) → Bool
roots_within have x y = leb (x + y) have && leb (4 * x * y) ((have - (x + y)) * (have - (x + y)))

-- rh_L and S_L_min of the levels 1, 2, 3
unfoldable pub days_of : Statics → (level : ℕ) → ℕ
days_of st level = pick (eqb level 1) st.rh1 (pick (eqb level 2) st.rh2 st.rh3)

unfoldable pub minimum_of : Statics → (level : ℕ) → ℕ
minimum_of st level = pick (eqb level 1) st.min1 (pick (eqb level 2) st.min2 st.min3)

-- a level and the next: no fewer days, and no lesser minimum
pub record LevelsInOrder (st : Statics) (level next : ℕ) : Type 0 where
  pub days : days_of st level ≤ days_of st next
  pub minima : minimum_of st level ≤ minimum_of st next

-- whether a rate v covers the requirement of a level
unfoldable pub covers : Statics → (tentative m level v : ℕ) → Bool
covers st tentative m level v = meets_requirement st.rh1 (days_of st level) st.liq tentative m v

-- "Rate of level L is S_max if the requirement exceeds it, else the least multiple v of h, v ≥ S_L_min, with v ≥ .."
-- the requirement. W-208: "Rates stay held at S_max"
unfoldable pub level_rate : Statics → (tentative m level : ℕ) → ℕ
level_rate st tentative m level =
    pick (covers st tentative m level st.smax)
    (least_multiple st.h (st.smax / st.h) (λ v. leb (minimum_of st level) v && covers st tentative m level v))
    st.smax

-- ---- by isEWMA

-- what t makes of the tentative rate, and that of the rates of the levels: the same for a share and for a bond
abbrev pub rated_by : Statics → (m t s : ℕ) → Tentative → Figures
rated_by st m t s old =
    let after : Tentative = tentative_after st.h st.wait t old in
    record { s = s; tentative = after; rates = for_levels (λ l. record { bp = level_rate st after.bp m l }) }

unfoldable pub modelled : Statics → (b m s1 r s : ℕ) → Tentative → Figures
modelled st b m s1 r s old =
    let s' : ℕ = volatility_of (model_of st) b r (millionths_in_bp * s1) s in
    let replaced : Bool = replacement_wins (model_of st) b r (millionths_in_bp * s1) s in
    rated_by st m (tentative_rate_of st replaced r s') s' old

-- "With isEWMA no, the three rates are the minima and s, tentative and age stay."
unfoldable pub unmodelled : Statics → (s : ℕ) → Tentative → Figures
unmodelled st s old = record { s = s; tentative = old; rates = for_levels (λ l. record { bp = minimum_of st l }) }

abbrev pub if_modelled : Statics → Figures → (s : ℕ) → Tentative → Figures
if_modelled st figures s old = pick st.ewma figures (unmodelled st s old)

-- a share's figures: its s is worked out from the move
unfoldable pub figures_of : Statics → (b m s1 r s : ℕ) → Tentative → Figures
figures_of st b m s1 r s old = if_modelled st (modelled st b m s1 r s old) s old

-- W-206, a bond's: "Rates come from a given volatility by the share rules, with the bond maximum"; no move, and so no
-- replacement
unfoldable pub figures_by_volatility : Statics → (m s : ℕ) → Tentative → Figures
figures_by_volatility st m s old = if_modelled st (rated_by st m (tentative_rate st s) s old) s old

-- 8: "isEWMA yes and r above 1,000,000"
unfoldable pub move_too_large : Statics → (r : ℕ) → Bool
move_too_large st r = st.ewma && ltb volatility_most r

-- ---- what the rate of a level is, in demand 2's words

-- v is at least the sum of the roots of two quotients, as real numbers are: every fraction a/d whose square is at most
-- x, and every b/d whose square is at most y, have (a + b)/d ≤ v
pub record AtLeastRoots (v : ℕ) (x y : Quotient) : Type 0 where
  pub bounds : (a b d : ℕ) → 0 < d → a * a * x.den ≤ x.num * (d * d) → b * b * y.den ≤ y.num * (d * d)
      → a + b ≤ v * d

-- the squares of sqrt(rh_L/rh_1)·tentative·sqrt((rh_1 + m)/rh_1) and of sqrt(rh_L/rh_1)·liq
abbrev pub volatile_part : (rh1 rh tentative m : ℕ) → Quotient
volatile_part rh1 rh tentative m = record { num = rh * (tentative * tentative) * (rh1 + m); den = rh1 * rh1 }

abbrev pub liquid_part : (rh1 rh liq : ℕ) → Quotient
liquid_part rh1 rh liq = record { num = rh * (liq * liq); den = rh1 }

-- v is the least multiple of h with factor·v ≥ n
pub record IsLeastStep (h factor n v : ℕ) : Type 0 where
  pub multiple : v % h ≡ 0
  pub enough : n ≤ factor * v
  pub least : (j : ℕ) → n ≤ factor * (j * h) → v ≤ j * h

-- v is at least the requirement of a level, as real numbers are: "v ≥ sqrt(rh_L/rh_1)·(tentative·sqrt((rh_1 + m)/rh_1)
-- + liq)"
abbrev pub AtLeastRequired : Statics → (tentative m level v : ℕ) → Type 0
AtLeastRequired st tentative m level v =
    AtLeastRoots v (volatile_part st.rh1 (days_of st level) tentative m)
    (liquid_part st.rh1 (days_of st level) st.liq)

-- "the least multiple of the step that covers the requirement and the minimum, held at the maximum", whatever it is
-- that a rate has to cover
pub record HeldLeast (h minimum maximum : ℕ) (Covers : ℕ → Type 0) (v : ℕ) : Type 0 where
  pub multiple : v % h ≡ 0
  pub low : minimum ≤ v
  pub held : v ≤ maximum
  pub covers_or_held : Covers v ⊎ ((v ≡ maximum) × (Covers maximum → ⊥))
  pub least : (j : ℕ) → minimum ≤ j * h → Covers (j * h) → v ≤ j * h

-- the minimum of a level is at most S_max, and both are multiples of h
pub record Stepping (st : Statics) (level : ℕ) : Type 0 where
  pub low : minimum_of st level ≤ st.smax
  pub multiple : st.smax % st.h ≡ 0
  pub minimum : minimum_of st level % st.h ≡ 0
