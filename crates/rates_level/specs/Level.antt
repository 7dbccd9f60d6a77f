-- The rate of a level (7.1), as the code finds it: with both sides times rh_1, v ≥
-- sqrt(rh_L/rh_1)·(tentative·sqrt((rh_1 + m)/rh_1) + liq) says that v·rh_1 is at least the sum of the roots of two
-- whole numbers.
use Rattle.std.specs.Prelude.{◌≡◌, Bool, not, ◌&&◌, ◌||◌, ℕ, ◌+◌, ◌-◌, ◌*◌, ◌/◌, ◌%◌, ◌^◌, ◌≤◌, leb}
use Rattle.paper.specs.declared.Statics.{Statics}
use Rattle.paper.specs.Least.{least}
use Rattle.paper.specs.Numbers.{rate_most, step_most, first_days_most, liquidity_most}
use Rattle.paper_desk.specs.Rates.{days_of, minimum_of, roots_within}
use Rattle.rates_level.specs.declared.Level.{Level}
use Rattle.rates_level.specs.declared.Squares.{Squares}
use Rattle.rates_level.specs.RateStatics.{tentative_bound}

-- rh_L and S_L_min of a level
abbrev pub level_of : Statics → (level : ℕ) → Level
level_of st level = record { days = days_of st level; minimum = record { bp = minimum_of st level } }

-- the two numbers under the roots, each without its factor rh_L
abbrev pub squares_of : Statics → (m tentative : ℕ) → Squares
squares_of st m tentative =
    record { tentative = tentative * tentative * (st.rh1 + m); liquidity = st.rh1 * (st.liq * st.liq) }

-- a bound for each at a level, however wide the tentative rate: two of them add up within 64 bits
abbrev pub square_most : ℕ
square_most = 2 ^ 62

-- x ≥ sqrt(a) + sqrt(b), on whole numbers
unfoldable pub reaches : (x a b : ℕ) → Bool
reaches x a b = roots_within (x * x) a b

-- v·rh_1 at its most
abbrev pub reach_most : ℕ
reach_most = rate_most * first_days_most

-- the least k from low on with k·step ≥ sqrt(a) + sqrt(b); high where none below it is
unfoldable pub least_reach : (low high step a b : ℕ) → ℕ
least_reach low high step a b = least high (λ k. leb low k && reaches (k * step) a b)

-- ---- the rate of a level, by plain numbers: of the statics it needs h, rh_1 and S_max, and the level's own

-- what they have to be: the minimum and S_max are whole steps, and the squares fit
pub record Sought (h rh1 smax : ℕ) (own : Level) (s : Squares) : Type 0 where
  pub step_low : 1 ≤ h
  pub step_high : h ≤ step_most
  pub first_high : rh1 ≤ first_days_most
  pub most_high : smax ≤ rate_most
  pub most_multiple : smax % h ≡ 0
  pub minimum_high : own.minimum.bp ≤ smax
  pub minimum_multiple : own.minimum.bp % h ≡ 0
  pub tentative_high : own.days * s.tentative ≤ square_most
  pub liquidity_high : own.days * s.liquidity ≤ square_most

-- whether v covers the requirement
abbrev pub covers_by : (rh1 : ℕ) → Level → Squares → (v : ℕ) → Bool
covers_by rh1 own s v = reaches (v * rh1) (own.days * s.tentative) (own.days * s.liquidity)

-- S_max where the requirement exceeds it, else the least multiple of h from the minimum on that covers it
abbrev pub least_rate : (h rh1 smax : ℕ) → Level → Squares → ℕ
least_rate h rh1 smax own s =
    least_reach (own.minimum.bp / h) (smax / h) (h * rh1) (own.days * s.tentative) (own.days * s.liquidity) * h

-- ---- a guess that is tried (W-214)

-- above every root that is looked up, the most that a guess is made of, and above every number of steps that is guessed
abbrev pub root_bound : ℕ
root_bound = 2 ^ 16

abbrev pub guess_most : ℕ
guess_most = (tentative_bound + liquidity_most) * root_bound

abbrev pub steps_bound : ℕ
steps_bound = 2 ^ 25

-- what is tried: a multiple of h from the minimum to S_max
pub record Tried (h smax : ℕ) (own : Level) (v : ℕ) : Type 0 where
  pub multiple : v % h ≡ 0
  pub low : own.minimum.bp ≤ v
  pub high : v ≤ smax

-- it covers the requirement, or is S_max
abbrev pub enough : (rh1 smax : ℕ) → Level → Squares → (v : ℕ) → Bool
enough rh1 smax own s v = leb smax v || covers_by rh1 own s v

-- a step less does not cover it, or is below the minimum
abbrev pub no_less : (h rh1 : ℕ) → Level → Squares → (v : ℕ) → Bool
no_less h rh1 own s v = leb v own.minimum.bp || not (covers_by rh1 own s (v - h))
