-- Document 01, "Places of rounding", and W-209, "The shared rounding rule now says which way it goes": one rule over
-- the ways down, half up and up, of which every rounding to a unit or to a grid is an instance. A quotient n/d is kept
-- as n and d until one of these places.
use Rattle.std.specs.Prelude.{◌≡◌, refl, [], ◌∷◌, map, ℕ, suc, ◌+◌, ◌-◌, ◌*◌, ◌/◌, ◌≤◌, ◌<◌, leb, ℤ, pos, negsuc, neg_ℤ}
use Rattle.paper.specs.declared.Way.{Way}
use Rattle.paper.specs.declared.Way.TheVariants.{Down, HalfUp, Up}
use Rattle.paper.specs.Lists.{pick}

-- a quotient that is not rounded yet
pub record Quotient : Type 0 where
  pub num : ℕ
  pub den : ℕ

-- ---- the ways

-- W-209, "Round the upper limit down": n/d rounded down
unfoldable pub down : (n d : ℕ) → ℕ
down n d = n / d

-- (a), (b), (c) "Half up is to nearest, ties up"
unfoldable pub half_up : (n d : ℕ) → ℕ
half_up n d = (2 * n + d) / (2 * d)

-- (e), (f) "up": n/d rounded up
unfoldable pub up : (n d : ℕ) → ℕ
up n d = (n + (d - 1)) / d

-- ---- the rule: n/d rounded that way, to a unit and to a multiple of g

abbrev pub rounded : Way → (n d : ℕ) → ℕ
rounded Down n d = down n d
rounded HalfUp n d = half_up n d
rounded Up n d = up n d

abbrev pub rounded_to : Way → (g n d : ℕ) → ℕ
rounded_to way g n d = rounded way n (d * g) * g

-- (d), (g) "half up to the grid": n/d to the nearest multiple of g, ties up
unfoldable pub to_grid : (g n d : ℕ) → ℕ
to_grid g n d = rounded_to HalfUp g n d

-- ---- what it is

-- how far above n/d a number may stand that is n/d rounded that way, in halves of 1/d: nowhere, half a unit, less than
-- a unit
abbrev pub above : Way → (d : ℕ) → ℕ
above Down d = 0
above HalfUp d = d
above Up d = 2 * d - 1

-- and below which distance from n/d it stands under it: less than a unit, less than half a unit, nowhere
abbrev pub below : Way → (d : ℕ) → ℕ
below Down d = 2 * d
below HalfUp d = d
below Up d = 1

-- r is x rounded that way
pub record Rounded (way : Way) (r : ℕ) (x : Quotient) : Type 0 where
  pub positive : 0 < x.den
  pub not_above : 2 * (r * x.den) ≤ 2 * x.num + above way x.den
  pub not_below : 2 * x.num < 2 * (r * x.den) + below way x.den

-- (e), (f) the same of "up", by every other number: r is the least whole number that is not below the quotient
pub record RoundedUp (r : ℕ) (x : Quotient) : Type 0 where
  pub covers : x.num ≤ r * x.den
  pub least : (z : ℕ) → x.num ≤ z * x.den → r ≤ z
  pub positive : 0 < x.den

-- a rounding that keeps order: that of a grid does, whichever way it goes, and so does what each kind of security makes
-- of a limit
pub record KeepsOrder (f : Quotient → ℕ) : Type 0 where
  pub keeps : (x y : Quotient) → 0 < x.den → 0 < y.den → x.num * y.den ≤ y.num * x.den → f x ≤ f y

-- ---- numbers below zero

-- to nearest, ties down: how the size of a number below zero is rounded where the number is rounded half up
unfoldable pub half_down : (n d : ℕ) → ℕ
half_down n d = (2 * n + (d - 1)) / (2 * d)

-- how the size of a number below zero is rounded where the number is rounded that way
abbrev pub mirrored : Way → (n d : ℕ) → ℕ
mirrored Down n d = up n d
mirrored HalfUp n d = half_down n d
mirrored Up n d = down n d

-- the rule, also below zero
abbrev pub rounded_z : Way → (n : ℤ) → (d : ℕ) → ℤ
rounded_z way (pos n) d = pos (rounded way n d)
rounded_z way (negsuc n) d = neg_ℤ (pos (mirrored way (suc n) d))

-- 7/2 below zero, and 3 below zero, rounded down, half up and up
pub below_zero_are : (map (λ (way : Way). rounded_z way (negsuc 6) 2) (Down ∷ HalfUp ∷ Up ∷ [])
    ≡ negsuc 3 ∷ negsuc 2 ∷ negsuc 2 ∷ [])
    × (map (λ (way : Way). rounded_z way (negsuc 5) 2) (Down ∷ HalfUp ∷ Up ∷ []) ≡ negsuc 2 ∷ negsuc 2 ∷ negsuc 2 ∷ [])
unfolding rounded up half_down down
below_zero_are = (refl, refl)

-- W-201, "half up to a bp": to nearest, ties up, also below zero
unfoldable pub half_up_z : (x : ℤ) → (d : ℕ) → ℤ
half_up_z x d = rounded_z HalfUp x d

-- a number below zero counts as 0
abbrev pub at_least_zero : ℤ → ℕ
at_least_zero (pos n) = n
at_least_zero (negsuc n) = 0

-- ---- quotients and sums that are not rounded

-- the lesser and the greater of two quotients, exactly
unfoldable pub lesser_of : (x y : Quotient) → Quotient
lesser_of x y = pick (leb (x.num * y.den) (y.num * x.den)) x y

unfoldable pub greater_of : (x y : Quotient) → Quotient
greater_of x y = pick (leb (x.num * y.den) (y.num * x.den)) y x

-- base + k·rate for a rate of either sign; the paper's ranges keep it above 0
unfoldable pub grown : (base k : ℕ) → (rate : ℤ) → ℕ
grown base k (pos r) = base + k * r
grown base k (negsuc r) = base - k * suc r

-- how far apart two numbers are: |a - b|
unfoldable pub apart : (a b : ℕ) → ℕ
apart a b = (a - b) + (b - a)
