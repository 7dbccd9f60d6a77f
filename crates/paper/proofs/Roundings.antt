-- Laws of the one rounding rule, each said once over the way: what it is, that it is the only such number, that it
-- keeps order, that it keeps what is a multiple already, and on which side of the quotient it stands. Then what is used
-- of one way alone. n/d ≤ m/e is said as n·e ≤ m·d.
use mathlib.Core.Path.{◌≡◌, ap, sym, ◌∙◌}
use mathlib.Core.Logic.{◌⊎◌, inl, inr}
use Prim.Native.Nat.{ℕ, ◌+◌, ◌-◌, ◌*◌, ◌/◌, ◌%◌, ◌≤◌, ◌<◌, min, max}
use native.Mathlib.Nat.{div-add-mod, mul-sub, mul-mod_right, add-mod, zero-mod, le_trans, div-lt_iff_lt-mul}
use native.Mathlib.Nat.{le-div_iff_mul-le, mul-le-mul_right, le_of_mul-le-mul_left, mul-pos, min-eq_left, min-eq_right}
use native.Mathlib.Nat.{le_of_lt}
use native.Mathlib.Omega.{arith}
use lib.Dec.{leb}
use borrow.Author.Tests.{le-leb, lt-leb}
use Rattle.paper.specs.declared.Way.{Way}
use Rattle.paper.specs.declared.Way.TheVariants.{Down, HalfUp, Up}
use Rattle.paper.specs.Lists.{pick}
use Rattle.paper.specs.Least.{least_times}
use Rattle.paper.specs.Roundings.{Quotient, down, half_up, up, rounded, rounded_to, above, below, Rounded}
use Rattle.paper.specs.Roundings.{RoundedUp, KeepsOrder, lesser_of, greater_of}
use Rattle.paper.proofs.Logic.{le_or_lt}
use Rattle.paper.proofs.Search.{times_unique}

-- ---- a quotient lies between two multiples, and only the quotient does

pub quotient_low : (n d : ℕ) → 0 < d → n / d * d ≤ n
quotient_low n d h = (le-div_iff_mul-le {k = d} {x = n / d} {y = n} h).0 (omega arith)

pub quotient_high : (n d : ℕ) → 0 < d → n < (n / d + 1) * d
quotient_high n d h = (div-lt_iff_lt-mul {k = d} {x = n} {y = n / d + 1} h).0 (omega arith)

pub quotient_unique : (n d q : ℕ) → 0 < d → q * d ≤ n → n < (q + 1) * d → q ≡ n / d
quotient_unique n d q h low high =
    let a : q ≤ n / d = (le-div_iff_mul-le {k = d} {x = q} {y = n} h).1 low in
    let b : n / d < q + 1 = (div-lt_iff_lt-mul {k = d} {x = n} {y = q + 1} h).1 high in
    omega arith

-- two quotients in order
pub quotient_monotone : (n d m e : ℕ) → 0 < d → 0 < e → n * e ≤ m * d → n / d ≤ m / e
quotient_monotone n d m e p q l =
    let k : ℕ = n / d in
    let times : k * d * e ≤ n * e = mul-le-mul_right e (quotient_low n d p) in
    let fits : d * (k * e) ≤ d * m = omega arith in
    (le-div_iff_mul-le {k = e} {x = k} {y = m} q).1 (le_of_mul-le-mul_left fits p)

-- ---- what the rule is, and that it alone is that

pub rounded_is : (way : Way) (n d : ℕ) → 0 < d → Rounded way (rounded way n d) (record { num = n; den = d })
unfolding down half_up up
rounded_is Down n d h =
    record {
      positive = h;
      not_above = omega (arith, quotient_low n d h);
      not_below = omega (arith, quotient_high n d h);
    }
rounded_is HalfUp n d h =
    record {
      positive = h;
      not_above = omega (arith, quotient_low (2 * n + d) (2 * d) (omega arith));
      not_below = omega (arith, quotient_high (2 * n + d) (2 * d) (omega arith));
    }
rounded_is Up n d h =
    record {
      positive = h;
      not_above = omega (arith, quotient_low (n + (d - 1)) d h);
      not_below = omega (arith, quotient_high (n + (d - 1)) d h);
    }

-- the two distances make a whole unit, so that two numbers do not fit between them
whole_unit : (way : Way) (d : ℕ) → 0 < d → (above way d + below way d ≡ 2 * d) × (0 < below way d)
whole_unit Down d h = omega arith
whole_unit HalfUp d h = omega arith
whole_unit Up d h = omega arith

not_more : (way : Way) (q r : ℕ) (x : Quotient) → Rounded way q x → Rounded way r x → q ≤ r
not_more way q r x u v = go (le_or_lt q r)
  where
    go : (q ≤ r) ⊎ (r < q) → q ≤ r
    go (inl l) = l
    go (inr l) =
        let more : (r + 1) * x.den ≤ q * x.den = mul-le-mul_right x.den (omega arith) in
        absurd (omega (arith, (whole_unit way x.den u.positive).0))

pub rounded_unique : (way : Way) (q r : ℕ) (x : Quotient) → Rounded way q x → Rounded way r x → q ≡ r
rounded_unique way q r x u v = omega (arith, not_more way q r x u v, not_more way r q x v u)

-- ---- up: at least n/d, and the least such number

pub up_covers : (n d : ℕ) → 0 < d → n ≤ up n d * d
unfolding up
up_covers n d h = omega (arith, quotient_high (n + (d - 1)) d h)

pub up_least : (n d q : ℕ) → 0 < d → n ≤ q * d → up n d ≤ q
unfolding up
up_least n d q h p =
    let b : (n + (d - 1)) / d < q + 1 = (div-lt_iff_lt-mul {k = d} {x = n + (d - 1)} {y = q + 1} h).1 (omega arith) in
    omega arith

-- ---- it keeps order

pub rounded_monotone : (way : Way) (n d m e : ℕ) → 0 < d → 0 < e → n * e ≤ m * d → rounded way n d ≤ rounded way m e
unfolding down half_up
rounded_monotone Down n d m e p q l = quotient_monotone n d m e p q l
rounded_monotone HalfUp n d m e p q l =
    quotient_monotone (2 * n + d) (2 * d) (2 * m + e) (2 * e) (omega arith) (omega arith) (omega arith)
rounded_monotone Up n d m e p q l =
    let covers : m * d ≤ up m e * e * d = mul-le-mul_right d (up_covers m e q) in
    let fits : e * n ≤ e * (up m e * d) = omega arith in
    up_least n d (up m e) p (le_of_mul-le-mul_left fits q)

-- ---- it keeps what is a multiple already, so that it passes no multiple

pub rounded_exact : (way : Way) (k d : ℕ) → 0 < d → k ≡ rounded way (k * d) d
rounded_exact way k d p =
    rounded_unique way k (rounded way (k * d) d) (record { num = k * d; den = d })
    (record { positive = p; not_above = omega arith; not_below = omega (arith, (whole_unit way d p).1) })
    (rounded_is way (k * d) d p)

pub rounded_le : (way : Way) (n d k : ℕ) → 0 < d → n ≤ k * d → rounded way n d ≤ k
rounded_le way n d k p l =
    rw (rounded_exact way k d p) (rounded_monotone way n d (k * d) d p p (mul-le-mul_right d l))

pub rounded_ge : (way : Way) (n d k : ℕ) → 0 < d → k * d ≤ n → k ≤ rounded way n d
rounded_ge way n d k p l =
    rw (rounded_exact way k d p) (rounded_monotone way (k * d) d n d p p (mul-le-mul_right d l))

-- a rounding is less than a unit away
pub rounded_near : (way : Way) (n d : ℕ) → 0 < d → rounded way n d * d < n + d
rounded_near way n d p =
    omega (arith, (rounded_is way n d p).not_above, (whole_unit way d p).0, (whole_unit way d p).1)

-- ---- down is never above the quotient, up never below it

pub down_not_above : (n d : ℕ) → 0 < d → rounded Down n d * d ≤ n
down_not_above n d p = omega (arith, (rounded_is Down n d p).not_above)

pub up_not_below : (n d : ℕ) → 0 < d → n ≤ rounded Up n d * d
up_not_below n d p = omega (arith, (rounded_is Up n d p).not_below)

-- ---- up, by every other number

-- it is the rounding up
pub up_rounded : (n d : ℕ) → 0 < d → RoundedUp (up n d) (record { num = n; den = d })
up_rounded n d h = record { covers = up_covers n d h; least = λ z k. up_least n d z h k; positive = h }

-- a unit less is no longer above the quotient
pub rounded_below : (r : ℕ) (x : Quotient) → RoundedUp r x → (r - 1) * x.den ≤ x.num
rounded_below r x u = go (le_or_lt ((r - 1) * x.den) x.num)
  where
    go : ((r - 1) * x.den ≤ x.num) ⊎ (x.num < (r - 1) * x.den) → (r - 1) * x.den ≤ x.num
    go (inl l) = l
    go (inr l) = let none : r - 1 ≡ 0 = omega (arith, u.least (r - 1) (omega arith)) in rw none (omega arith)

-- the greater of two numbers rounded up is the greater quotient rounded up
pub rounded_max : (q r : ℕ) (x y : Quotient) → RoundedUp q x → RoundedUp r y → y.num * x.den ≤ x.num * y.den
    → RoundedUp (max q r) x
rounded_max q r x y u v l =
    record {
      covers = le_trans u.covers (mul-le-mul_right x.den (omega arith));
      least = λ z k. omega (arith, u.least z k, v.least z (covered z k));
      positive = u.positive;
    }
  where
    covered : (z : ℕ) → x.num ≤ z * x.den → y.num ≤ z * y.den
    covered z k =
        let fits : x.den * y.num ≤ x.den * (z * y.den) = omega (arith, mul-le-mul_right y.den k) in
        le_of_mul-le-mul_left fits u.positive

-- the least y with y·d ≥ n is n/d rounded up
pub times_is_up : (n d : ℕ) → 0 < d → least_times d n ≡ up n d
times_is_up n d h = times_unique d n (up n d) h (up_covers n d h) (λ z k. up_least n d z h k)

-- ---- multiples of one number

pub difference_is_multiple : (g a b : ℕ) → a % g ≡ 0 → b % g ≡ 0 → (a - b) % g ≡ 0
difference_is_multiple g a b e f =
    let z : g * (a / g - b / g) ≡ a - b = omega (arith, mul-sub g (a / g) (b / g), div-add-mod a g, div-add-mod b g) in
    rw (← z) (mul-mod_right g (a / g - b / g))

pub sum_is_multiple : (g a b : ℕ) → a % g ≡ 0 → b % g ≡ 0 → (a + b) % g ≡ 0
sum_is_multiple g a b e f = add-mod a b g ∙ rw (e, f) (zero-mod g)

-- ---- half up: n/d - 1/2 < half_up ≤ n/d + 1/2, and only it: the nearest, and of two the upper

pub half_low : (n d : ℕ) → 0 < d → half_up n d * (2 * d) ≤ 2 * n + d
half_low n d h = omega (arith, (rounded_is HalfUp n d h).not_above)

pub half_high : (n d : ℕ) → 0 < d → 2 * n + d < (half_up n d + 1) * (2 * d)
half_high n d h = omega (arith, (rounded_is HalfUp n d h).not_below)

pub half_unique : (n d q : ℕ) → 0 < d → q * (2 * d) ≤ 2 * n + d → 2 * n + d < (q + 1) * (2 * d) → q ≡ half_up n d
half_unique n d q h low high =
    rounded_unique HalfUp q (half_up n d) (record { num = n; den = d })
    (record { positive = h; not_above = omega arith; not_below = omega arith })
    (rounded_is HalfUp n d h)

-- a bound by a whole number
pub half_le : (n d k : ℕ) → 0 < d → n ≤ k * d → half_up n d ≤ k
half_le n d k p l = rounded_le HalfUp n d k p l

-- ---- the same to a grid

pub grid_unique : (way : Way) (g n d q : ℕ) → 0 < g → 0 < d → Rounded way q (record { num = n; den = d * g })
    → q * g ≡ rounded_to way g n d
grid_unique way g n d q p r u =
    ap (λ (z : ℕ). z * g)
    (rounded_unique way q (rounded way n (d * g)) (record { num = n; den = d * g }) u
    (rounded_is way n (d * g) (mul-pos r p)))

pub grid_monotone : (way : Way) (g n d m e : ℕ) → 0 < g → 0 < d → 0 < e → n * e ≤ m * d
    → rounded_to way g n d ≤ rounded_to way g m e
grid_monotone way g n d m e p q r l =
    let wide : n * (e * g) ≤ m * (d * g) = omega (arith, mul-le-mul_right g l) in
    mul-le-mul_right g (rounded_monotone way n (d * g) m (e * g) (mul-pos q p) (mul-pos r p) wide)

pub grid_exact : (way : Way) (g k d : ℕ) → 0 < g → 0 < d → k * g ≡ rounded_to way g (k * g * d) d
grid_exact way g k d p q =
    let same : k * g * d ≡ k * (d * g) = omega arith in
    rw same (ap (λ (z : ℕ). z * g) (rounded_exact way k (d * g) (mul-pos q p)))

-- ---- the lesser and the greater of two quotients, rounded once, are the lesser and the greater of the two rounded

module _ (f : Quotient → ℕ) (o : KeepsOrder f) (x y : Quotient) (p : 0 < x.den) (q : 0 < y.den) where
  pub lesser_rounded : f (lesser_of x y) ≡ min (f x) (f y)
  unfolding lesser_of
  lesser_rounded = go (le_or_lt (x.num * y.den) (y.num * x.den))
    where
      go : (x.num * y.den ≤ y.num * x.den) ⊎ (y.num * x.den < x.num * y.den)
          → f (pick (leb (x.num * y.den) (y.num * x.den)) x y) ≡ min (f x) (f y)
      go (inl h) = rw (le-leb (x.num * y.den) (y.num * x.den) h) (sym (min-eq_left (o.keeps x y p q h)))
      go (inr h) =
          rw (lt-leb (x.num * y.den) (y.num * x.den) h) (sym (min-eq_right (o.keeps y x q p (le_of_lt h))))

  pub greater_rounded : f (greater_of x y) ≡ max (f x) (f y)
  unfolding greater_of
  greater_rounded = go (le_or_lt (x.num * y.den) (y.num * x.den))
    where
      go : (x.num * y.den ≤ y.num * x.den) ⊎ (y.num * x.den < x.num * y.den)
          → f (pick (leb (x.num * y.den) (y.num * x.den)) y x) ≡ max (f x) (f y)
      go (inl h) = rw (le-leb (x.num * y.den) (y.num * x.den) h) (omega (arith, o.keeps x y p q h))
      go (inr h) = rw (lt-leb (x.num * y.den) (y.num * x.den) h) (omega (arith, o.keeps y x q p (le_of_lt h)))
