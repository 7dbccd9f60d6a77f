-- What the constructors make of a number: its price or its rate where it is in range, and none where it is not.
use mathlib.Core.Path.{◌≡◌, refl}
use mathlib.Core.Bool.{Bool, true, false}
use Prim.Native.Nat.{ℕ}
use native.Mathlib.Omega.{arith}
use Rattle.paper.specs.declared.Price.{Price}
use Rattle.std.specs.declared.option.Option.TheVariants.{None, Some}
use Rattle.paper.specs.declared.Rate.{Rate}
use Rattle.paper.specs.Lists.{pick}
use Rattle.paper.specs.Ranges.{is_price, price_made, is_rate, rate_made}

-- of two values that differ, the one that was picked says what the test gave
pub picked_first : {A : Type 0} (b : Bool) (x y z : A) → (z ≡ y → ⊥) → pick b x z ≡ y → (b ≡ true) × (x ≡ y)
picked_first true x y z n e = (refl, e)
picked_first false x y z n e = absurd (n e)

pub picked_second : {A : Type 0} (b : Bool) (x z : A) → (x ≡ z → ⊥) → pick b x z ≡ z → b ≡ false
picked_second true x z n e = absurd (n e)
picked_second false x z n e = refl

-- ---- a price

price_apart : (p : Price) → Some p ≡ None → ⊥
price_apart p e = let z : ◌≡◌ {A = ℕ} 0 1 = cc in omega arith

pub price_made_lem : (x : ℕ) (p : Price) → price_made x ≡ Some p → (is_price x ≡ true) × (p ≡ record { units = x })
unfolding price_made
price_made_lem x p e =
    let made = picked_first (is_price x) _ _ None (λ q. price_apart p (cc)) e in
    (made.0, cc)

pub price_unmade : (x : ℕ) → price_made x ≡ None → is_price x ≡ false
unfolding price_made
price_unmade x e = picked_second (is_price x) _ _ (price_apart (record { units = x })) e

-- ---- a rate

rate_apart : (r : Rate) → Some r ≡ None → ⊥
rate_apart r e = let z : ◌≡◌ {A = ℕ} 0 1 = cc in omega arith

pub rate_made_lem : (x : ℕ) (r : Rate) → rate_made x ≡ Some r → (is_rate x ≡ true) × (r ≡ record { bp = x })
unfolding rate_made
rate_made_lem x r e =
    let made = picked_first (is_rate x) _ _ None (λ q. rate_apart r (cc)) e in
    (made.0, cc)

pub rate_unmade : (x : ℕ) → rate_made x ≡ None → is_rate x ≡ false
unfolding rate_made
rate_unmade x e = picked_second (is_rate x) _ _ (rate_apart (record { bp = x })) e
