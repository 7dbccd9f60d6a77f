-- What is known of two plain numbers once the constructors of a price and a rate have judged them.
use mathlib.Core.Path.{◌≡◌, refl, sym, ap}
use mathlib.Core.Bool.{Bool, true, false, ◌&&◌}
use Prim.Native.Nat.{ℕ}
use native.Mathlib.Omega.{arith}
use Rattle.paper.specs.declared.Price.{Price}
use Rattle.paper.specs.declared.Rate.{Rate}
use Rattle.paper.specs.declared.Statics.{Statics}
use Rattle.paper.specs.Ranges.{is_price, is_rate, is_grid_price}
use Rattle.paper_desk.specs.Gateway.{range_in_range, band_in_range}
use Rattle.paper.proofs.Logic.{not_true_and_false, and_left, and_right, and_both}
use Rattle.inputs.proofs.Made.{picked_first, picked_second}
use Rattle.gateway.specs.declared.limit.Grown.{Grown}
use Rattle.gateway.specs.LimitCalls.{limit_in_range}
use Rattle.std.specs.declared.option.Option.{Option}
use Rattle.std.specs.declared.option.Option.TheVariants.{None, Some}
use Rattle.gateway.specs.PriceAndRate.{price_and_rate}

made_apart : (x : Price) (y : Rate) → ◌≡◌ {A = Option (Price × Rate)} (Some (x, y)) None → ⊥
made_apart x y e = let z : ◌≡◌ {A = ℕ} 0 1 = cc in omega arith

-- a price and a rate in hand are those of the numbers, which are in range
pub record Held (p rate : ℕ) (x : Price) (y : Rate) : Type 0 where
  pub price : is_price p ≡ true
  pub rated : is_rate rate ≡ true
  pub of_price : x ≡ record { units = p }
  pub of_rate : y ≡ record { bp = rate }

pub made_is_held : (p rate : ℕ) (x : Price) (y : Rate) → price_and_rate p rate ≡ Some (x, y) → Held p rate x y
unfolding price_and_rate
made_is_held p rate x y e =
    let made = picked_first (is_price p && is_rate rate) _ _ None (λ q. made_apart x y (cc)) e in
    let same : ◌≡◌ {A = Price × Rate} (record { units = p }, record { bp = rate }) (x, y) = cc in
    record {
      price = and_left (is_price p) (is_rate rate) made.0;
      rated = and_right (is_price p) (is_rate rate) made.0;
      of_price = sym (ap (λ (z : Price × Rate). z.0) same);
      of_rate = sym (ap (λ (z : Price × Rate). z.1) same);
    }

-- with none in hand, no test of the call's values passes
module _ (p rate : ℕ) (e : price_and_rate p rate ≡ None) where
  out : (is_price p && is_rate rate) ≡ false
  unfolding price_and_rate
  out = picked_second (is_price p && is_rate rate) _ _ (made_apart (record { units = p }) (record { bp = rate })) e

  fails : (test : Bool) → (test ≡ true → (is_price p ≡ true) × (is_rate rate ≡ true)) → test ≡ false
  fails true f = absurd (not_true_and_false (is_price p && is_rate rate) (and_both _ _ (f refl).0 (f refl).1) out)
  fails false f = refl

  pub limit_out : (st : Statics) (asked : Option Grown) (side : ℕ) → limit_in_range st asked p rate side ≡ false
  unfolding limit_in_range range_in_range band_in_range is_grid_price
  limit_out st None side = fails _ (λ v. (search (v, and_left, and_right), search (v, and_left, and_right)))
  limit_out st (Some x) side =
      fails _ (λ v. (search (v, and_left, and_right) depth 10, search (v, and_left, and_right)))
