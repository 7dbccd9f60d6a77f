-- What is received of an outside source is bad exactly where the code finds no units.
use mathlib.Core.Path.{◌≡◌, refl, sym}
use mathlib.Core.Bool.{Bool, true, false, ◌&&◌}
use Prim.Native.Nat.{ℕ}
use native.Mathlib.Omega.{arith}
use lib.Dec.{leb, eqb}
use lib.Ieee.{Float, binary64, is_nan, to_bits}
use borrow.Author.Tests.{leb-true, ne_eqb}
use Rattle.std.specs.declared.option.Option.TheVariants.{None, Some}
use Rattle.paper.specs.Lists.{pick}
use Rattle.paper.specs.Numbers.{price_least, price_most}
use Rattle.paper.specs.Ranges.{is_price, price_made}
use Rattle.paper.specs.Floats.{exact_value, is_finite, is_above_zero, units_of, price_of_bits, price_of}
use Rattle.paper_desk.specs.External.{has_none, units_made}
use Rattle.paper.proofs.Logic.{and_left}

-- a float has no price exactly where the units of its price are 0
pub none_zero : (x : Float) → has_none (price_of x) ≡ eqb (units_made (price_of x)) 0
unfolding price_of price_of_bits price_made is_price has_none units_made
none_zero x =
    let bits = to_bits binary64 x in
    by_price (is_nan x) (is_finite bits && is_above_zero bits) (units_of (exact_value bits))
  where
    by_units : (units : ℕ) (t : Bool) → (leb price_least units && leb units price_most) ≡ t
        → has_none (pick t (Some (record { units = units })) None)
        ≡ eqb (units_made (pick t (Some (record { units = units })) None)) 0
    by_units units true e =
        let least = leb-true price_least units (and_left (leb price_least units) (leb units price_most) e) in
        sym (ne_eqb units 0 (λ (z : units ≡ 0). omega (arith, least)))
    by_units units false e = refl

    by_price : (nan above : Bool) (units : ℕ)
        → has_none (pick nan None (pick above (price_made units) None))
        ≡ eqb (units_made (pick nan None (pick above (price_made units) None))) 0
    by_price true above units = refl
    by_price false false units = refl
    by_price false true units = by_units units (leb price_least units && leb units price_most) refl
