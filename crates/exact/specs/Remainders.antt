-- How the code rounds: by the remainder, which takes the quotient to the next whole number or leaves it, one law each
-- over the way; and half up by one quotient alone.
use Rattle.std.specs.Prelude.{◌≡◌, refl, Bool, true, false, ℕ, ◌+◌, ◌-◌, ◌/◌, ◌%◌, ◌<◌, leb, ltb}
use Rattle.std.proofs.Common.{div-add-mod', mod-lt, arith, leb-true, leb-false, ltb-true, ltb-false}
use Rattle.paper.specs.declared.Way.{Way}
use Rattle.paper.specs.declared.Way.TheVariants.{Down, HalfUp, Up}
use Rattle.paper.specs.Roundings.{half_up, rounded, Rounded}
use Rattle.paper.proofs.Logic.{not_true_and_false}
use Rattle.paper.proofs.Roundings.{quotient_low, quotient_high, half_unique, rounded_is, rounded_unique}

-- whether n/d goes on to the next whole number, of the remainder n % d
abbrev pub goes_up : Way → (rest d : ℕ) → Bool
goes_up Down rest d = false
goes_up HalfUp rest d = leb (d - rest) rest
goes_up Up rest d = ltb 0 rest

-- it never does where the division is exact, so a divisor of 1 adds nothing
pub goes_up_some : (way : Way) (rest d : ℕ) → rest < d → goes_up way rest d ≡ true → 0 < rest
goes_up_some Down rest d l e = absurd (not_true_and_false false e refl)
goes_up_some HalfUp rest d l e = omega (arith, leb-true (d - rest) rest e)
goes_up_some Up rest d l e = ltb-true 0 rest e

-- a number that stands where the rounding stands is it
one_rounding : (way : Way) (n d q : ℕ) → 0 < d → Rounded way q (record { num = n; den = d }) → q ≡ rounded way n d
one_rounding way n d q h u =
    rounded_unique way q (rounded way n d) (record { num = n; den = d }) u (rounded_is way n d h)

pub rounded_next : (way : Way) (n d : ℕ) → 0 < d → goes_up way (n % d) d ≡ true → n / d + 1 ≡ rounded way n d
rounded_next way n d h e = one_rounding way n d (n / d + 1) h (next way e)
  where
    next : (way : Way) → goes_up way (n % d) d ≡ true → Rounded way (n / d + 1) (record { num = n; den = d })
    next Down e = absurd (not_true_and_false false e refl)
    next HalfUp e =
        record {
          positive = h;
          not_above = omega (arith, div-add-mod' n d, leb-true (d - n % d) (n % d) e);
          not_below = omega (arith, div-add-mod' n d, mod-lt n h);
        }
    next Up e =
        record {
          positive = h;
          not_above = omega (arith, div-add-mod' n d, ltb-true 0 (n % d) e);
          not_below = omega (arith, div-add-mod' n d, mod-lt n h);
        }

pub rounded_stays : (way : Way) (n d : ℕ) → 0 < d → goes_up way (n % d) d ≡ false → n / d ≡ rounded way n d
rounded_stays way n d h e = one_rounding way n d (n / d) h (stays way e)
  where
    stays : (way : Way) → goes_up way (n % d) d ≡ false → Rounded way (n / d) (record { num = n; den = d })
    stays Down e =
        record {
          positive = h;
          not_above = omega (arith, div-add-mod' n d);
          not_below = omega (arith, div-add-mod' n d, mod-lt n h);
        }
    stays HalfUp e =
        record {
          positive = h;
          not_above = omega (arith, div-add-mod' n d);
          not_below = omega (arith, div-add-mod' n d, mod-lt n h, leb-false (d - n % d) (n % d) e);
        }
    stays Up e =
        record {
          positive = h;
          not_above = omega (arith, div-add-mod' n d);
          not_below = omega (arith, div-add-mod' n d, ltb-false 0 (n % d) e);
        }

-- half up by one quotient: half of d, rounded down, is added to n first. Where d is odd there is no tie, and what the
-- rounding of the half takes away decides nothing
pub one_quotient_is_half_up : (n d : ℕ) → 0 < d → (n + d / 2) / d ≡ half_up n d
one_quotient_is_half_up n d h =
    half_unique n d ((n + d / 2) / d) h
    (omega (arith, quotient_low (n + d / 2) d h))
    (omega (arith, quotient_high (n + d / 2) d h))
