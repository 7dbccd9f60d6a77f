-- `price_of_bits` meets its contract: on either side there is no price, and between them the quotient that is rounded
-- is the value in units.
use mathlib.Core.Path.{◌≡◌, sym, ap, ◌∙◌}
use Prim.Native.Nat.{ℕ, ◌-◌, ◌*◌, ◌/◌, ◌%◌, ◌^◌, ◌≤◌}
use native.Mathlib.Nat.{one-mul, mod-eq_of_lt}
use native.Mathlib.Omega.{arith}
use lib.Pow.{pow_pos, pow-lt}
use Rattle.paper.specs.Ranges.{price_made}
use Rattle.paper.specs.Floats.{leading_one}
use Rattle.record_calls.proofs.Exponents.{whole_exponent, least_exponent, low_refused, high_refused, between_price}
use Rattle.record_calls.proofs.floats.price_of_bits.Goals as goal

-- nothing is shifted out: the least exponent leaves at most 63
shifted : (bits : ℕ) → least_exponent ≤ bits / leading_one
    → 1 * 2 ^ (whole_exponent - bits / leading_one) % 2 ^ 64 ≡ 2 ^ (whole_exponent - bits / leading_one)
shifted bits l =
    rw (one-mul (2 ^ (whole_exponent - bits / leading_one)))
    (mod-eq_of_lt (pow-lt {i = whole_exponent - bits / leading_one} {j = 64} (omega arith)))

pub returns-then-top-lt-LEAST_EXPONENT : goal.returns-then-top-lt-LEAST_EXPONENT
returns-then-top-lt-LEAST_EXPONENT c = sym (low_refused _ c.if-top-lt-LEAST_EXPONENT.true)

pub returns-then-top-gt-WHOLE_EXPONENT : goal.returns-then-top-gt-WHOLE_EXPONENT
returns-then-top-gt-WHOLE_EXPONENT c = sym (high_refused _ c.if-top-gt-WHOLE_EXPONENT.true)

pub half_up-units-requires : goal.half_up-units-requires
half_up-units-requires c = rw (shifted c.args.bits c.if-top-lt-LEAST_EXPONENT.false) (pow_pos _)

pub returns : goal.returns
returns c =
    let bits = c.args.bits in
    c.new.ensures
    ∙ ap price_made (rw (shifted bits c.if-top-lt-LEAST_EXPONENT.false) at c.half_up-units.ensures)
    ∙ sym (between_price bits c.if-top-lt-LEAST_EXPONENT.false c.if-top-gt-WHOLE_EXPONENT.false)
