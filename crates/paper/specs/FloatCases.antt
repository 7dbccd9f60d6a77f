-- W-211's floats in figures: each line has the 64 bits of a float and the units of its price, 0 where it is none; then
-- what the floats next to zero are worth. It may use Floats.
use Rattle.std.specs.Prelude.{◌≡◌, refl, List, [], ◌∷◌, map, ℕ}
use Rattle.std.specs.Float.{binary64}
use Rattle.std.specs.Float.Ieee.{of_bits, to_bits, is_nan}
use Rattle.std.specs.declared.option.Option.{Option}
use Rattle.std.specs.declared.option.Option.TheVariants.{None, Some}
use Rattle.paper.specs.declared.Price.{Price}
use Rattle.paper.specs.Roundings.{half_up}
use Rattle.paper.specs.Ranges.{is_price, price_made}
use Rattle.paper.specs.Floats.{significand, exact_value, is_above_zero, units_of, price_of_bits, price_of}

-- the units of a price, and 0 of none: no price is 0
abbrev pub units_shown : Option Price → ℕ
units_shown (Some price) = price.units
units_shown None = 0

record Line : Type 0 where
  bits : ℕ
  units : ℕ

line : (bits units : ℕ) → Line
line bits units = record { bits = bits; units = units }

-- ---- roundings

roundings : List Line
unfolding line
roundings =
    -- 103.25, and the floats before and after it
    line 0x4059_cfff_ffff_ffff 1032500
    ∷ line 0x4059_d000_0000_0000 1032500
    ∷ line 0x4059_d000_0000_0001 1032500
    -- 1/32, which is 312.5 units, a tie, and the floats before and after it
    ∷ line 0x3f9f_ffff_ffff_ffff 312
    ∷ line 0x3fa0_0000_0000_0000 313
    ∷ line 0x3fa0_0000_0000_0001 313
    -- 3/32, which is 937.5 units: a tie goes up to the even number too
    ∷ line 0x3fb8_0000_0000_0000 938
    -- the float nearest to 0.00015 is a little below it, and the next one above it
    ∷ line 0x3f23_a92a_3055_3261 1
    ∷ line 0x3f23_a92a_3055_3262 2
    -- the float nearest to 1.00005 is a little above it, and the one before it is below
    ∷ line 0x3ff0_0034_6dc5_d638 10000
    ∷ line 0x3ff0_0034_6dc5_d639 10001
    ∷ []

-- ---- "rounds to 0 or above 10^10 units"

ends : List Line
unfolding line
ends =
    -- the float nearest to 0.00005 is a little above it; the one before it rounds to 0
    line 0x3f0a_36e2_eb1c_432c 0
    ∷ line 0x3f0a_36e2_eb1c_432d 1
    ∷ line 0x3f0a_36e2_eb1c_432e 1
    -- 10^6 roubles, and the floats before and after it
    ∷ line 0x412e_847f_ffff_ffff 10000000000
    ∷ line 0x412e_8480_0000_0000 10000000000
    ∷ line 0x412e_8480_0000_0001 10000000000
    -- the last float below 10^10 units and a half, and the next
    ∷ line 0x412e_8480_0006_8db8 10000000000
    ∷ line 0x412e_8480_0006_8db9 0
    -- the least float above zero, the greatest without its leading one, the least with it, the greatest
    ∷ line 0x0000_0000_0000_0001 0
    ∷ line 0x000f_ffff_ffff_ffff 0
    ∷ line 0x0010_0000_0000_0000 0
    ∷ line 0x7fef_ffff_ffff_ffff 0
    ∷ []

-- ---- "isn't finite, isn't above zero"

refusals : List Line
unfolding line
refusals =
    -- zero and the zero that has a minus
    line 0x0000_0000_0000_0000 0
    ∷ line 0x8000_0000_0000_0000 0
    -- -103.25 and -1/32
    ∷ line 0xc059_d000_0000_0000 0
    ∷ line 0xbfa0_0000_0000_0000 0
    -- the infinities
    ∷ line 0x7ff0_0000_0000_0000 0
    ∷ line 0xfff0_0000_0000_0000 0
    -- no numbers: the plain one, the first pattern and the last
    ∷ line 0x7ff8_0000_0000_0000 0
    ∷ line 0x7ff0_0000_0000_0001 0
    ∷ line 0xffff_ffff_ffff_ffff 0
    ∷ []

-- ---- the float of each line has the price of the line

found : Line → ℕ
unfolding price_of price_of_bits significand exact_value is_above_zero units_of half_up is_price price_made is_nan to_bits of_bits
found l = units_shown (price_of (of_bits binary64 l.bits))

roundings_are : map found roundings ≡ map (λ l. l.units) roundings
unfolding line roundings found
roundings_are = refl

ends_are : map found ends ≡ map (λ l. l.units) ends
unfolding line ends found
ends_are = refl

refusals_are : map found refusals ≡ map (λ l. l.units) refusals
unfolding line refusals found
refusals_are = refl

-- ---- no price shows what the floats next to zero are worth, so their values stand here, in 2^-1,075ths: the least and
-- the next, the greatest without a leading one, the least with it, and the first of the exponent 2

next_to_zero : List ℕ
unfolding exact_value significand
next_to_zero =
    map (λ bits. (exact_value bits).num)
    (0x0000_0000_0000_0001
    ∷ 0x0000_0000_0000_0002
    ∷ 0x000f_ffff_ffff_ffff
    ∷ 0x0010_0000_0000_0000
    ∷ 0x0020_0000_0000_0000
    ∷ [])

next_to_zero_is : next_to_zero ≡ 2 ∷ 4 ∷ 9007199254740990 ∷ 9007199254740992 ∷ 18014398509481984 ∷ []
unfolding next_to_zero
next_to_zero_is = refl
