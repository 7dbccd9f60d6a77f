-- The ranges of a product that does not fit 64 bits, and of its divisor.
use Rattle.std.specs.Prelude.{ℕ, ◌+◌, ◌*◌, ◌^◌, ◌≤◌, ◌<◌}
use Rattle.paper.specs.Numbers.{one_in_bp, coarsest_grid, one_in_hundredths, year_in_day_bp, price_most, rate_most, divisor_least}
use Rattle.paper.specs.Numbers.{divisor_most, shift_most, moves_most}
use Rattle.exact.specs.SignedLaws.{growth_most}

-- x·n can be divided by e in 64 bits: a digit of n times a remainder fits, and the quotient is below 2^63
pub record Divides (x n e : ℕ) : Type 0 where
  pub positive : 0 < e
  pub divisor : e ≤ 2 ^ 52
  pub factor : n < 2 ^ 22
  pub quotient : x * n < e * 2 ^ 63

-- the greatest spread x_pr + e·S_1: 111,000,000
abbrev pub spread_most : ℕ
spread_most = one_in_bp * divisor_most + (one_in_hundredths + 2 * moves_most * shift_most) * rate_most

-- the greatest year with a term's repo rate: 3,950,000
abbrev pub year_most : ℕ
year_most = year_in_day_bp + growth_most

-- the least and the greatest divisor of a spread and a year: 1,825,000,000,000 and 36,500,000,000,000
abbrev pub scale_least : ℕ
scale_least = one_in_bp * divisor_least * year_in_day_bp

abbrev pub scale_most : ℕ
scale_most = one_in_bp * divisor_most * year_in_day_bp

-- a limit p·a·b/d on the grid g, of place (g): p the price, a the spread, b the year with the repo rate, d the divisor
-- of both
pub record LimitRange (g p a b d : ℕ) : Type 0 where
  pub grid : 0 < g
  pub coarse : g ≤ coarsest_grid
  pub price : p ≤ price_most
  pub first : a ≤ spread_most
  pub second : b ≤ year_most
  pub low : scale_least ≤ d
  pub high : d ≤ scale_most
