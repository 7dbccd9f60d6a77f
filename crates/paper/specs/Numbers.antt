-- The numbers of document 01, "Units and ranges" and after, each by one name.
use Rattle.std.specs.Prelude.{ℕ, ℤ, pos, negsuc}

-- ---- units

-- "10,000 = 100 per cent": one, in basis points
abbrev pub one_in_bp : ℕ
one_in_bp = 10000

-- one, in the ten-thousandths in which the weights and w are given
abbrev pub one_in_ten_thousandths : ℕ
one_in_ten_thousandths = 10000

-- one, in the hundredths in which q, x_pr and shift are given
abbrev pub one_in_hundredths : ℕ
one_in_hundredths = 100

-- one, in the millionths in which a move and the volatility are given
abbrev pub one_in_millionths : ℕ
one_in_millionths = 1000000

-- a basis point, in millionths
abbrev pub millionths_in_bp : ℕ
millionths_in_bp = 100

-- a basis point, in the unit of q·s, hundredths of millionths: the 10,000 of "10,000·t ≥ q·s"
abbrev pub hundredths_of_millionths_in_bp : ℕ
hundredths_of_millionths_in_bp = 10000

-- "rouble 10,000": the rouble's central rate, in ten-thousandths
abbrev pub rouble : ℕ
rouble = 10000

-- "3,650,000": a year of 365 days at 100 per cent, in days times basis points
abbrev pub year_in_day_bp : ℕ
year_in_day_bp = 3650000

-- one, in the hundredths of a per cent in which a net evaluation and the limits of a bond are given (W-206)
abbrev pub one_in_per_cent_hundredths : ℕ
one_in_per_cent_hundredths = 10000

-- ---- the grid

-- "g = 100 units for lot 1, 10 for 2..10, 1 for 11..100": the greatest lot of the second grid, and the first two grids,
-- in units
abbrev pub lot_to_ten : ℕ
lot_to_ten = 10

abbrev pub grid_of_one : ℕ
grid_of_one = 100

abbrev pub grid_to_ten : ℕ
grid_to_ten = 10

-- the coarsest of the three is that of lot 1
abbrev pub coarsest_grid : ℕ
coarsest_grid = grid_of_one

-- ---- prices, rates, volatility

-- a price, in units
abbrev pub price_least : ℕ
price_least = 1

abbrev pub price_most : ℕ
price_most = 10000000000

-- a rate, in basis points
abbrev pub rate_most : ℕ
rate_most = 10000

-- the volatility, in millionths
abbrev pub volatility_most : ℕ
volatility_most = 1000000

-- "100,000 bp, the most that q and s can give" (W-208): q·s at its most, in basis points
abbrev pub tentative_most : ℕ
tentative_most = 100000

-- ---- statics

-- the lot
abbrev pub lot_most : ℕ
lot_most = 100

-- the step h, in basis points
abbrev pub step_most : ℕ
step_most = 1000

-- the multiplier q, in hundredths
abbrev pub multiplier_least : ℕ
multiplier_least = 100

abbrev pub multiplier_most : ℕ
multiplier_most = 1000

-- the weights a_up and a_down, in ten-thousandths
abbrev pub weight_most : ℕ
weight_most = 10000

-- the wait n, in trading days
abbrev pub wait_most : ℕ
wait_most = 250

-- rh_1, in days
abbrev pub first_days_most : ℕ
first_days_most = 5

-- rh_2 and rh_3, in days
abbrev pub days_most : ℕ
days_most = 30

-- liq, in basis points
abbrev pub liquidity_most : ℕ
liquidity_most = 500

-- the divisors x_pr and x_ir, in hundredths
abbrev pub divisor_least : ℕ
divisor_least = 50

abbrev pub divisor_most : ℕ
divisor_most = 1000

-- shift, in hundredths
abbrev pub shift_most : ℕ
shift_most = 100

-- w, in ten-thousandths
abbrev pub nearness_most : ℕ
nearness_most = 5000

-- u and u_evening, in seconds
abbrev pub seconds_most : ℕ
seconds_most = 3600

-- the evening maximum, and the evening moves made (W-210)
abbrev pub evening_moves_most : ℕ
evening_moves_most = 10

-- ---- records and the table

-- an id
abbrev pub id_most : ℕ
id_most = 1000000000

-- a day number
abbrev pub day_most : ℕ
day_most = 1000000

-- the age of the tentative rate, in trading days
abbrev pub age_most : ℕ
age_most = 250

-- a limit, in units: "2·10^12 + 2·10^10"
abbrev pub limit_most : ℕ
limit_most = 2020000000000

-- the moves of one side, c
abbrev pub moves_most : ℕ
moves_most = 50

-- a second of the session
abbrev pub second_last : ℕ
second_last = 86399

-- the last of the three levels, which count from 1
abbrev pub level_last : ℕ
level_last = 3

-- the slots of a table
abbrev pub slots_most : ℕ
slots_most = 512

-- ---- a day, its rows and its terms

-- b, in days
abbrev pub behind_most : ℕ
behind_most = 30

-- m, in days
abbrev pub ahead_most : ℕ
ahead_most = 10

-- k, in days
abbrev pub term_days_most : ℕ
term_days_most = 30

-- a repo rate, in basis points
abbrev pub repo_least : ℤ
repo_least = negsuc 9998

abbrev pub repo_most : ℤ
repo_most = pos 9999

-- the numbers of a row, and of the sixteen rows that a day may have
abbrev pub row_numbers : ℕ
row_numbers = 7

abbrev pub all_numbers_most : ℕ
all_numbers_most = 112

-- T of a row, in days
abbrev pub row_term_most : ℕ
row_term_most = 30

-- a central rate, in ten-thousandths
abbrev pub central_most : ℕ
central_most = 10000000

-- a volume, in thousands
abbrev pub volume_most : ℕ
volume_most = 100000000

-- ---- a quote

-- a quoted term
abbrev pub term_last : ℕ
term_last = 2

-- a quote's bid or ask, in units
abbrev pub quote_most : ℕ
quote_most = 100000000000

-- ---- the interest side (W-201)

-- the numbers of a key maturity, and of the eight that an evening may have
abbrev pub key_numbers : ℕ
key_numbers = 8

abbrev pub all_key_numbers_most : ℕ
all_key_numbers_most = 64

-- the days of a key maturity or of a term of a pair
abbrev pub maturity_most : ℕ
maturity_most = 365

-- MMΔ, SECΔ and the liquidity of repo, in basis points
abbrev pub minimum_most : ℕ
minimum_most = 9999

-- the volatility of a repo rate, in basis points
abbrev pub repo_volatility_most : ℕ
repo_volatility_most = 19998

-- the tentative rate of a repo rate, in basis points
abbrev pub repo_tentative_most : ℕ
repo_tentative_most = 200979

-- ---- 64-bit numbers

-- the greatest 64-bit number: no range of the paper holds it
abbrev pub past_every : ℕ
past_every = 18446744073709551615
