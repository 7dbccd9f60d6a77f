-- The numbers of document 02, W-206, each by one name.
use Rattle.std.specs.Prelude.{ℕ}

-- the net evaluation, in hundredths of a per cent: "1 to 30,000"
abbrev pub net_most : ℕ
net_most = 30000

-- a face value, an accrued interest or a cash flow, in units: "0 to 10^10"
abbrev pub money_most : ℕ
money_most = 10000000000

-- the numbers of a cash flow, and of the four that a bond may have
abbrev pub flow_numbers : ℕ
flow_numbers = 2

abbrev pub all_flow_numbers_most : ℕ
all_flow_numbers_most = 8

-- the day of a cash flow: "days 1..30"
abbrev pub flow_day_least : ℕ
flow_day_least = 1

abbrev pub flow_day_most : ℕ
flow_day_most = 30

-- "their 20 per cent", in basis points
abbrev pub off_book : ℕ
off_book = 2000
