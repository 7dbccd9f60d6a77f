-- What an evaluation (6.1) answers: the paper's figure, or that 7 refuses it.
use Rattle.std.specs.Prelude.{Bool, ◌&&◌, List, map, ℕ, ◌+◌, ◌-◌, ◌*◌, ◌≤◌, eqb, Option, Some, None}
use Rattle.paper.specs.declared.External.{External}
use Rattle.paper.specs.declared.Row.{Row}
use Rattle.paper.specs.declared.Roubles.{Roubles}
use Rattle.paper.specs.Lists.{pick}
use Rattle.paper.specs.Numbers.{rouble, year_in_day_bp, price_most, central_most}
use Rattle.paper.specs.Ranges.{is_price}
use Rattle.paper_desk.specs.Evaluation.{roubles_of, weights, close_of, bid_of, ask_of, evaluation_of, evaluation_fits}
use Rattle.exact.specs.SignedLaws.{growth_most}
use Rattle.evaluation.specs.declared.PriceFigures.{PriceFigures}
use Rattle.evaluation.specs.declared.Priced.{Priced}

-- the figures that a price is chosen from: BID and ASK with the outside prices that count (W-211)
unfoldable pub price_figures : (previous : ℕ) → (used : External) → List Roubles → PriceFigures
price_figures previous used rs =
    record { weight = weights rs; close = close_of previous rs; bid = bid_of used rs; ask = ask_of used rs }

-- the evaluation, and the figures that it was chosen from
unfoldable pub priced_of : (g previous : ℕ) → (used : External) → List Row → Priced
priced_of g previous used rows =
    record {
      price = record { units = evaluation_of g previous used rows };
      figures = price_figures previous used (map roubles_of rows);
    }

-- 7: "a rounded row price, or the evaluation, is 0 or above 10^10; a rounded row volume is above 10^8"; else the
-- evaluation
unfoldable pub evaluation_made : (g previous : ℕ) → (used : External) → List Row → Option Priced
evaluation_made g previous used rows =
    pick (evaluation_fits g previous used rows) (Some (priced_of g previous used rows)) None

-- the same of the evaluation alone, where every row's figures are in range
unfoldable pub evaluation_from : (units : ℕ) → PriceFigures → Option Priced
evaluation_from units figures =
    pick (is_price units) (Some (record { price = record { units = units }; figures = figures })) None

-- the ranges of a price times its central rate, and of a year's days with the repo rate of T of them
pub record Discounts (x days : ℕ) : Type 0 where
  pub product : x ≤ price_most * central_most
  pub low : year_in_day_bp - growth_most ≤ days
  pub high : days ≤ year_in_day_bp + growth_most

-- ---- W-214: which way a row is converted. Each way gives the row's figures in roubles as document 01 defines them

-- the days of a year: 3,650,000/10^4
abbrev pub year_days : ℕ
year_days = 365

-- a row in roubles today, whose numbers (a) and (b) leave as they are
abbrev pub is_rouble_today : Row → Bool
is_rouble_today row = eqb row.central rouble && eqb row.t 0

-- the greatest central rate with which a price is converted by one quotient
abbrev pub once_central_most : ℕ
once_central_most = 5000000

-- the ranges of a price, of 365 times its central rate, and of a year's days with the repo rate of T of them, so that
-- the first two multiplied, with half of the third, fit 64 bits
pub record Once (p f days : ℕ) : Type 0 where
  pub price : p ≤ price_most
  pub factor : f ≤ once_central_most * year_days
  pub low : year_in_day_bp - growth_most ≤ days
  pub high : days ≤ year_in_day_bp + growth_most
