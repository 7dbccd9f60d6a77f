-- The price and the rate of two plain numbers.
use Rattle.std.specs.Prelude.{◌&&◌, ℕ}
use Rattle.paper.specs.Lists.{pick}
use Rattle.paper.specs.Ranges.{is_price, is_rate}
use Rattle.paper.specs.declared.Price.{Price}
use Rattle.paper.specs.declared.Rate.{Rate}
use Rattle.std.specs.declared.option.Option.{Option}
use Rattle.std.specs.declared.option.Option.TheVariants.{None, Some}

-- both, where each number is in its range
unfoldable pub price_and_rate : (p rate : ℕ) → Option (Price × Rate)
price_and_rate p rate = pick (is_price p && is_rate rate) (Some (record { units = p }, record { bp = rate })) None
