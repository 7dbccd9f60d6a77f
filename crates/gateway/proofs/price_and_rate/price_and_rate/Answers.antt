-- `price_and_rate::price_and_rate` meets its contract: both are made exactly where both numbers are in range.
use mathlib.Core.Path.{sym, ◌∙◌}
use Rattle.inputs.proofs.Made.{price_made_lem, price_unmade, rate_made_lem, rate_unmade}
use Rattle.gateway.specs.PriceAndRate.{price_and_rate}
use Rattle.gateway.proofs.price_and_rate.price_and_rate.Goals as goal

pub returns-in_err-price : goal.returns-in_err-price
unfolding price_and_rate
returns-in_err-price c = rw (c.from_residual.ensures, price_unmade _ (sym c.new.ensures ∙ c.in_err-price.was))

pub returns-in_err-rated : goal.returns-in_err-rated
unfolding price_and_rate
returns-in_err-rated c =
    rw (
      c.from_residual-in_err-rated.ensures,
      (price_made_lem _ _ (sym c.new.ensures ∙ c.in_ok-price.was)).0,
      rate_unmade _ (sym c.new-2.ensures ∙ c.in_err-rated.was),
    )

pub returns : goal.returns
unfolding price_and_rate
returns c =
    let price = price_made_lem _ _ (sym c.new.ensures ∙ c.in_ok-price.was) in
    let rate = rate_made_lem _ _ (sym c.new-2.ensures ∙ c.in_ok-rated.was) in
    rw (price.1, rate.1, price.0, rate.0)
