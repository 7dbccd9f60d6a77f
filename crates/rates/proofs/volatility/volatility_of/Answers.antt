-- `volatility::volatility_of` meets its contract: of what is chosen, the figure.
use mathlib.Core.Path.{ap}
use Rattle.rates.specs.declared.volatility.Volatility.{Volatility}
use Rattle.rates.proofs.volatility.volatility_of.Goals as goal

pub returns : goal.returns
returns c = ap (λ (v : Volatility). v.s) c.choose-new.ensures
