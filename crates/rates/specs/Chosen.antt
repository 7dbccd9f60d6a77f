-- What the volatility's rule chooses (7.1), in the form that the code hands on.
use Rattle.std.specs.Prelude.{ℕ}
use Rattle.paper.specs.declared.Model.{Model}
use Rattle.paper_desk.specs.Rates.{volatility_of, replacement_wins}
use Rattle.rates.specs.declared.volatility.Volatility.{Volatility}

-- new s, and whether it is the replacement
abbrev pub chosen : Model → (b last r s : ℕ) → Volatility
chosen m b last r s = record { s = volatility_of m b r last s; replaced = replacement_wins m b r last s }
