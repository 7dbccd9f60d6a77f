-- What the volatility's rule chooses (7.1), by the test of x: the replacement where it passes, and x where it does not,
-- each with its flag.
use mathlib.Core.Path.{◌≡◌}
use mathlib.Core.Bool.{Bool, true, false}
use Prim.Native.Nat.{ℕ}
use Rattle.paper.specs.declared.Model.{Model}
use Rattle.paper_desk.specs.Rates.{weight_of, weighted, replacement, replaces, replacement_wins, volatility_of}
use Rattle.rates.specs.declared.volatility.Volatility.{Volatility}
use Rattle.rates.specs.Chosen.{chosen}

-- what is chosen, by whether the replacement is
module _ (m : Model) (b last r s x : ℕ) (e : x ≡ weighted (weight_of m b r s) s r) where
  wins : (t : Bool) → replaces m b r last x ≡ t → replacement_wins m b r last s ≡ t
  wins t f = rw (← e) f

  pub replaced : replaces m b r last x ≡ true
      → ◌≡◌ {A = Volatility} (record { s = replacement m.q r; replaced = true }) (chosen m b last r s)
  unfolding volatility_of
  replaced f = rw (wins true f)

  pub not_replaced : replaces m b r last x ≡ false
      → ◌≡◌ {A = Volatility} (record { s = x; replaced = false }) (chosen m b last r s)
  unfolding volatility_of
  not_replaced f = rw (wins false f, e)
