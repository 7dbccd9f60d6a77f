-- `record_calls::units_of` meets its contract: each arm rewrites with the price that it matched.
use mathlib.Core.Path.{sym, ◌∙◌}
use Rattle.paper_desk.specs.External.{units_made}
use Rattle.record_calls.proofs.units_of.Goals as goal

pub returns-in-Some : goal.returns-in-Some
unfolding units_made
returns-in-Some c = rw (sym c.price_of-made.ensures ∙ c.in-Some.is)

pub returns-in-None : goal.returns-in-None
unfolding units_made
returns-in-None c = rw (sym c.price_of-made.ensures ∙ c.in-None.is)
