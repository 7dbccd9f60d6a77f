-- `volatility::replacement` meets its contract: the least y with y·q ≥ 100·r is 100·r/q rounded up.
use mathlib.Core.Path.{sym, ◌∙◌}
use Rattle.paper_desk.specs.Rates.{replacement}
use Rattle.paper.proofs.Roundings.{times_is_up}
use Rattle.rates.proofs.volatility.replacement.Goals as goal

pub returns : goal.returns
unfolding replacement
returns c = c.up.ensures ∙ sym (times_is_up _ _ c.requires.0)
