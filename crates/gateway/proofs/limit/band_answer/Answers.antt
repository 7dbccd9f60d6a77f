-- `limit::band_answer` meets its contract: it is the limit's call of a band.
use mathlib.Core.Path.{◌∙◌}
use mir.Facts.{to_z-of_z}
use mir.Syntax.{w64}
use Rattle.paper_desk.specs.Gateway.{band_call}
use Rattle.gateway.specs.LimitCalls.{limit_in_range, limit_figure, limit_call}
use Rattle.gateway.proofs.limit.band_answer.Goals as goal

pub returns : goal.returns
unfolding band_call limit_call limit_in_range limit_figure
returns c =
    to_z-of_z {w = w64} (record { sfits = c.limit_answer.type_inv })
    ∙ (rw (to_z-of_z c.ranges.repo) at c.limit_answer.ensures)
