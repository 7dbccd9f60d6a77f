-- `limit::range_answer` meets its contract: it is the limit's call of a range.
use mathlib.Core.Path.{◌∙◌}
use mir.Facts.{to_z-of_z}
use mir.Syntax.{w64}
use Rattle.paper_desk.specs.Gateway.{range_call}
use Rattle.gateway.specs.LimitCalls.{limit_in_range, limit_figure, limit_call}
use Rattle.gateway.proofs.limit.range_answer.Goals as goal

pub returns : goal.returns
unfolding range_call limit_call limit_in_range limit_figure
returns c = to_z-of_z {w = w64} (record { sfits = c.limit_answer.type_inv }) ∙ c.limit_answer.ensures
