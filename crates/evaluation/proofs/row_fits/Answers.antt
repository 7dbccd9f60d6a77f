-- `evaluation::row_fits` meets its contract: a row in roubles today fits, and of any other the tests are the paper's,
-- of the row's figures in roubles.
use mathlib.Core.Path.{sym, ◌∙◌}
use Rattle.paper_desk.specs.Evaluation.{roubles_of, row_fits}
use Rattle.evaluation.proofs.Prices.{today_fits}
use Rattle.evaluation.proofs.row_fits.Goals as goal

pub returns-then-is_rouble_today : goal.returns-then-is_rouble_today
returns-then-is_rouble_today c = today_fits _ (sym c.is_rouble_today.ensures ∙ c.if-is_rouble_today.true) c.requires.in_range

pub returns : goal.returns
unfolding row_fits roubles_of
returns c =
    rw (
      c.is_price-3.ensures,
      c.is_price-2.ensures,
      c.is_price.ensures,
      c.requires.r_value,
    )
