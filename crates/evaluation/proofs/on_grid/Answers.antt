-- `evaluation::on_grid` meets its contract: it is in range where the price's constructor makes it.
use mathlib.Core.Path.{sym, ap, ◌∙◌}
use Rattle.paper.specs.Ranges.{price_made}
use Rattle.evaluation.proofs.Answers.{made_price_is_evaluated, price_out_of_range_is_beyond}
use Rattle.evaluation.proofs.on_grid.Goals as goal

pub returns : goal.returns
returns c = made_price_is_evaluated _ _ _ (sym c.in_ok-price.was ∙ (c.new.ensures ∙ ap price_made c.to_grid.ensures))

pub returns-in_err-price : goal.returns-in_err-price
returns-in_err-price c =
    c.from_residual.ensures
    ∙ price_out_of_range_is_beyond _ _ (sym c.in_err-price.was ∙ (c.new.ensures ∙ ap price_made c.to_grid.ensures))
