-- `inputs::is_grid_price` meets its contract: the range is judged by `is_price`, and the grid by `is_on_grid`.
use Rattle.paper.specs.Ranges.{is_grid_price}
use Rattle.inputs.proofs.prices.is_grid_price.Goals as goal

pub returns : goal.returns
unfolding is_grid_price
returns c = rw (c.is_price.ensures, c.is_on_grid.ensures)
