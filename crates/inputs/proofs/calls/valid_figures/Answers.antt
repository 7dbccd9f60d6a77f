-- `inputs::valid_figures` meets its contract: each test is the one that the definition names.
use Rattle.inputs.proofs.calls.valid_figures.Goals as goal

pub returns : goal.returns
returns c = rw (
  c.is_grid_price.ensures,
  c.is_grid_price-2.ensures,
  c.valid_tentative.ensures,
)
