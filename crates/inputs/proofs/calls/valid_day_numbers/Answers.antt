-- `inputs::valid_day_numbers` meets its contract: the numbers are tested as the definition tests them, and the terms by
-- `valid_terms`.
use Rattle.inputs.proofs.calls.valid_day_numbers.Goals as goal

pub returns : goal.returns
returns c = rw c.valid_terms.ensures
