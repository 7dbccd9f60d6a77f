-- `fields::is_unfit` meets its contract: the tests of the code are the definition's.
use Rattle.record_reasons.proofs.fields.is_unfit.Goals as goal

pub returns : goal.returns
returns c = rw c.is_off.ensures
