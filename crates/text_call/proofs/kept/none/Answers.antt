-- `text_call::kept::none` meets its contract: the same pair three times.
use Rattle.text_call.proofs.kept.none.Goals as goal

pub returns : goal.returns
returns c = rw c.unknown.ensures
