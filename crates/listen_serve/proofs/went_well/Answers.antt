-- `listen_serve::went_well` meets its contract: it asks the evidence.
use Rattle.listen_serve.proofs.went_well.Goals as goal

pub returns : goal.returns
returns c = rw (c.has_failed.ensures, c.took_all.ensures, c.all.ensures)
