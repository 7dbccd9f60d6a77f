-- `listen_serve::is_whole` meets its contract: it asks what is kept of the streams, and the evidence.
use mathlib.Core.Path.{refl}
use Rattle.listen_serve.proofs.is_whole.Goals as goal

pub returns : goal.returns
returns c =
    rw c.all.ensures refl
