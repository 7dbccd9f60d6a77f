-- `listen_serve::no_feed` meets its contract.
use mathlib.Core.Path.{refl}
use Rattle.listen_serve.proofs.no_feed.Goals as goal

pub returns : goal.returns
returns c =
    rw c.no_stream.ensures refl
