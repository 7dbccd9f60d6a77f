-- `listen_serve::start` meets its contract.
use mathlib.Core.Path.{refl}
use Rattle.listen_serve.proofs.start.Goals as goal

pub returns : goal.returns
returns c =
    rw (c.no_feed.ensures, c.unread.ensures, c.unwritten.ensures) refl
