-- `listen_serve::feed_after` meets its contract: the stream, and whether the message may stand.
use mathlib.Core.Path.{refl}
use Rattle.listen_serve.specs.Steps.{feed_after}
use Rattle.listen_serve.proofs.feed_after.Goals as goal

pub returns : goal.returns
unfolding feed_after
returns c =
    rw (c.stands_alone.ensures, c.stream_after.ensures) refl
