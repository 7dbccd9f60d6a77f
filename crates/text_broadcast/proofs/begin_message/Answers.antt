-- `begin_message` meets its contract: the format's version is its value.
use Rattle.paper_streams.specs.Streams.{begin_message}
use Rattle.text_broadcast.proofs.begin_message.Goals as goal

pub returns : goal.returns
unfolding begin_message
returns c = c.message.ensures
