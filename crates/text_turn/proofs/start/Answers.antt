-- `text_turn::start` meets its contract: at the start nothing is read and nothing waits, and of a stream `begin` is told.
use Rattle.text_evening.proofs.StreamedLaws.{begun_is}
use Rattle.text_turn.proofs.start.Goals as goal

pub returns : goal.returns
returns c = rw (c.unread.ensures, c.none.ensures, c.unwritten.ensures, begun_is)
