-- `session_message` meets its contract: the message's numbers, place by place.
use Rattle.paper_messages.specs.Records.{session_message}
use Rattle.message_records.proofs.session_message.Goals as goal

pub returns : goal.returns
unfolding session_message
returns c = rw c.last_day.ensures at c.message_of.ensures
