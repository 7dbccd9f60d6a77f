-- `rates_message` meets its contract: the message's numbers, place by place.
use Rattle.paper_messages.specs.Records.{rates_message}
use Rattle.message_records.proofs.rates_message.Goals as goal

pub returns : goal.returns
unfolding rates_message
returns c = rw c.last_day.ensures at c.message_of.ensures
