-- `statics_message` meets its contract: the message's numbers, place by place.
use Rattle.paper_messages.specs.Records.{statics_message}
use Rattle.message_records.proofs.statics_message.Goals as goal

pub returns : goal.returns
unfolding statics_message
returns c =
    rw (c.from.ensures, c.from-2.ensures, c.from-3.ensures, c.from-4.ensures) at c.message_of.ensures
