-- `move_message` meets its contract: the message's numbers, place by place.
use Rattle.paper_messages.specs.Records.{move_message}
use Rattle.message_records.proofs.move_message.Goals as goal

pub returns : goal.returns
unfolding move_message
returns c =
    rw (
      c.number.ensures,
      c.count_of.ensures,
      c.limit_on.ensures,
      c.limit_on-2.ensures,
      c.limit_on-3.ensures,
      c.limit_on-4.ensures,
      c.limit_on-5.ensures,
      c.limit_on-6.ensures,
    ) at c.message_of.ensures
