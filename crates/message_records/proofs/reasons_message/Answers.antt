-- `reasons_message` meets its contract: the message's numbers, place by place.
use Rattle.paper_messages.specs.Records.{reasons_message}
use Rattle.message_records.proofs.reasons_message.Goals as goal

pub returns : goal.returns
unfolding reasons_message
returns c =
    rw (
      c.last_day.ensures,
      c.number.ensures,
      c.number-2.ensures,
      c.number-3.ensures,
      c.number-4.ensures,
      c.number-5.ensures,
      c.number-6.ensures,
      c.number-7.ensures,
    ) at c.message_of.ensures
