-- `bands_message` meets its contract: the message's values, place by place.
use Rattle.paper_messages.specs.Records.{bands_message, message, value_of}
use Rattle.paper_messages.specs.Fields.{filled}
use Rattle.message_records.proofs.bands_message.Goals as goal

pub returns : goal.returns
unfolding bands_message message filled value_of
returns c =
    rw (
      c.with_repo-fields-3.ensures,
      c.with_repo-fields-2.ensures,
      c.with_repo-fields.ensures,
      c.message_of-m.ensures,
      c.last_day.ensures,
    )
