-- `message` meets its contract: the values, and zeros past the last.
use Rattle.paper_messages.specs.Records.{message}
use Rattle.paper_messages.specs.Fields.{filled}
use Rattle.std.proofs.lemmas.List.{drop-replicate}
use lib.IntN.{pos}
use lib.ListN.{length}
use Rattle.message_records.proofs.message.Goals as goal

pub returns : goal.returns
unfolding message filled
returns c = rw (c.copy_from_slice.ensures.after, drop-replicate (length c.args.values.now) 27 (pos 0))
