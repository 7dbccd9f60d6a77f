-- `field_count` meets its contract: its row has them, and no kind has more fields than places.
use mathlib.Core.Path.{ap}
use lib.ListN.{length}
use Rattle.paper_messages.specs.Fields.{fields_of}
use Rattle.messages.proofs.Rows.{count_within_places}
use Rattle.messages.proofs.kinds.field_count.Goals as goal

pub returns : goal.returns
unfolding fields_of
returns c = (ap length c.kind_of.ensures.fields, rw (ap length c.kind_of.ensures.fields) (count_within_places c.args.kind))
