-- `text_call::outside_of` meets its contract: each float is that of its place.
use Rattle.text_protocol.specs.Names.{the, place_of, outside_names, code}
use Rattle.text_protocol.specs.Calls.{outside_of}
use Rattle.text_call.proofs.outside_of.Goals as goal

pub returns : goal.returns
unfolding outside_of the place_of outside_names code
returns c = rw (c.float_at.ensures, c.float_at-2.ensures)
