-- `text_call::quote_of` meets its contract: each number is read at the place that its name has among `quote_names`.
use Rattle.text_protocol.specs.Names.{the, place_of, quote_names, code}
use Rattle.text_protocol.specs.Calls.{quote_of}
use Rattle.text_call.proofs.quote_of.Goals as goal

pub returns : goal.returns
unfolding quote_of the place_of quote_names code
returns c =
    rw (
      c.number_at.ensures,
      c.number_at-2.ensures,
      c.number_at-3.ensures,
      c.number_at-4.ensures,
    )
