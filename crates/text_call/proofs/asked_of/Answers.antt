-- `text_call::asked_of` meets its contract: the day that an evaluation asks for.
use Rattle.text_protocol.specs.Names.{the, place_of, evaluate_names, code}
use Rattle.text_protocol.specs.Calls.{term_of, asked_of}
use Rattle.text_call.proofs.asked_of.Goals as goal

pub returns : goal.returns
unfolding asked_of term_of the place_of evaluate_names code
returns c =
    rw (
      c.number_at.ensures,
      c.number_at-2.ensures,
      c.number_at-3.ensures,
      c.term_of.ensures,
      c.term_of-2.ensures,
      c.term_of-3.ensures,
    )
