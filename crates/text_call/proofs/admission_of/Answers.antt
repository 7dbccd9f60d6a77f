-- `text_call::admission_of` meets its contract: each number is read at the place that its name has among
-- `admit_names`, and the statics are those of the numbers behind.
use Rattle.text_protocol.specs.Names.{the, place_of, admit_names, code}
use Rattle.text_protocol.specs.Calls.{admission_of}
use Rattle.text_call.proofs.admission_of.Goals as goal

pub returns : goal.returns
unfolding admission_of the place_of admit_names code
returns c =
    rw (
      c.number_at.ensures,
      c.number_at-2.ensures,
      c.number_at-3.ensures,
      c.number_at-4.ensures,
      c.number_at-5.ensures,
      c.number_at-6.ensures,
      c.given_of.ensures,
      c.figures.ensures,
    )
