-- `out_of_range` meets its contract: a row is named before a term.
use Rattle.record_reasons.proofs.AtFault.{out_of_range_is}
use Rattle.record_reasons.proofs.faults.out_of_range.Goals as goal

pub returns : goal.returns
returns c =
    rw (
      c.or.ensures,
      c.first_term.ensures,
      c.valid_term-3.ensures,
      c.valid_term-2.ensures,
      c.valid_term.ensures,
      c.whole_row.ensures,
    )
    (out_of_range_is _ _)
