-- `listen_lines::say_fields` meets its contract: the word, the fields and the end of the line.
use mathlib.Core.Path.{sym}
use native.Mathlib.Omega.{arith}
use lib.Seq.{length-take-le}
use Rattle.listen_lines.proofs.LineParts.{word_line_written, fields_line_written}
use borrow.Author.Rules.{rules}
use Rattle.listen_lines.proofs.say_fields.Goals as goal

pub slice_bounds-put_numbers-end : goal.slice_bounds-put_numbers-end
slice_bounds-put_numbers-end c =
    sym (length-take-le _ _ (omega (arith, c.field_count-count.ensures.1)))

pub put_numbers-n-requires : goal.put_numbers-n-requires
put_numbers-n-requires c = (
  search rules,
  omega (
    arith,
    length-take-le c.field_count-count.result c.args.m.fields
        (omega (arith, c.field_count-count.ensures.1)),
    c.field_count-count.ensures.1,
  ),
)

pub returns : goal.returns
returns c =
    fields_line_written c.args.m c.field_count-count.result c.field_count-count.ensures.0
    (word_line_written c.put_kind-n.ensures c.put_numbers-n.ensures c.put_byte.ensures
    (omega arith))
