-- `say_message` meets its contract: an `end` by its count and its sum, every other message by its fields.
use Rattle.listen_lines.proofs.LineParts.{end_line_written, other_line_written}
use Rattle.listen_lines.proofs.say_message.Goals as goal

pub returns-then-m-eq-END : goal.returns-then-m-eq-END
returns-then-m-eq-END c =
    end_line_written c.args.m c.if-m-eq-END.true
    (rw (c.count_said.ensures, c.sum_said.ensures) at c.say_two.ensures)

pub returns : goal.returns
returns c =
    other_line_written c.args.m c.if-m-eq-END.false c.say_fields.ensures
