-- `listen_lines::say_heard` meets its contract: the line of what is heard, by the number that is answered.
use Rattle.listen_lines.proofs.LineParts.{refused_line_written, known_line_written, unknown_line_written}
use Rattle.listen_lines.proofs.say_heard.Goals as goal

pub returns-then-no-ne0 : goal.returns-then-no-ne0
returns-then-no-ne0 c =
    refused_line_written c.args.h _ c.args.place c.if-no-ne0.true c.say_two.ensures

pub returns-then-h : goal.returns-then-h
returns-then-h c =
    known_line_written c.args.h _ c.args.place c.if-no-ne0.false c.if-h.true
    c.say_message.ensures

pub returns : goal.returns
returns c =
    unknown_line_written c.args.h _ c.args.place c.if-no-ne0.false c.if-h.false
    c.say_two-2.ensures
