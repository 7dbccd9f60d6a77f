-- `listen_lines::say_one` meets its contract: the word, the number and the end of the line.
use native.Mathlib.Omega.{arith}
use Rattle.listen_lines.proofs.LineParts.{word_line_written}
use Rattle.listen_lines.proofs.say_one.Goals as goal

pub returns : goal.returns
returns c =
    word_line_written c.put_bytes-n.ensures c.put_next-n.ensures c.put_byte.ensures (omega arith)
