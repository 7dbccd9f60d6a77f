-- `listen_lines::say_two` meets its contract: the word, the two numbers and the end of the line.
use native.Mathlib.Omega.{arith}
use Rattle.text_out.specs.Told.{both}
use Rattle.listen_lines.proofs.LineParts.{word_line_written}
use Rattle.listen_lines.proofs.say_two.Goals as goal

pub returns : goal.returns
returns c =
    word_line_written c.put_bytes-n.ensures (both c.put_next-n.ensures c.put_next-n-2.ensures)
    c.put_byte.ensures (omega arith)
