-- `text_out::put_next` meets its contract: a blank, and a number.
use Rattle.text_bytes.specs.Numbers.{signed, next}
use Rattle.text_out.specs.Told.{told_one}
use Rattle.text_out.specs.Wrote.{then}
use Rattle.text_out.proofs.put_next.Goals as goal

pub returns : goal.returns
unfolding next signed
returns c = told_one (then c.put_byte-n.ensures c.put_number.ensures)
