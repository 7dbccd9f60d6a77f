-- `text_out::put_next_signed` meets its contract: a blank, and a signed number.
use Rattle.text_bytes.specs.Numbers.{next}
use Rattle.text_out.specs.Told.{told_one}
use Rattle.text_out.specs.Wrote.{then}
use mir.Facts.{to_z-of_z}
use Rattle.text_out.proofs.put_next_signed.Goals as goal

pub returns : goal.returns
unfolding next
returns c = rw (to_z-of_z c.ranges.x) at (told_one (then
    c.put_byte-n.ensures c.put_signed.ensures))
