-- `text_call::band_of` meets its contract: where a pair stands in a term, the two numbers are Ym and Yn, and the band
-- is the newest kept answer of that pair.
use Rattle.text_protocol.specs.Calls.{band_of}
use mir.Facts.{to_z-of_z}
use Rattle.text_call.proofs.band_of.Goals as goal

pub returns-then-pair : goal.returns-then-pair
unfolding band_of
returns-then-pair c = let low = rw (to_z-of_z c.ranges.low) at
    c.unsigned.ensures in let high = rw (to_z-of_z c.ranges.high) at
    c.unsigned-then-pair.ensures in rw (c.if-pair.true, c.found.ensures, low, high)

pub returns : goal.returns
unfolding band_of
returns c = rw (c.if-pair.false, to_z-of_z c.ranges.low, to_z-of_z c.ranges.high)
