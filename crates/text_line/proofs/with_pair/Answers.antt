-- `text_line::with_pair` meets its contract: `first_low` says where the three RRCL stand, so that each flag is set
-- at the place that the definition sets it at.
use Rattle.text_protocol.specs.Line.{with_pair}
use Rattle.text_line.proofs.with_pair.Goals as goal

pub returns : goal.returns
unfolding with_pair
returns c =
    let lows = c.first_low-low.ensures in
    rw (← lows.first, ← lows.second, ← lows.third)
