-- `text_line::pair_fits` meets its contract: a pair stands in a call with terms alone, in place of a term's RRCL RRCH.
use Rattle.text_protocol.specs.Line.{pair_fits}
use Rattle.text_line.proofs.pair_fits.Goals as goal

pub returns : goal.returns
unfolding pair_fits
returns c =
    let lows = c.first_low-low.ensures in
    rw (← lows.first, ← lows.second, ← lows.third, c.has_terms.ensures)
