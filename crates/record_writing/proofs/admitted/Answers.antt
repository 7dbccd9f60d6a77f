-- `record_writing::admitted` meets its contract: the statics are those given, the rates their minima, the two prices
-- those given, and all else is at 0.
use Rattle.paper_desk.specs.Desk.{admitted}
use Rattle.inputs.proofs.Facts.{admission_facts}
use Rattle.rates_level.proofs.Statics.{valid_are_rate_statics}
use Rattle.record_writing.proofs.admitted.Goals as goal

pub minima-rates-requires : goal.minima-rates-requires
minima-rates-requires c =
    let known = admission_facts _ c.requires.valid in
    rw c.statics_of-statics.ensures (valid_are_rate_statics _ known.valid)

pub returns : goal.returns
unfolding admitted
returns c =
    let known = c.requires in
    rw (c.minima-rates.ensures, c.statics_of-statics.ensures, known.later, known.earlier)
