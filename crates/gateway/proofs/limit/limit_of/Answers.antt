-- `limit::limit_of` meets its contract, by which limit is asked for.
use mir.Syntax.{w64}
use mir.Facts.{to_z-of_z}
use Rattle.gateway.specs.LimitCalls.{limit_figure, range_has_inputs, band_has_inputs}
use Rattle.gateway.proofs.limit.limit_of.Goals as goal

pub range_limit-requires : goal.range_limit-requires
range_limit-requires c = range_has_inputs c.in-None.is c.requires.limit_inputs

pub band_limit-requires : goal.band_limit-requires
band_limit-requires c =
    let x = c.in-Some.x in
    rw (to_z-of_z {z = x.repo} (record { sfits = c.struct_told-1.given.1.0.1 }))
    record { st_value = c.requires.st_value; band_inputs = band_has_inputs c.in-Some.is c.requires.limit_inputs }

pub returns-in-None : goal.returns-in-None
unfolding limit_figure
returns-in-None c = rw c.in-None.is c.range_limit.ensures

pub returns-in-Some : goal.returns-in-Some
unfolding limit_figure
returns-in-Some c =
    let x = c.in-Some.x in
    let fits = to_z-of_z {w = w64} {z = x.repo} (record { sfits = c.struct_told-1.given.1.0.1 }) in
    rw c.in-Some.is (rw fits at c.band_limit.ensures)
