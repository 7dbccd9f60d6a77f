-- `limit::own_in_range` meets its contract, by the cases of the definition.
use mir.Syntax.{w64}
use mir.Facts.{to_z-of_z}
use borrow.Author.Rules.{rules}
use Rattle.gateway.specs.LimitCalls.{own_in_range}
use Rattle.gateway.proofs.limit.own_in_range.Goals as goal

pub returns-in-None : goal.returns-in-None
unfolding own_in_range
returns-in-None c = search rules

pub returns-in-Some : goal.returns-in-Some
unfolding own_in_range
returns-in-Some c =
    let x = c.in-Some.x in
    let fits = to_z-of_z {w = w64} {z = x.repo} (record { sfits = c.struct_told-1.given.1.0.1 }) in
    rw (c.in-Some.is, rw fits at c.is_within.ensures)
