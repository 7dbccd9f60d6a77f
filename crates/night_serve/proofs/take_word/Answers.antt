-- `night_serve::take_word` meets its contract: a word more.
use mathlib.Core.Path.{sym, ap, ◌∙◌}
use native.Mathlib.Omega.{arith}
use lib.ListN.{length, length-set}
use mir.Facts.{to_z-of_z}
use mir.Syntax.{w64}
use borrow.Author.Rules.{rules}
use Rattle.night_serve.proofs.Words.{not_true, not_false, may_have_room, pair_has_room, takes_behind, takes_one, takes_two}
use Rattle.night_serve.proofs.Words.{takes_no_place, takes_unfit, takes_neither}
use Rattle.night_serve.proofs.take_word.Goals as goal

pub keep-requires : goal.keep-requires
keep-requires c =
    let h = may_have_room _ _ (sym c.may_stand.ensures ∙ c.if-may_stand.true) in
    omega (arith, c.requires.0, h)

pub keep-requires-then-pair_fits : goal.keep-requires-then-pair_fits
keep-requires-then-pair_fits c =
    let h = pair_has_room _ (sym c.pair_fits.ensures ∙ c.if-pair_fits.true) in
    omega (arith, c.requires.0, h)

pub keep-requires-then-pair_fits-2 : goal.keep-requires-then-pair_fits-2
keep-requires-then-pair_fits-2 c =
    let h = pair_has_room _ (sym c.pair_fits.ensures ∙ c.if-pair_fits.true) in
    let l = simp length-set at (ap length c.keep-then-pair_fits.ensures) in
    omega (arith, c.requires.0, h, l)

pub returns-then-not-a : goal.returns-then-not-a
returns-then-not-a c =
    takes_behind _ _ c.requires.0 c.requires.1 _ (not_true _ c.if-not-a.true)

pub returns-then-may_stand : goal.returns-then-may_stand
returns-then-may_stand c =
    let z = to_z-of_z {w = w64} {z = c.in-One.z} (search rules) in
    takes_one _ _ c.requires.0 c.requires.1 _ (not_false _ c.if-not-a.false) _ c.in-One.is _
    (rw z at c.keep.ensures) (rw z at (sym c.may_stand.ensures ∙ c.if-may_stand.true))

pub returns-then-pair_fits : goal.returns-then-pair_fits
returns-then-pair_fits c =
    let z₁ = to_z-of_z {w = w64} {z = c.in-Two.ym} (search rules) in
    let z₂ = to_z-of_z {w = w64} {z = c.in-Two.yn} (search rules) in
    let f = sym c.pair_fits.ensures ∙ c.if-pair_fits.true in
    takes_two _ _ c.requires.0 c.requires.1 _ (not_false _ c.if-not-a.false) _ _ c.in-Two.is _ _ _
    (rw z₁ at c.keep-then-pair_fits.ensures) (rw z₂ at c.keep-then-pair_fits-2.ensures) (pair_has_room _ f) f c.with_pair.ensures

pub returns-else-may_stand : goal.returns-else-may_stand
returns-else-may_stand c =
    let z = to_z-of_z {w = w64} {z = c.in-One.z} (search rules) in
    takes_no_place _ _ c.requires.0 c.requires.1 _ (not_false _ c.if-not-a.false) _ c.in-One.is _
    c.spoilt.ensures (rw z at (sym c.may_stand.ensures ∙ c.if-may_stand.false))

pub returns-else-pair_fits : goal.returns-else-pair_fits
returns-else-pair_fits c =
    takes_unfit _ _ c.requires.0 c.requires.1 _ (not_false _ c.if-not-a.false) _ _ c.in-Two.is _
    c.spoilt-in-Two.ensures (sym c.pair_fits.ensures ∙ c.if-pair_fits.false)

pub returns-in-Neither : goal.returns-in-Neither
returns-in-Neither c =
    takes_neither _ _ c.requires.0 c.requires.1 _ (not_false _ c.if-not-a.false) _
    c.spoilt-in-Neither.ensures
    c.in-Neither.is
