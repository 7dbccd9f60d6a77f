-- `limits::limit_within` meets its contract: the narrower of the two rounded inward is the narrower rounded inward,
-- which is at most twice the greatest price and so a limit.
use mathlib.Core.Path.{◌≡◌, sym, ◌∙◌}
use native.Mathlib.Omega.{arith}
use mir.Facts.{to_z-of_z}
use Rattle.paper_desk.specs.Limits.{band_limit}
use Rattle.limits.specs.LimitRanges.{valid_limit_statics}
use Rattle.limits.specs.LimitLaws.{band_is_narrower, band_is_farthest}
use Rattle.limits.specs.LimitBounds.{band_high}
use Rattle.limits.proofs.limit_within.Goals as goal
use Rattle.limits.proofs.limit_within.Goals.{After-narrower}

is_limit_lem : (c : After-narrower)
    → let a = c.before.before.before.args in
    c.narrower.result ≡ band_limit a.st a.p.units a.s1.bp a.k a.repo a.c a.side
is_limit_lem c =
    let m = c.before in
    let s = m.before.before in
    let a = s.args in
    let v = valid_limit_statics a.st s.requires.st_value in
    rw (c.narrower.ensures, s.requires.units_value, m.monitored_limit-monitored.ensures, to_z-of_z s.ranges.repo)
    (sym (band_is_narrower a.st a.side a.p.units a.s1.bp a.c a.k a.repo v
    m.before.if-st.true))

pub of-requires : goal.of-requires
of-requires c =
    let a = c.args in
    let v = valid_limit_statics a.st c.requires.st_value in
    let most = band_high a.st a.side a.p a.s1 a.c a.k a.repo v c.requires.band_inputs in
    omega (arith, is_limit_lem (goal.at.of-requires c).After-narrower, most)

pub returns-then-st : goal.returns-then-st
returns-then-st c = rw c.of.ensures (is_limit_lem (goal.at.returns-then-st c).After-narrower)

pub returns-else-st : goal.returns-else-st
returns-else-st c =
    let a = c.args in
    c.requires.units_value
    ∙ sym (band_is_farthest a.st a.side a.p.units a.s1.bp a.c a.k a.repo c.if-st.false)
