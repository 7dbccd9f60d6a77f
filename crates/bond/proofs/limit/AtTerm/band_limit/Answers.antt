-- `bond::limit::AtTerm::band_limit` meets its contract: the narrower of the two rounded is the narrower rounded.
use Rattle.std.proofs.Common.{◌≡◌, sym, ◌∙◌}
use Rattle.paper_desk.specs.Limits.{bond, inward, bond_limit_of, growing, farthest, LimitStatics}
use Rattle.paper_desk.proofs.LimitSizes.{valid_limit_statics}
use Rattle.paper_desk.proofs.KindLaws.{band_monitored, band_unmonitored}
use Rattle.limits.specs.LimitLaws.{farthest_high}
use Rattle.limits.specs.Sides.{repo_of}
use Rattle.bond.proofs.Sizes.{farthest_is_shifted}
use Rattle.bond.proofs.limit.AtTerm.band_limit.Goals as goal
use Rattle.bond.proofs.limit.AtTerm.band_limit.Goals.{After-shifted_limit-farthest, Start}

statics_in_range : (s : Start) → LimitStatics s.args.self.st
statics_in_range s = valid_limit_statics s.args.self.st s.args.self.st_value

-- the farthest limit
farthest_is : (c : After-shifted_limit-farthest)
    → let a = c.before.before.args in
    c.shifted_limit-farthest.result
    ≡ bond_limit_of (inward a.side) a.self.b (growing a.self.x.k a.self.b.repo (farthest a.self.st a.side a.self.p.units))
farthest_is c =
    let a = c.before.before.args in
    rw (farthest_is_shifted a.self.st a.side a.self.p.units, ← c.before.farthest_rate.ensures)
    c.shifted_limit-farthest.ensures

pub shifted_limit-farthest-requires : goal.shifted_limit-farthest-requires
shifted_limit-farthest-requires c =
    rw c.farthest_rate.ensures
    (farthest_high c.args.self.st c.args.side (statics_in_range (goal.at.shifted_limit-farthest-requires c).Start))

pub returns-then-self : goal.returns-then-self
returns-then-self c =
    let s = c.args.self in
    let side = c.args.side in
    rw (c.narrower.ensures, farthest_is (goal.at.returns-then-self c).After-shifted_limit-farthest, c.monitored_limit.ensures)
    (sym
    (band_monitored (bond s.b) s.st side s.p.units s.s1.bp 0 s.x.k (repo_of side s.x) s.scale_range.face
    (statics_in_range (goal.at.returns-then-self c).Start).divisor_low c.if-self.true))

pub returns-else-self : goal.returns-else-self
returns-else-self c =
    let s = c.args.self in
    let side = c.args.side in
    farthest_is (goal.at.returns-else-self c).After-shifted_limit-farthest
    ∙ sym (band_unmonitored (bond s.b) s.st side s.p.units s.s1.bp 0 s.x.k (repo_of side s.x) c.if-self.false)
