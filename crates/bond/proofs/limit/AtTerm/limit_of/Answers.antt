-- `bond::limit::AtTerm::limit_of` meets its contract: the definition without signs.
use Rattle.std.proofs.Common.{◌≡◌, sym}
use mir.Facts.{to_z-of_z}
use Rattle.paper_desk.specs.Limits.{grown_price, growing}
use Rattle.paper_desk.proofs.KindLaws.{bond_limit_is}
use Rattle.bond.proofs.Sizes.{grown_high}
use Rattle.bond.proofs.limit.AtTerm.limit_of.Goals as goal
use Rattle.bond.proofs.limit.AtTerm.limit_of.Goals.{After-grown_price}

grown_is : (c : After-grown_price)
    → c.grown_price.result
    ≡ grown_price
    (growing c.before.args.self.x.k c.before.args.repo
    (record { num = c.before.args.x; den = c.before.args.den }))
grown_is c = rw (to_z-of_z c.before.ranges.repo) at c.grown_price.ensures

pub in_per_cent-requires : goal.in_per_cent-requires
in_per_cent-requires c =
    rw (grown_is (goal.at.in_per_cent-requires c).After-grown_price)
    (grown_high c.args.x c.args.den c.args.self.x.k c.args.repo c.requires)

pub returns : goal.returns
returns c =
    rw (c.in_per_cent.ensures, grown_is (goal.at.returns c).After-grown_price)
    (sym (bond_limit_is c.args.way c.args.self.b _ c.args.self.scale_range.face))
