-- `bond::limit::AtTerm::limits` meets its contract, side by side; off the book the narrower of two rounded is the
-- narrower rounded.
use Rattle.paper.specs.declared.Side.TheVariants.{Upper, Lower}
use Rattle.paper_desk.proofs.LimitSizes.{valid_limit_statics}
use Rattle.paper_bonds.specs.Bonds.{limits_from}
use Rattle.paper_bonds.proofs.OffBook.{off_is}
use Rattle.bond.proofs.limit.AtTerm.limits.Goals as goal

pub returns : goal.returns
unfolding limits_from
returns c =
    let s = c.args.self in
    let face = s.scale_range.face in
    let divisor = (valid_limit_statics s.st s.st_value).divisor_low in
    rw (
      c.off_limit-2.ensures,
      c.off_limit.ensures,
      c.band_limit-upper.ensures,
      c.band_limit-lower.ensures,
      off_is s.b s.st Lower s.p.units s.s1.bp 0 s.x.k s.x.low face divisor,
      off_is s.b s.st Upper s.p.units s.s1.bp 0 s.x.k s.x.high face divisor,
    )
