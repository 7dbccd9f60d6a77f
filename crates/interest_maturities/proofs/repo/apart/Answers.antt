-- `apart` meets its contract: two rates are as far apart as they are on the base.
use mathlib.Core.Path.{◌≡◌}
use mir.Facts.{to_z-of_z}
use Rattle.paper.specs.Roundings.{apart}
use Rattle.interest_maturities.specs.Lift.{lifted, lifted_apart}
use Rattle.interest_maturities.proofs.repo.apart.Goals as goal

pub returns : goal.returns
unfolding apart
returns c =
    let x : c.lifted.result ≡ lifted c.args.x =
    rw (to_z-of_z c.ranges.x) at c.lifted.ensures in
    let y : c.lifted-2.result ≡ lifted c.args.y =
    rw (to_z-of_z c.ranges.y) at c.lifted-2.ensures in
    rw (c.abs_diff.ensures, x, y) (lifted_apart _ _ c.requires.0 c.requires.1)
