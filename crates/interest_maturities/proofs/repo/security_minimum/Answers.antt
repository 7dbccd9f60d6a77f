-- `security_minimum` meets its contract: the difference of two rates is that of what they are on the base.
use mathlib.Core.Path.{◌≡◌}
use Prim.Native.Nat.{◌+◌, ◌-◌}
use native.Mathlib.Omega.{arith}
use mir.Facts.{to_z-of_z}
use Rattle.interest_maturities.specs.Lift.{lifted, lifted_within, lifted_part}
use Rattle.interest_maturities.proofs.repo.security_minimum.Goals as goal
use Rattle.interest_maturities.proofs.repo.security_minimum.Goals.{After-lifted, After-lifted-2}

-- what the two calls gave
index_is : (c : After-lifted) → c.lifted.result ≡ lifted c.before.args.index
index_is c = rw (to_z-of_z c.before.ranges.index) at c.lifted.ensures

rate_is : (c : After-lifted-2) → c.lifted-2.result ≡ lifted c.before.before.args.rate
rate_is c = rw (to_z-of_z c.before.before.ranges.rate) at c.lifted-2.ensures

pub overflow_add-lifted : goal.overflow_add-lifted
overflow_add-lifted c =
    omega (arith, index_is (goal.at.overflow_add-lifted c).After-lifted, (lifted_within c.args.index c.requires.0).0, c.requires.2)

pub returns : goal.returns
returns c =
    let a = c.args in
    let is : c.saturating_sub.result ≡ lifted a.index + a.sec - lifted a.rate =
    rw (c.saturating_sub.ensures, index_is (goal.at.returns c).After-lifted, rate_is (goal.at.returns c).After-lifted-2) in (
      rw is (lifted_part a.index a.rate a.sec c.requires.0 c.requires.1),
      omega (
        arith,
        is,
        (lifted_within a.index c.requires.0).0,
        (lifted_within a.rate c.requires.1).1,
        c.requires.2,
      ),
    )
