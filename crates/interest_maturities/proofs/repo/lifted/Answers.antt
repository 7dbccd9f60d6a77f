-- `lifted` meets its contract: the base is one that `grow` takes.
use mir.Facts.{to_z-of_z}
use borrow.Author.Rules.{rules}
use Rattle.interest_maturities.proofs.Bits.{mag_within_repo_most}
use Rattle.interest_maturities.proofs.repo.lifted.Goals as goal

pub grow-requires : goal.grow-requires
grow-requires c = let size = mag_within_repo_most c.args.x c.requires in search (rules, size)

pub returns : goal.returns
returns c = rw (to_z-of_z c.ranges.x) at c.grow.ensures
