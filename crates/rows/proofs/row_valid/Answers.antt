-- `rows::row_valid` meets its contract: its two tables have the definition's ranges, in its order, and a close for a
-- volume is its last test.
use native.Mathlib.Nat.{add-zero}
use Rattle.paper.specs.Ranges.{valid_row, row_at}
use Rattle.exact.specs.Within.{within_first}
use Rattle.rows.proofs.row_valid.Goals as goal

pub returns : goal.returns
unfolding valid_row row_at within_first
returns c = rw (c.close_for_volume.ensures, c.all_within.ensures, add-zero)
