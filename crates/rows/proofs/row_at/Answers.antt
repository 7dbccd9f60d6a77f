-- `rows::row_at` meets its contract: each number stands at its place of the row, and a row in range has none below zero
-- but the repo rate, whose bits are read back.
use mir.Syntax.{w64}
use mir.Facts.{to_z-of_z}
use Rattle.paper.specs.Ranges.{row_of, row_at}
use borrow.Author.Rules.{rules}
use Rattle.rows.specs.RowLaws.{Natural, valid_not_below_zero}
use Rattle.rows.proofs.row_at.Goals as goal
use Rattle.rows.proofs.row_at.Goals.{Start}

natural : (c : Start) → Natural (row_at c.args.rows.now c.args.at)
natural c = valid_not_below_zero _ c.requires.at_value

pub natural_at-requires : goal.natural_at-requires
unfolding row_at
natural_at-requires c = record { i_in_bounds = search rules; pos_value = (natural (goal.at.natural_at-requires c).Start).t }

pub natural_at-requires-2 : goal.natural_at-requires-2
unfolding row_at
natural_at-requires-2 c = record { i_in_bounds = search rules; pos_value = (natural (goal.at.natural_at-requires-2 c).Start).central }

pub natural_at-requires-3 : goal.natural_at-requires-3
unfolding row_at
natural_at-requires-3 c = record { i_in_bounds = search rules; pos_value = (natural (goal.at.natural_at-requires-3 c).Start).close }

pub natural_at-requires-4 : goal.natural_at-requires-4
unfolding row_at
natural_at-requires-4 c = record { i_in_bounds = search rules; pos_value = (natural (goal.at.natural_at-requires-4 c).Start).bid }

pub natural_at-requires-5 : goal.natural_at-requires-5
unfolding row_at
natural_at-requires-5 c = record { i_in_bounds = search rules; pos_value = (natural (goal.at.natural_at-requires-5 c).Start).ask }

pub natural_at-requires-6 : goal.natural_at-requires-6
unfolding row_at
natural_at-requires-6 c =
    record { i_in_bounds = search rules; pos_value = (natural (goal.at.natural_at-requires-6 c).Start).volume }

pub returns : goal.returns
unfolding row_of row_at
returns c =
    rw (
      c.natural_at-6.ensures,
      c.natural_at-5.ensures,
      c.natural_at-4.ensures,
      c.natural_at-3.ensures,
      to_z-of_z {w = w64} (record { sfits = c.result-1.given }),
      c.natural_at-2.ensures,
      c.natural_at.ensures,
    )
