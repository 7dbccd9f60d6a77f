-- `rows::row_crossed` meets its contract: the bid and the ask stand at their places of the row.
use Rattle.paper.specs.Ranges.{row_of, row_at}
use Rattle.paper_desk.specs.Evaluation.{is_crossed_row}
use Rattle.rows.proofs.row_crossed.Goals as goal

pub returns : goal.returns
unfolding is_crossed_row row_of row_at
returns c =
    rw (c.are_crossed.ensures, c.unsigned_at-2.ensures, c.unsigned_at.ensures)
