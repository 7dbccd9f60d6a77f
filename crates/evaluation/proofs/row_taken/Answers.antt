-- `evaluation::row_taken` meets its contract: its two tests are the definition's.
use Rattle.paper_desk.specs.Evaluation.{is_crossed_row}
use Rattle.evaluation.proofs.row_taken.Goals as goal

pub returns : goal.returns
unfolding is_crossed_row
returns c = rw (c.row_fits.ensures, c.are_crossed.ensures)
