-- `record_evaluation::valid_day` meets its contract: its two tests are the definition's.
use Rattle.record_evaluation.proofs.valid_day.Goals as goal

pub returns : goal.returns
returns c = rw (c.in_range.ensures, c.valid_day_numbers.ensures)
